-- Each rule of a reading can be decided, since it compares numbers: the numbers compared are read off the rule itself.
use Prim.Native.Nat.{ℕ}
use native.Mathlib.Omega.{arith}
use native.Mathlib.Decide.{ℕ_discrete, dec_le, dec_lt}
use mathlib.Core.Logic.Dec
use mathlib.Core.Path.{◌≡◌, refl}
use mathlib.Core.List.{List, [], ◌∷◌}
use Rattle.packets.specs.Pieces.{Each, Stretch, Wakes, Dull, Packet, lone, check, Formed, Unfinished, right}
use Rattle.packets.specs.Readings.{Log, slept, stayed_shut, opened, Wrong, Reads}

pub no_number : ◌≡◌ {A = ℕ} 0 1 → ⊥
no_number e = omega arith

unfoldable pub list? : (xs ys : List ℕ) → Dec (xs ≡ ys)
unfolding ℕ_discrete
list? [] [] = yes refl
list? [] (y ∷ ys) = no (λ e. no_number (cc))
list? (x ∷ xs) [] = no (λ e. no_number (cc))
list? (x ∷ xs) (y ∷ ys) = go (ℕ_discrete x y) (list? xs ys)
  where
    go : Dec (x ≡ y) → Dec (xs ≡ ys) → Dec (x ∷ xs ≡ y ∷ ys)
    go (yes a) (yes b) = yes (cc)
    go (no n) d = no (λ e. n (cc))
    go (yes a) (no n) = no (λ e. n (cc))

unfoldable pub packet? : (p q : Packet) → Dec (p ≡ q)
unfolding ℕ_discrete list?
packet? (lone a) (lone b) = go (ℕ_discrete a b)
  where
    go : Dec (a ≡ b) → Dec (lone a ≡ lone b)
    go (yes e) = yes (cc)
    go (no n) = no (λ e. n (cc))
packet? (lone b) (check low mid high ds) = no (λ e. no_number (cc))
packet? (check low mid high ds) (lone b) = no (λ e. no_number (cc))
packet? (check low mid high ds) (check low' mid' high' ds') = go (list? (low ∷ mid ∷ high ∷ ds) (low' ∷ mid' ∷ high' ∷ ds'))
  where
    go : Dec (low ∷ mid ∷ high ∷ ds ≡ low' ∷ mid' ∷ high' ∷ ds') → Dec (check low mid high ds ≡ check low' mid' high' ds')
    go (yes e) = yes (cc)
    go (no n) = no (λ e. n (cc))

unfoldable pub formed? : (p : Packet) → Dec (Formed p)
unfolding Dec.not ℕ_discrete dec_lt
formed? (lone b) = Dec.not (ℕ_discrete _ _)
formed? (check low mid high ds) = dec_lt _ _

unfoldable pub unfinished? : (t : List ℕ) → Dec (Unfinished t)
unfolding Dec.and ℕ_discrete dec_lt
unfinished? [] = yes tt
unfinished? (b ∷ t) = Dec.and (ℕ_discrete _ _) (dec_lt _ _)

unfoldable pub wakes? : (s : Stretch) → Dec (Wakes s)
unfolding Dec.and dec_le ℕ_discrete
wakes? s = Dec.and (dec_le _ _) (ℕ_discrete _ _)

unfoldable pub dull? : (s : Stretch) → Dec (Dull s)
unfolding Dec.and Dec.not ℕ_discrete wakes?
dull? s = Dec.and (Dec.not (ℕ_discrete _ _)) (Dec.not (wakes? s))

unfoldable pub wrong? : (ids : List ℕ) (p : Packet) → Dec (Wrong ids p)
unfolding Dec.and Dec.not formed? packet?
wrong? ids p = Dec.and (formed? p) (Dec.not (packet? p (right ids)))

unfoldable pub each? : {A : Type 0} {P : A → Type 0} → ((x : A) → Dec (P x)) → (xs : List A) → Dec (Each P xs)
unfolding Dec.and
each? d [] = yes tt
each? d (x ∷ xs) = Dec.and (d x) (each? d xs)

unfoldable pub regrouped : {A B : Type 0} → (A → B) → (B → A) → Dec A → Dec B
regrouped f g (yes a) = yes (f a)
regrouped f g (no n) = no (λ b. n (g b))

unfoldable pub reads? : (ids : List ℕ) (l : Log) → Dec (Reads ids l)
unfolding Dec.and regrouped each? dull? wakes? wrong? unfinished?
reads? ids (slept dull _) = each? dull? dull
reads? ids (stayed_shut dull wake packets rest) =
    regrouped (λ r. (r.0, r.1.0, r.1.1.0, r.1.1.1)) (λ r. (r.0, (r.1, (r.2, r.3))))
    (Dec.and (each? dull? dull) (Dec.and (wakes? wake) (Dec.and (each? (wrong? ids) packets) (unfinished? rest))))
reads? ids (opened dull wake packets unread) =
    regrouped (λ r. (r.0, r.1.0, r.1.1)) (λ r. (r.0, (r.1, r.2))) (Dec.and (each? dull? dull) (Dec.and (wakes? wake) (each? (wrong? ids) packets)))
