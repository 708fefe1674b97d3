-- Stretches are pieces of which none begins another: the zeros of each end where its last byte, which is not 0, stands.
use Prim.Native.Nat.{ℕ, zero, suc, ◌<◌}
use native.Mathlib.Omega.{arith}
use native.Mathlib.Decide.{ℕ_discrete}
use mathlib.Core.Logic.{◌≢◌}
use mathlib.Core.Path.{◌≡◌, refl, ap, sym, ◌∙◌}
use mathlib.Core.List.{List, [], ◌∷◌, ◌++◌, append_assoc}
use lib.ListN.{length, replicate, length-append}
use Rattle.packets.specs.Pieces.{Stretch, stretch_bytes, Wakes}
use Rattle.packets.specs.Readings.{Bytes}
use Rattle.packets.proofs.Decisions.{wakes?}
use Rattle.packets.proofs.Cuts.{First, ends, begins, Code}

abbrev pub Ended : Stretch → Type 0
Ended s = s.last ≢ 0x00

abbrev pub Zeros : List ℕ → Type 0
Zeros t = (n : ℕ) × (t ≡ replicate n 0x00)

pub wakes_ended : (s : Stretch) → Wakes s → Ended s
wakes_ended s w = omega arith

pub some_stretch : (s : Stretch) → 0 < length (stretch_bytes s)
some_stretch s = omega (arith, length-append (replicate s.zeros 0x00) (s.last ∷ []))

pub first_stretch : (bs : List ℕ) → Bytes bs → First stretch_bytes Ended Zeros bs
first_stretch [] y = ends (0, refl)
first_stretch (b ∷ bs) y = go (ℕ_discrete b 0x00) (first_stretch bs y.1)
  where
    go : Dec (b ≡ 0x00) → First stretch_bytes Ended Zeros bs → First stretch_bytes Ended Zeros (b ∷ bs)
    go (no n) f = begins (record { zeros = 0; last = b }) bs n refl
    go (yes z) (ends (n, e)) = ends (suc n, cc)
    go (yes z) (begins s rest g e) = begins (record { zeros = suc s.zeros; last = s.last }) rest g (cc)

same_zeros : (m n a b : ℕ) (r s : List ℕ) → a ≢ 0x00 → b ≢ 0x00 → replicate m 0x00 ++ a ∷ r ≡ replicate n 0x00 ++ b ∷ s → (m ≡ n) × (a ≡ b) × (r ≡ s)
same_zeros zero zero a b r s f g e = (refl, cc, cc)
same_zeros zero (suc n) a b r s f g e = absurd (f (cc))
same_zeros (suc m) zero a b r s f g e = absurd (g (cc))
same_zeros (suc m) (suc n) a b r s f g e = let i = same_zeros m n a b r s f g (cc) in (ap suc i.0, i.1, i.2)

spelled_out : (s : Stretch) (r : List ℕ) → stretch_bytes s ++ r ≡ replicate s.zeros 0x00 ++ s.last ∷ r
spelled_out s r = append_assoc (replicate s.zeros 0x00) (s.last ∷ []) r

pub front_stretch : (x y : Stretch) (r s : List ℕ) → Ended x → Ended y → stretch_bytes x ++ r ≡ stretch_bytes y ++ s → (x ≡ y) × (r ≡ s)
front_stretch x y r s f g e =
    let i = same_zeros x.zeros y.zeros x.last y.last r s f g (sym (spelled_out x r) ∙ (e ∙ spelled_out y s)) in
    let z : x.zeros ≡ y.zeros = i.0 in
    let l : x.last ≡ y.last = i.1 in
    (λ j. record { zeros = z j; last = l j }, i.2)

only_zeros : (n z b : ℕ) (r : List ℕ) → replicate n 0x00 ≡ replicate z 0x00 ++ b ∷ r → b ≡ 0x00
only_zeros zero zero b r e = cc
only_zeros zero (suc z) b r e = cc
only_zeros (suc n) zero b r e = cc
only_zeros (suc n) (suc z) b r e = only_zeros n z b r (cc)

pub zeros_not_begun : (t : List ℕ) (s : Stretch) (r : List ℕ) → Zeros t → Ended s → t ≡ stretch_bytes s ++ r → ⊥
zeros_not_begun t s r (n, z) g e = g (only_zeros n s.zeros s.last r (sym z ∙ (e ∙ spelled_out s r)))

abbrev pub stretches : Code
stretches =
    record {
      Piece = Stretch;
      bytes = stretch_bytes;
      Good = Ended;
      Stop = Wakes;
      End = Zeros;
      some_bytes = some_stretch;
      stop_good = wakes_ended;
      stop? = wakes?;
      first = first_stretch;
      front = front_stretch;
      not_begun = zeros_not_begun;
    }
