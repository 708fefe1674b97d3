-- A permitted packet leaves one image: what `Carries` says fixes the byte at each of the image's places.
use Prim.Native.Nat.{ℕ, ◌+◌, ◌-◌, ◌*◌, ◌/◌, ◌%◌, ◌^◌, ◌≤◌, ◌<◌}
use native.Mathlib.Omega.{arith}
use native.Mathlib.Decide.{dec_lt, ℕ_discrete}
use mathlib.Core.Path.{◌≡◌, refl, sym, ◌∙◌, subst}
use mathlib.Core.Logic.{◌≢◌, inl, inr}
use mathlib.Core.List.{List, ◌∷◌}
use lib.ListN.{length, get_or}
use lib.Seq.{ext_get_or}
use Rattle.flash.specs.Blocks.{part}
use Rattle.flash.proofs.Places.{block_of_place, one_spot}
use Rattle.demands.specs.Flash.{InBlock, Address, Unprotected}
use Rattle.demands.specs.Changes.{Programmed, Erased, Programs, Permitted, Leaves, Carries}
use Rattle.demands.specs.Changes.Programs.{page, bytes}
use Rattle.demands.specs.Changes.Permitted.{program, block, all}
use Rattle.demands.proofs.Records.{block_is, address_is, place_address}

-- two images with the same byte at each place
by_places : (l m : List ℕ) → length l ≡ 20480 → length m ≡ 20480 → ((i k : ℕ) → InBlock i k → get_or l k 0 ≡ get_or m k 0) → l ≡ m
by_places l m p q f =
    ext_get_or 0 l m (p ∙ sym q)
    (λ k h. let w = block_of_place part k (omega (arith, p)) in f w.0 k ((block_is w.0 k).1 (w.2, w.3)))

module _ (img : List ℕ) (size : length img ≡ 20480) (l m : List ℕ) where
  pub one_programmed : {a : ℕ} {ds : List ℕ} → Programmed a ds img l → Programmed a ds img m → l ≡ m
  one_programmed {a} {ds} p q = by_places l m (p.size ∙ size) (q.size ∙ size) (λ i k b. let w = place_address b in at i k w.0 w.1 (dec_lt w.0 a) (dec_lt w.0 (a + length ds)))
    where
      at : (i k x : ℕ) → Address x i k → Dec (x < a) → Dec (x < a + length ds) → get_or l k 0 ≡ get_or m k 0
      at i k x d (yes s) t = p.elsewhere x i k d (inl s) ∙ sym (q.elsewhere x i k d (inl s))
      at i k x d (no s) (no t) = let e : a + length ds ≤ x = omega arith in p.elsewhere x i k d (inr e) ∙ sym (q.elsewhere x i k d (inr e))
      at i k x d (no s) (yes t) =
          let e : x ≡ a + (x - a) = omega arith in
          let g : Address (a + (x - a)) i k = subst (λ (y : ℕ). Address y i k) e d in
          let h : x - a < length ds = omega arith in
          p.there (x - a) i k h g ∙ sym (q.there (x - a) i k h g)

  pub one_erased : (P : ℕ → Type 0) → ((i : ℕ) → Dec (P i)) → Erased P img l → Erased P img m → l ≡ m
  one_erased P decide p q = by_places l m (p.size ∙ size) (q.size ∙ size) (λ i k b. at i k b (decide i))
    where
      at : (i k : ℕ) → InBlock i k → Dec (P i) → get_or l k 0 ≡ get_or m k 0
      at i k b (yes s) = p.there i k b s ∙ sym (q.there i k b s)
      at i k b (no s) = p.elsewhere i k b s ∙ sym (q.elsewhere i k b s)

  -- a program's address and data, from the bytes of its packet
  of_bytes : {packet xs : List ℕ} {a reach : ℕ} → Programs packet a xs reach → (low mid high : ℕ) (ds : List ℕ) → packet ≡ 0x49 ∷ low ∷ mid ∷ high ∷ length ds ∷ ds
      → (a ≡ low + 256 * mid + 65536 * high) × (xs ≡ ds)
  of_bytes (page h) low mid high ds e = let z : ◌≡◌ {A = ℕ} 0x41 0x49 = cc in absurd (omega arith)
  of_bytes (bytes {low = x} {mid = y} {high = z} {ds = xs} h) low mid high ds e =
      let a : x ≡ low = cc in
      let b : y ≡ mid = cc in
      let c : z ≡ high = cc in
      let d : xs ≡ ds = cc in
      (omega arith, d)

  one_program : {packet ds es : List ℕ} {a b reach most : ℕ} → Programs packet a ds reach → Programs packet b es most → Programmed b es img m → Programmed a ds img m
  one_program (page h) (page i) g = g
  one_program {b = b} (bytes {low} {mid} {high} {ds} h) q g =
      let w = of_bytes q low mid high ds refl in
      subst (λ (x : ℕ). Programmed x ds img m) w.0 (subst (λ (xs : List ℕ). Programmed b xs img m) w.1 g)

  -- a program packet is no erase
  writes_first : {packet ds : List ℕ} {a reach : ℕ} → Programs packet a ds reach → (b : ℕ) (xs : List ℕ) → packet ≡ b ∷ xs → b ≢ 0x20 × b ≢ 0xA7
  writes_first (page h) b xs e = let z : b ≡ 0x41 = cc in (λ q. omega arith, λ q. omega arith)
  writes_first (bytes h) b xs e = let z : b ≡ 0x49 = cc in (λ q. omega arith, λ q. omega arith)

  one_left : {p : ℕ} {packet : List ℕ} (c d : Permitted p packet) → Leaves c img l → Leaves d img m → l ≡ m
  one_left (program q f) (program r g) x y = one_programmed x (one_program q r y)
  one_left (program q f) (block d g) x y = absurd ((writes_first q 0x20 _ refl).0 refl)
  one_left (program q f) all x y = absurd ((writes_first q 0xA7 _ refl).1 refl)
  one_left (block d f) (program q g) x y = absurd ((writes_first q 0x20 _ refl).0 refl)
  one_left all (program q g) x y = absurd ((writes_first q 0xA7 _ refl).1 refl)
  one_left (block {mid} {high} {i} {k} d f) (block {i = j} {k = n} e g) x y =
      let a = (address_is (256 * mid + 65536 * high) i k).0 d in
      let b = (address_is (256 * mid + 65536 * high) j n).0 e in
      let z : j ≡ i = (one_spot b a).0 in
      one_erased (λ (x : ℕ). x ≡ i) (λ x. ℕ_discrete x i) x (subst (λ (y : ℕ). Erased (λ (x : ℕ). x ≡ y) img m) z y)
  one_left {p} all all x y = one_erased (Unprotected p) (λ i. ℕ_discrete (p / 2 ^ i % 2) 0) x y

  -- "takes its full effect": the effect leaves nothing of the image open
  pub one_effect : {p : ℕ} {packet : List ℕ} → Carries p img packet l → Carries p img packet m → l ≡ m
  one_effect c d = one_left c.0 d.0 c.1 d.1
