-- Which bytes begin a packet that a unit takes: nine of the table's fifteen to any unit, six to an open one; a byte is one of these or it is not, and then it does nothing.
use Prim.Native.Nat.{ℕ, zero, suc, ◌+◌, ◌≤◌}
use native.Mathlib.Omega.{arith}
use native.Mathlib.Decide.{ℕ_discrete}
use mathlib.Core.Bool.{Bool, true, false}
use mathlib.Core.Path.{◌≡◌, refl, subst⁻¹}
use mathlib.Core.Logic.{◌≢◌, ◌⊎◌, inl, inr}
use mathlib.Core.List.{List, [], ◌∷◌, ◌++◌}
use lib.ListN.{replicate}
use Rattle.slices.specs.Lists.{Each}
use Rattle.unit.specs.declared.Unit.{Unit as Port}
use Rattle.unit.specs.Model.{is_open}
use Rattle.protocol.specs.Step.{step}
use Rattle.protocol.specs.Rows.{Ready, Dropped, Guarded}
use Rattle.protocol.specs.Rows.Guarded.{drops_ff, drops_41, drops_49, drops_20, drops_a7, drops_50}
use Rattle.protocol.proofs.RowsShort.{closed_drops, unknown_drops}
use Rattle.demands.specs.Record.{Open}
use Rattle.demands.specs.Changes.Programs.{page, bytes}
use Rattle.demands.specs.Table.{Whole, Ignored}
use Rattle.demands.specs.Table.Whole.{takes_ff, takes_41_or_49, takes_20, takes_a7, takes_50, takes_70, takes_f5, takes_fb, takes_b0_to_b4, takes_00}
use Rattle.demands.proofs.Records.{open_is}

-- one of some bytes
data Among (b : ℕ) : List ℕ → Type 0 where
  here : {c : ℕ} {cs : List ℕ} → b ≡ c → Among b (c ∷ cs)
  there : {c : ℕ} {cs : List ℕ} → Among b cs → Among b (c ∷ cs)

among? : (b : ℕ) (cs : List ℕ) → Among b cs ⊎ Each (λ (c : ℕ). b ≢ c) cs
among? b [] = inr tt
among? b (c ∷ cs) = go (ℕ_discrete b c) (among? b cs)
  where
    go : Dec (b ≡ c) → Among b cs ⊎ Each (λ (c : ℕ). b ≢ c) cs → Among b (c ∷ cs) ⊎ Each (λ (c : ℕ). b ≢ c) (c ∷ cs)
    go (yes e) r = inl (here e)
    go (no n) (inl m) = inl (there m)
    go (no n) (inr f) = inr (n, f)

each_append : (P : ℕ → Type 0) (xs ys : List ℕ) → Each P xs → Each P ys → Each P (xs ++ ys)
each_append P [] ys f g = g
each_append P (x ∷ xs) ys f g = (f.0, each_append P xs ys f.1 g)

abbrev guarded : List ℕ
guarded = 0xFF ∷ 0x41 ∷ 0x49 ∷ 0x20 ∷ 0xA7 ∷ 0x50 ∷ []

abbrev free : List ℕ
free = 0x70 ∷ 0xF5 ∷ 0xFB ∷ 0xB0 ∷ 0xB1 ∷ 0xB2 ∷ 0xB3 ∷ 0xB4 ∷ 0x00 ∷ []

module _ (u : Port) where
  -- each of them begins a packet
  begin : {b : ℕ} (c : ℕ) (xs : List ℕ) → Whole u (c ∷ xs) → b ≡ c → (rest : List ℕ) × Whole u (b ∷ rest)
  begin c xs w e = (xs, subst⁻¹ (λ (x : ℕ). Whole u (x ∷ xs)) e w)

  begins_free : {b : ℕ} → Among b free → (rest : List ℕ) × Whole u (b ∷ rest)
  begins_free (here e) = begin 0x70 [] takes_70 e
  begins_free (there (here e)) = begin 0xF5 (0 ∷ 0 ∷ 0 ∷ 0 ∷ []) (takes_f5 {ds = []} (omega arith)) e
  begins_free (there (there (here e))) = begin 0xFB [] takes_fb e
  begins_free (there (there (there (here e)))) = begin 0xB0 [] (takes_b0_to_b4 {n = 0} (omega arith)) e
  begins_free (there (there (there (there (here e))))) = begin 0xB1 [] (takes_b0_to_b4 {n = 1} (omega arith)) e
  begins_free (there (there (there (there (there (here e)))))) = begin 0xB2 [] (takes_b0_to_b4 {n = 2} (omega arith)) e
  begins_free (there (there (there (there (there (there (here e))))))) = begin 0xB3 [] (takes_b0_to_b4 {n = 3} (omega arith)) e
  begins_free (there (there (there (there (there (there (there (here e)))))))) = begin 0xB4 [] (takes_b0_to_b4 {n = 4} (omega arith)) e
  begins_free (there (there (there (there (there (there (there (there (here e))))))))) = begin 0x00 [] takes_00 e
  begins_free {b = b} (there (there (there (there (there (there (there (there (there m))))))))) = elim m [ ]

  begins_guarded : Open u → {b : ℕ} → Among b guarded → (rest : List ℕ) × Whole u (b ∷ rest)
  begins_guarded o (here e) = begin 0xFF (0 ∷ 0 ∷ []) (takes_ff o) e
  begins_guarded o (there (here e)) = begin 0x41 (0 ∷ 0 ∷ replicate 256 0) (takes_41_or_49 o (page {ds = replicate 256 0} refl)) e
  begins_guarded o (there (there (here e))) = begin 0x49 (0 ∷ 0 ∷ 0 ∷ 0 ∷ []) (takes_41_or_49 o (bytes {ds = []} (omega arith))) e
  begins_guarded o (there (there (there (here e)))) = begin 0x20 (0 ∷ 0 ∷ 0 ∷ []) (takes_20 o) e
  begins_guarded o (there (there (there (there (here e))))) = begin 0xA7 (0 ∷ []) (takes_a7 o) e
  begins_guarded o (there (there (there (there (there (here e)))))) = begin 0x50 [] (takes_50 o) e
  begins_guarded o {b = b} (there (there (there (there (there (there m)))))) = elim m [ ]

  -- and no other does
  data Starts (b : ℕ) : Type 0 where
    to_any : Among b free → Starts b
    to_open : Open u → Among b guarded → Starts b

  rate_byte : (n b : ℕ) → n ≤ 4 → b ≡ 0xB0 + n → Among b free
  rate_byte zero b l e = let z : b ≡ 0xB0 = omega arith in there (there (there (here z)))
  rate_byte (suc zero) b l e = let z : b ≡ 0xB1 = omega arith in there (there (there (there (here z))))
  rate_byte (suc (suc zero)) b l e = let z : b ≡ 0xB2 = omega arith in there (there (there (there (there (here z)))))
  rate_byte (suc (suc (suc zero))) b l e = let z : b ≡ 0xB3 = omega arith in there (there (there (there (there (there (here z))))))
  rate_byte (suc (suc (suc (suc zero)))) b l e = let z : b ≡ 0xB4 = omega arith in there (there (there (there (there (there (there (here z)))))))
  rate_byte (suc (suc (suc (suc (suc n))))) b l e = absurd (omega arith)

  first_of : {packet : List ℕ} → Whole u packet → (b : ℕ) (xs : List ℕ) → packet ≡ b ∷ xs → Starts b
  first_of (takes_ff o) b xs e = let z : b ≡ 0xFF = cc in to_open o (here z)
  first_of (takes_41_or_49 o (page l)) b xs e = let z : b ≡ 0x41 = cc in to_open o (there (here z))
  first_of (takes_41_or_49 o (bytes l)) b xs e = let z : b ≡ 0x49 = cc in to_open o (there (there (here z)))
  first_of (takes_20 o) b xs e = let z : b ≡ 0x20 = cc in to_open o (there (there (there (here z))))
  first_of (takes_a7 o) b xs e = let z : b ≡ 0xA7 = cc in to_open o (there (there (there (there (here z)))))
  first_of (takes_50 o) b xs e = let z : b ≡ 0x50 = cc in to_open o (there (there (there (there (there (here z))))))
  first_of takes_70 b xs e = let z : b ≡ 0x70 = cc in to_any (here z)
  first_of (takes_f5 l) b xs e = let z : b ≡ 0xF5 = cc in to_any (there (here z))
  first_of takes_fb b xs e = let z : b ≡ 0xFB = cc in to_any (there (there (here z)))
  first_of (takes_b0_to_b4 {n} l) b xs e = let z : b ≡ 0xB0 + n = cc in to_any (rate_byte n b l z)
  first_of takes_00 b xs e = let z : b ≡ 0x00 = cc in to_any (there (there (there (there (there (there (there (there (here z)))))))))

  none_among : {b : ℕ} (cs : List ℕ) → Each (λ (c : ℕ). b ≢ c) cs → Among b cs → ⊥
  none_among (c ∷ cs) f (here e) = f.0 e
  none_among (c ∷ cs) f (there m) = none_among cs f.1 m
  none_among {b = b} [] f m = elim m [ ]

  -- a byte begins a packet, or it is ignored
  pub begins? : (b : ℕ) → ((rest : List ℕ) × Whole u (b ∷ rest)) ⊎ Ignored u b
  begins? b = go (among? b free) (among? b guarded) (ℕ_discrete u.registers.srd1 0x0C)
    where
      go : Among b free ⊎ Each (λ (c : ℕ). b ≢ c) free → Among b guarded ⊎ Each (λ (c : ℕ). b ≢ c) guarded → Dec (Open u) → ((rest : List ℕ) × Whole u (b ∷ rest)) ⊎ Ignored u b
      go (inl m) g d = inl (begins_free m)
      go (inr f) (inl m) (yes o) = inl (begins_guarded o m)
      go (inr f) (inl m) (no o) = inr (λ xs w. never (first_of w b xs refl))
        where
          never : Starts b → ⊥
          never (to_any n) = none_among free f n
          never (to_open p n) = o p
      go (inr f) (inr g) d = inr (λ xs w. never (first_of w b xs refl))
        where
          never : Starts b → ⊥
          never (to_any n) = none_among free f n
          never (to_open p n) = none_among guarded g n

  guard : {b : ℕ} → Among b guarded → Guarded b
  guard (here e) = subst⁻¹ Guarded e drops_ff
  guard (there (here e)) = subst⁻¹ Guarded e drops_41
  guard (there (there (here e))) = subst⁻¹ Guarded e drops_49
  guard (there (there (there (here e)))) = subst⁻¹ Guarded e drops_20
  guard (there (there (there (there (here e))))) = subst⁻¹ Guarded e drops_a7
  guard (there (there (there (there (there (here e)))))) = subst⁻¹ Guarded e drops_50
  guard {b = b} (there (there (there (there (there (there m)))))) = elim m [ ]

  closed : (Open u → ⊥) → is_open u.registers ≡ false
  closed n = go (is_open u.registers) refl
    where
      go : (t : Bool) → is_open u.registers ≡ t → is_open u.registers ≡ false
      go true e = absurd (n ((open_is u).1 e))
      go false e = e

  -- an ignored byte at a command does nothing
  pub ignored_drops : Ready u → (img : List ℕ) (b : ℕ) → Ignored u b → Dropped u img (step u img b)
  ignored_drops ready img b none = go (among? b free) (among? b guarded)
    where
      not_begun : (rest : List ℕ) × Whole u (b ∷ rest) → ⊥
      not_begun w = none w.0 w.1

      go : Among b free ⊎ Each (λ (c : ℕ). b ≢ c) free → Among b guarded ⊎ Each (λ (c : ℕ). b ≢ c) guarded → Dropped u img (step u img b)
      go (inl m) g = absurd (not_begun (begins_free m))
      go (inr f) (inl m) = closed_drops ready img (guard m) (closed (λ o. not_begun (begins_guarded o m)))
      go (inr f) (inr g) = unknown_drops ready img b (each_append (λ (c : ℕ). b ≢ c) guarded free g f)
