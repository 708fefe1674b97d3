-- A byte at a command position is looked up in the table: its row's effect follows by computing, but for the test whether the unit is open.
use Prim.Native.Nat.{ℕ, zero, suc, ◌+◌, ◌≤◌}
use native.Mathlib.Omega.{arith}
use mathlib.Core.Bool.{true, false}
use mathlib.Core.Logic.{◌≢◌}
use mathlib.Core.Path.{◌≡◌, refl, sym, ◌∙◌, subst}
use mathlib.Core.List.{List, [], ◌∷◌}
use borrow.Author.Tests.{ne_eqb}
use Rattle.slices.specs.Lists.{Each}
use Rattle.unit.specs.declared.Unit.{Unit as Port}
use Rattle.unit.specs.declared.Registers.{Registers}
use Rattle.unit.specs.Model.{ended, is_open}
use Rattle.protocol.specs.Outcome.{says, quiet}
use Rattle.protocol.specs.Commands.{Command, commands, lookup, meaning, needs_open, version_bytes, effect, dropped, commanded}
use Rattle.protocol.specs.Commands.Command.{unknown, clear, status, version, time, rate}
use Rattle.protocol.specs.Step.{step}
use Rattle.protocol.specs.Rows.{Ready, Dropped, Ends, Kept, Guarded, srd_is, rate_is}
use Rattle.protocol.specs.Rows.Guarded.{drops_ff, drops_41, drops_49, drops_20, drops_a7, drops_50}
use Rattle.protocol.proofs.Steps.{step_commanding}
use Rattle.protocol.proofs.RowsLaws.{open_takes, all_take, step_taken, ends}

not_found : (b : ℕ) (rs : List (ℕ × Command)) → Each (λ (r : ℕ × Command). b ≢ r.0) rs → lookup b rs ≡ unknown
not_found b [] h = refl
not_found b (r ∷ rs) h = rw (ne_eqb b r.0 h.0) (not_found b rs h.1)

module _ {u : Port} (ready : Ready u) (img : List ℕ) where
  ended_by : (b : ℕ) (r : Registers) (said : List ℕ) → step u img b ≡ says (ended u r) img said → Ends u r (Kept img) said (step u img b)
  ended_by b r said e = subst (Ends u r (Kept img) said) (sym e) (ends u r (Kept img) img said refl)

  -- P6: 50: SRD becomes 80 (SRD1 stays)
  pub row_50 : is_open u.registers ≡ true → Ends u (srd_is u.registers 0x80) (Kept img) [] (step u img 0x50)
  unfolding meaning commands effect
  row_50 opened = ended_by 0x50 _ [] (step_taken ready img 0x50 clear refl (open_takes u clear opened))

  -- P7: 70: replies SRD, SRD1, and changes neither
  pub row_70 : Ends u u.registers (Kept img) (u.registers.srd ∷ u.registers.srd1 ∷ []) (step u img 0x70)
  unfolding meaning commands needs_open effect
  row_70 = ended_by 0x70 _ _ (step_taken ready img 0x70 status refl (all_take u status refl))

  -- P9: FB: replies 56 45 52 2E 32 2E 30 30 ("VER.2.00")
  pub row_fb : Ends u u.registers (Kept img) (0x56 ∷ 0x45 ∷ 0x52 ∷ 0x2E ∷ 0x32 ∷ 0x2E ∷ 0x30 ∷ 0x30 ∷ []) (step u img 0xFB)
  unfolding meaning commands needs_open effect version_bytes
  row_fb = ended_by 0xFB _ _ (step_taken ready img 0xFB version refl (all_take u version refl))

  -- P10: B0 to B4: replies the same byte, rate index 0 to 4
  pub row_b0_to_b4 : (n : ℕ) → n ≤ 4 → Ends u (rate_is u.registers n) (Kept img) ((0xB0 + n) ∷ []) (step u img (0xB0 + n))
  unfolding meaning commands needs_open effect
  row_b0_to_b4 n h = ended_by (0xB0 + n) _ _ (step_taken ready img (0xB0 + n) (rate n) (means n h) (all_take u (rate n) refl))
    where
      means : (n : ℕ) → n ≤ 4 → meaning (0xB0 + n) ≡ rate n
      means zero h = refl
      means (suc zero) h = refl
      means (suc (suc zero)) h = refl
      means (suc (suc (suc zero))) h = refl
      means (suc (suc (suc (suc zero)))) h = refl
      means (suc (suc (suc (suc (suc n))))) h = absurd (omega arith)

  -- P11: 00: taken, nothing
  pub row_00 : Ends u u.registers (Kept img) [] (step u img 0x00)
  unfolding meaning commands needs_open effect
  row_00 = ended_by 0x00 _ _ (step_taken ready img 0x00 time refl (all_take u time refl))

  dropped_by : (b : ℕ) → step u img b ≡ quiet u img → Dropped u img (step u img b)
  dropped_by b e = subst (Dropped u img) (sym e) (record { unit = refl; image = refl; reply = refl })

  shut : (b : ℕ) → is_open u.registers ≡ false → needs_open (meaning b) ≡ true → Dropped u img (step u img b)
  unfolding commanded dropped
  shut b closed e = dropped_by b (step_commanding u img b ready.at_a_command ∙ rw (closed, e))

  -- P1 to P6, P12: a closed unit drops FF, 41, 49, 20, A7 and 50: the byte does nothing, and the next byte is a command byte
  pub closed_drops : {b : ℕ} → Guarded b → is_open u.registers ≡ false → Dropped u img (step u img b)
  unfolding meaning commands needs_open
  closed_drops drops_ff closed = shut 0xFF closed refl
  closed_drops drops_41 closed = shut 0x41 closed refl
  closed_drops drops_49 closed = shut 0x49 closed refl
  closed_drops drops_20 closed = shut 0x20 closed refl
  closed_drops drops_a7 closed = shut 0xA7 closed refl
  closed_drops drops_50 closed = shut 0x50 closed refl

  -- P12: an unknown byte (B5 too) does nothing, and the next byte is a command byte
  pub unknown_drops : (b : ℕ) → Each (λ (c : ℕ). b ≢ c) (0xFF ∷ 0x41 ∷ 0x49 ∷ 0x20 ∷ 0xA7 ∷ 0x50 ∷ 0x70 ∷ 0xF5 ∷ 0xFB ∷ 0xB0 ∷ 0xB1 ∷ 0xB2 ∷ 0xB3 ∷ 0xB4 ∷ 0x00 ∷ [])
      → Dropped u img (step u img b)
  unfolding meaning commands effect needs_open
  unknown_drops b other = dropped_by b (step_taken ready img b unknown (not_found b commands other) (all_take u unknown refl))
