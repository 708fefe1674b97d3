-- Document 02's Item 3. What may be programmed ends at 0FFFF at the latest, since 10000 is outside; so a unit program, which may reach one byte less, ends before it.
use Prim.Native.Nat.{ℕ, ◌+◌, ◌-◌, ◌*◌, ◌%◌, ◌≤◌, ◌<◌}
use native.Mathlib.Omega.{arith}
use native.Mathlib.Decide.{ℕ_discrete}
use mathlib.Core.Bool.{true}
use mathlib.Core.Path.{◌≡◌, refl, ap}
use mathlib.Core.Logic.{◌⊎◌, ◌↔◌, inl, inr}
use mathlib.Core.List.{List, ◌∷◌}
use lib.ListN.{length}
use Rattle.flash.specs.Blocks.{part, holds, find, page_address}
use Rattle.flash.specs.Image.{byte_at, permitted}
use Rattle.flash.specs.Effects.{is_inside}
use Rattle.flash.proofs.Permits.{free_below, permitted_some, permitted_free}
use Rattle.unit.specs.declared.Unit.{Unit as Port}
use Rattle.unit.specs.Phases.Kind.{page_program, unit_program}
use Rattle.unit.specs.Model.{is_open}
use Rattle.protocol.specs.Endings.{bank_end}
use Rattle.protocol.specs.Step.{run}
use Rattle.protocol.specs.Rows.{Ready, May, MayNot}
use Rattle.protocol.specs.Rows.Programs.{bytes}
use Rattle.protocol.proofs.RowsMay.{may_permitted, may_or_not}
use Rattle.protocol.proofs.RowsProgram.{program_standing, program_forbidden, program_carried_out}

-- no page exceeds what a page program may reach: the bank rule forbids none
pub page_fits : (mid high : ℕ) → page_address mid high % 65536 + 256 ≤ bank_end page_program
unfolding bank_end
page_fits mid high = omega arith

-- data that each lie in a block that is not protected
module _ (p a : ℕ) (ds : List ℕ) (free : permitted part p a ds ≡ true) where
  -- they end at 0FFFF at the latest
  free_end : a + length ds ≤ 0x10000
  free_end =
      let some : 0 < length ds = permitted_some part p a ds free in
      let below : a + (length ds - 1) < 65536 = free_below p (a + (length ds - 1)) (permitted_free part p a ds free (length ds - 1) (omega arith)) in
      omega arith

  -- the bank rule forbids a unit program of data that nothing else forbids exactly where it would end with 0FFFF
  pub forbidden_alone : (bank_end unit_program < a % 65536 + length ds) ↔ (a + length ds ≡ 0x10000)
  unfolding bank_end
  forbidden_alone =
      let some : 0 < length ds = permitted_some part p a ds free in
      (λ h. omega (arith, free_end), λ e. omega arith)

  -- and a unit program of them that it does not forbid ends before 0FFFF
  unit_end : a % 65536 + length ds ≤ bank_end unit_program → a + length ds ≤ 0xFFFF
  unit_end h = go (ℕ_discrete (a + length ds) 0x10000)
    where
      go : Dec (a + length ds ≡ 0x10000) → a + length ds ≤ 0xFFFF
      go (yes e) = absurd (omega (arith, forbidden_alone.1 e))
      go (no f) = omega (arith, free_end, f)

module _ {u : Port} (ready : Ready u) (opened : is_open u.registers ≡ true) (img : List ℕ) (size : length img ≡ 20480) where
  kept : {new : List ℕ} → new ≡ img → byte_at part new 0xFFFF ≡ byte_at part img 0xFFFF
  kept e = ap (λ (l : List ℕ). byte_at part l 0xFFFF) e

  -- no unit program changes 0FFFF, whatever SRD is, and whether it may be carried out or not
  pub unit_program_keeps : (low mid high : ℕ) (ds : List ℕ) → length ds < 256
      → byte_at part (run u img (0x49 ∷ low ∷ mid ∷ high ∷ length ds ∷ ds)).image 0xFFFF ≡ byte_at part img 0xFFFF
  unfolding bank_end is_inside holds find
  unit_program_keeps low mid high ds h = go (ℕ_discrete u.registers.srd 0x80) (may_or_not (bank_end unit_program) u.settings.protection (low + 256 * mid + 65536 * high) ds)
    where
      go : Dec (u.registers.srd ≡ 0x80)
          → May (bank_end unit_program) u.settings.protection (low + 256 * mid + 65536 * high) ds ⊎ MayNot (bank_end unit_program) u.settings.protection (low + 256 * mid + 65536 * high) ds
          → byte_at part (run u img (0x49 ∷ low ∷ mid ∷ high ∷ length ds ∷ ds)).image 0xFFFF ≡ byte_at part img 0xFFFF
      go (no f) m = kept (program_standing ready opened img (bytes {ds = ds} h) f).image
      go (yes e) (inr m) = kept (program_forbidden ready opened img (bytes {ds = ds} h) e m).image
      go (yes e) (inl m) =
          let w = program_carried_out ready opened img (bytes {ds = ds} h) size e m in
          w.2.image.elsewhere 0xFFFF refl (inr (unit_end _ _ ds (may_permitted _ _ _ ds m) m.bank))
