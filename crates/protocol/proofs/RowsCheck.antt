-- An ID check compares all that followed F5 with the right packet's bytes, and asks how many wrong ones were counted; a unit that started blank is in range only with SRD1 0C.
use Prim.Native.Nat.{ℕ, ◌≤◌, ◌<◌}
use native.Mathlib.Omega.{arith}
use mathlib.Core.Bool.{Bool, true, false, false≢true}
use mathlib.Core.Logic.{◌≢◌, inl, inr}
use mathlib.Core.Path.{◌≡◌, refl, ap, ap₂, sym, ◌∙◌, subst}
use mathlib.Core.List.{List, [], ◌∷◌, map}
use lib.ListN.{length}
use borrow.Author.Tests.{eqb-true}
use Rattle.flash.specs.Blocks.{part}
use Rattle.flash.specs.Image.{byte_at, id_addresses, stored_id}
use Rattle.slices.proofs.Lists.{and_both, same_true, same_refl}
use Rattle.flash.proofs.Outcomes.{true_sized}
use Rattle.unit.specs.declared.Unit.{Unit as Port}
use Rattle.unit.specs.declared.Registers.{Registers}
use Rattle.unit.specs.Model.{ended, is_open}
use Rattle.unit.specs.Phases.{position_of}
use Rattle.unit.specs.Range.{position_fits, registers_fit, in_range}
use Rattle.unit.proofs.Ranged.{BlankRule, settings_blank}
use Rattle.protocol.specs.Outcome.{quiet}
use Rattle.protocol.specs.Endings.{right_id, is_right, after_check, finished}
use Rattle.protocol.specs.Step.{run}
use Rattle.protocol.specs.Rows.{Ready, Ends, Kept, right_packet, srd1_is, after_wrong}
use Rattle.protocol.specs.Rows.Row.{after_f5}
use Rattle.protocol.proofs.Mismatches.{blank_checked, wrong_checked, right_checked, locked_checked}
use Rattle.protocol.proofs.RowsLaws.{ends}
use Rattle.protocol.proofs.RowsFront.{row_comes_to}

-- what follows F5 in the right packet
right_is : (img : List ℕ) → length img ≡ 20480 → 0xF5 ∷ right_id img ≡ right_packet img
unfolding right_id stored_id
right_is img size = rw (true_sized part img size)

-- only those bytes are right
not_right : (img xs : List ℕ) → xs ≢ right_id img → is_right img xs ≡ false
unfolding is_right
not_right img xs n = go (is_right img xs) refl
  where
    go : (t : Bool) → is_right img xs ≡ t → is_right img xs ≡ false
    go true e = absurd (n (same_true xs (right_id img) e))
    go false e = e

-- SRD1 of a unit in range that started blank
blank_open : {u : Port} → Ready u → u.settings.blank ≡ true → u.registers.srd1 ≡ 0x0C
unfolding in_range is_open
blank_open {u} ready e =
    let a = and_both (position_fits (position_of u.phase) (is_open u.registers) u.collected) _ ready.ranged in
    let b = and_both (registers_fit u.registers) _ a.1 in
    go (settings_blank u.settings u.registers b.1)
  where
    go : BlankRule u.settings u.registers → u.registers.srd1 ≡ 0x0C
    go (inl n) = absurd (false≢true (sym n ∙ e))
    go (inr (o, z)) = eqb-true u.registers.srd1 0x0C o

module _ {u : Port} (ready : Ready u) (img : List ℕ) (low mid high : ℕ) (ds : List ℕ) (small : length ds < 256) where
  -- after its last byte the registers are those after an ID check
  check_ends : (r : Registers) → after_check u.settings.blank u.registers (is_right img (low ∷ mid ∷ high ∷ length ds ∷ ds)) ≡ r
      → Ends u r (Kept img) [] (run u img (0xF5 ∷ low ∷ mid ∷ high ∷ length ds ∷ ds))
  unfolding finished
  check_ends r e =
      subst (Ends u r (Kept img) [])
      (sym (row_comes_to ready img (after_f5 {ds = ds} small) (inl refl) ∙ ap (λ (r : Registers). quiet (ended u r) img) e))
      (ends u r (Kept img) img [] refl)

  -- P16, P8: a unit that started blank stays 0C
  pub check_blank : u.settings.blank ≡ true → (u.registers.srd1 ≡ 0x0C) × Ends u u.registers (Kept img) [] (run u img (0xF5 ∷ low ∷ mid ∷ high ∷ length ds ∷ ds))
  check_blank e =
      let o : u.registers.srd1 ≡ 0x0C = blank_open ready e in
      let right : Bool = is_right img (low ∷ mid ∷ high ∷ length ds ∷ ds) in
      (o, check_ends u.registers (ap (λ (b : Bool). after_check b u.registers right) e ∙ (blank_checked u.registers right ∙ ap (srd1_is u.registers) (sym o))))

  -- P16: otherwise, if it is not the right packet, SRD1 becomes 04, also if it was 0C; and it is counted (Item 5)
  pub check_wrong : length img ≡ 20480 → u.settings.blank ≡ false → 0xF5 ∷ low ∷ mid ∷ high ∷ length ds ∷ ds ≢ right_packet img
      → Ends u (after_wrong u.registers) (Kept img) [] (run u img (0xF5 ∷ low ∷ mid ∷ high ∷ length ds ∷ ds))
  check_wrong size blank n =
      check_ends (after_wrong u.registers)
      (ap₂ (λ (b q : Bool). after_check b u.registers q) blank
      (not_right img (low ∷ mid ∷ high ∷ length ds ∷ ds) (λ e. n (ap (λ (l : List ℕ). 0xF5 ∷ l) e ∙ right_is img size)))
      ∙ wrong_checked u.registers)

module _ {u : Port} (ready : Ready u) (img : List ℕ) (size : length img ≡ 20480) (blank : u.settings.blank ≡ false) where
  right_ends : (r : Registers) → after_check false u.registers true ≡ r → Ends u r (Kept img) [] (run u img (right_packet img))
  unfolding is_right right_id stored_id
  right_ends r e =
      check_ends ready img 0xDF 0xFF 0x00 (map (byte_at part img) id_addresses) (omega arith) r
      (rw (blank, true_sized part img size, same_refl (0xDF ∷ 0xFF ∷ 0x00 ∷ 0x07 ∷ map (byte_at part img) id_addresses)) e)

  -- P16: otherwise SRD1 becomes 0C if the address is 00FFDF, n is 7 and the bytes equal the seven ID bytes now in the image, where fewer than three wrong packets were counted (Item 5)
  pub check_right : u.registers.mismatches < 3 → Ends u (srd1_is u.registers 0x0C) (Kept img) [] (run u img (right_packet img))
  check_right few = right_ends _ (right_checked u.registers few)

  -- Item 5: where three were, it is read to its end too, but SRD1 becomes 04
  pub check_locked : 3 ≤ u.registers.mismatches → Ends u (srd1_is u.registers 0x04) (Kept img) [] (run u img (right_packet img))
  check_locked most = right_ends _ (locked_checked u.registers most)
