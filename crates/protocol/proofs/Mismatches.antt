-- What an ID check makes of SRD1 and of the count is a matter of three answers: did the unit start blank, was the packet right, and were there as many wrong ones before as lock a unit. Each case computes.
use Prim.Native.Nat.{ℕ, suc, min, ◌≤◌, ◌<◌}
use native.Mathlib.Omega.{arith}
use mathlib.Core.Bool.{Bool, true, false, ◌&&◌, ◌||◌}
use mathlib.Core.Logic.{inl, inr}
use mathlib.Core.Path.{◌≡◌, refl, ap, ◌∙◌}
use lib.Dec.{ltb}
use borrow.Author.Tests.{ltb-true, ltb-false}
use Rattle.slices.proofs.Lists.{cond_elim}
use Rattle.unit.specs.declared.Registers.{Registers}
use Rattle.unit.specs.declared.Settings.{Settings}
use Rattle.unit.specs.Model.{with_srd1, is_open}
use Rattle.unit.specs.Range.{srd1_fits, max_mismatches, registers_fit, settings_fit}
use Rattle.unit.proofs.Ranged.{fit_srd1, fit_mismatches, registers_mismatches, BlankRule, settings_protection, settings_blank, settings_together}
use Rattle.protocol.specs.Endings.{judged, counted, after_check}
use Rattle.protocol.specs.Rows.{after_wrong}

-- SRD1 after a right packet: how many wrong ones came before it decides
judged_right : (P : ℕ → Type 0) (wrong : ℕ) → (wrong < max_mismatches → P 0x0C) → (max_mismatches ≤ wrong → P 0x04) → P (judged false wrong true)
unfolding judged
judged_right P wrong few many = cond_elim P (ltb wrong max_mismatches) 0x0C 0x04 (λ t. few (ltb-true wrong max_mismatches t)) (λ t. many (ltb-false wrong max_mismatches t))

-- the four cases
module _ (r : Registers) where
  -- a unit that started blank
  pub blank_checked : (right : Bool) → after_check true r right ≡ with_srd1 r 0x0C
  unfolding after_check judged counted
  blank_checked right = refl

  -- any other: the packet is not right; it is, and the unit is not locked; it is, and the unit is
  pub wrong_checked : after_check false r false ≡ after_wrong r
  unfolding after_check judged counted
  wrong_checked = refl

  pub right_checked : r.mismatches < max_mismatches → after_check false r true ≡ with_srd1 r 0x0C
  unfolding after_check counted
  right_checked h = judged_right (λ (s : ℕ). with_srd1 r s ≡ with_srd1 r 0x0C) r.mismatches (λ few. refl) (λ many. absurd (omega arith))

  pub locked_checked : max_mismatches ≤ r.mismatches → after_check false r true ≡ with_srd1 r 0x04
  unfolding after_check counted
  locked_checked h = judged_right (λ (s : ℕ). with_srd1 r s ≡ with_srd1 r 0x04) r.mismatches (λ few. absurd (omega arith)) (λ many. refl)

judged_fits : (blank : Bool) (wrong : ℕ) (right : Bool) → srd1_fits (judged blank wrong right) ≡ true
unfolding judged srd1_fits
judged_fits blank wrong right = cond_elim (λ (s : ℕ). srd1_fits s ≡ true) (blank || (right && ltb wrong max_mismatches)) 0x0C 0x04 (λ t. refl) (λ t. refl)

counted_fits : (blank : Bool) (wrong : ℕ) (right : Bool) → wrong ≤ max_mismatches → counted blank wrong right ≤ max_mismatches
unfolding counted
counted_fits blank wrong right h = cond_elim (λ (n : ℕ). n ≤ max_mismatches) (blank || right) wrong (min max_mismatches (suc wrong)) (λ t. h) (λ t. omega arith)

module _ (t : Settings) (r : Registers) (right : Bool) where
  pub check_fits : registers_fit r ≡ true → registers_fit (after_check t.blank r right) ≡ true
  unfolding after_check
  check_fits e =
      let n : ℕ = r.mismatches in
      fit_mismatches (with_srd1 r _) _ (fit_srd1 r _ e (judged_fits t.blank n right)) (counted_fits t.blank n right (registers_mismatches r e))

  pub check_settings : settings_fit t r ≡ true → settings_fit t (after_check t.blank r right) ≡ true
  unfolding is_open
  check_settings e = settings_together t _ (settings_protection t r e) (go t.blank refl (settings_blank t r e))
    where
      go : (b : Bool) → t.blank ≡ b → BlankRule t r → BlankRule t (after_check t.blank r right)
      go b q (inl n) = inl n
      go false q (inr k) = inl q
      go true q (inr (o, z)) =
          let c : after_check t.blank r right ≡ with_srd1 r 0x0C = ap (λ (b : Bool). after_check b r right) q ∙ blank_checked r right in
          inr (ap is_open c, ap (λ (x : Registers). x.mismatches) c ∙ z)
