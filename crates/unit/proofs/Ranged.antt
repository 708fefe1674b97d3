-- A unit in range, as facts; and its registers and settings, taken apart and put together, so that nothing else opens `registers_fit` or `settings_fit`.
use Prim.Native.Nat.{ℕ, ◌≤◌}
use mathlib.Core.Bool.{Bool, true, false, not, ◌||◌, or-true, false≢true}
use mathlib.Core.Logic.{◌⊎◌, inl, inr}
use mathlib.Core.Path.{◌≡◌, refl, ap, sym, ◌∙◌}
use lib.ListN.{length}
use lib.Dec.{leb}
use borrow.Author.Tests.{eqb-true, leb-true, le-leb}
use Rattle.slices.specs.Lists.{Bytes}
use Rattle.slices.proofs.Lists.{and_both, both_and}
use Rattle.unit.specs.declared.Unit.{Unit as Port}
use Rattle.unit.specs.declared.Registers.{Registers}
use Rattle.unit.specs.declared.Settings.{Settings}
use Rattle.unit.specs.Phases.{Position, position_of}
use Rattle.unit.specs.Phases.Position.{sleeping}
use Rattle.unit.specs.Model.{with_srd, with_srd1, with_rate, with_mismatches, is_open}
use Rattle.unit.specs.Range.{position_fits, srd_fits, srd1_fits, max_mismatches, registers_fit, blank_fits, settings_fit, in_range}

-- in range, and what the type of the collected bytes says
pub record Sound (u : Port) : Type 0 where
  pub position : position_fits (position_of u.phase) (is_open u.registers) u.collected ≡ true
  pub registers : registers_fit u.registers ≡ true
  pub settings : settings_fit u.settings u.registers ≡ true
  pub room : length u.collected ≡ 259
  pub bytes : Bytes u.collected

pub sound : (u : Port) → in_range u ≡ true → length u.collected ≡ 259 → Bytes u.collected → Sound u
unfolding in_range
sound u e room bytes =
    let a = and_both _ _ e in
    let b = and_both (registers_fit u.registers) _ a.1 in
    record { position = a.0; registers = b.0; settings = b.1; room = room; bytes = bytes }

pub in_range_lem : {u : Port} → Sound u → in_range u ≡ true
unfolding in_range
in_range_lem s = both_and _ _ s.position (both_and _ _ s.registers s.settings)

-- a sleeping unit has counted at most 16 zeros
pub few_zeros : {u : Port} {n : ℕ} → Sound u → position_of u.phase ≡ sleeping n → n ≤ 16
unfolding position_fits
few_zeros {u} {n} s e =
    leb-true n 16 (sym (ap (λ (p : Position). position_fits p (is_open u.registers) u.collected) e) ∙ s.position)

-- registers: each number by itself
module _ (r : Registers) where
  registers_apart : registers_fit r ≡ true → (srd_fits r.srd ≡ true) × (srd1_fits r.srd1 ≡ true) × (leb r.rate 4 ≡ true) × (leb r.mismatches max_mismatches ≡ true)
  unfolding registers_fit
  registers_apart e =
      let a = and_both (srd_fits r.srd) _ e in
      let b = and_both (srd1_fits r.srd1) _ a.1 in
      let c = and_both (leb r.rate 4) _ b.1 in (a.0, b.0, c.0, c.1)

  pub registers_srd : registers_fit r ≡ true → srd_fits r.srd ≡ true
  registers_srd e = (registers_apart e).0

  pub registers_srd1 : registers_fit r ≡ true → srd1_fits r.srd1 ≡ true
  registers_srd1 e = (registers_apart e).1

  pub registers_rate : registers_fit r ≡ true → r.rate ≤ 4
  registers_rate e = leb-true r.rate 4 (registers_apart e).2

  pub registers_mismatches : registers_fit r ≡ true → r.mismatches ≤ max_mismatches
  registers_mismatches e = leb-true r.mismatches max_mismatches (registers_apart e).3

  pub registers_together : srd_fits r.srd ≡ true → srd1_fits r.srd1 ≡ true → r.rate ≤ 4 → r.mismatches ≤ max_mismatches → registers_fit r ≡ true
  unfolding registers_fit
  registers_together a b c d = both_and _ _ a (both_and _ _ b (both_and _ _ (le-leb r.rate 4 c) (le-leb r.mismatches max_mismatches d)))

-- and with one of them changed
module _ (r : Registers) (v : ℕ) (e : registers_fit r ≡ true) where
  pub fit_srd : srd_fits v ≡ true → registers_fit (with_srd r v) ≡ true
  fit_srd h = registers_together (with_srd r v) h (registers_srd1 r e) (registers_rate r e) (registers_mismatches r e)

  pub fit_srd1 : srd1_fits v ≡ true → registers_fit (with_srd1 r v) ≡ true
  fit_srd1 h = registers_together (with_srd1 r v) (registers_srd r e) h (registers_rate r e) (registers_mismatches r e)

  pub fit_rate : v ≤ 4 → registers_fit (with_rate r v) ≡ true
  fit_rate h = registers_together (with_rate r v) (registers_srd r e) (registers_srd1 r e) h (registers_mismatches r e)

  pub fit_mismatches : v ≤ max_mismatches → registers_fit (with_mismatches r v) ≡ true
  fit_mismatches h = registers_together (with_mismatches r v) (registers_srd r e) (registers_srd1 r e) (registers_rate r e) h

-- the registers of a unit that started blank
module _ (r : Registers) where
  pub blank_apart : blank_fits r ≡ true → (is_open r ≡ true) × (r.mismatches ≡ 0)
  unfolding blank_fits
  blank_apart e = let a = and_both (is_open r) _ e in (a.0, eqb-true r.mismatches 0 a.1)

  pub blank_together : is_open r ≡ true → r.mismatches ≡ 0 → blank_fits r ≡ true
  unfolding blank_fits
  blank_together a b = both_and _ _ a (rw b)

-- the unit did not start blank, or it is open and no wrong ID check was counted
abbrev pub BlankRule : Settings → Registers → Type 0
BlankRule t r = (t.blank ≡ false) ⊎ ((is_open r ≡ true) × (r.mismatches ≡ 0))

-- settings: they ask only SRD1 and the count of the registers
module _ (t : Settings) (r : Registers) where
  settings_apart : settings_fit t r ≡ true → (leb t.protection 15 ≡ true) × ((not t.blank || blank_fits r) ≡ true)
  unfolding settings_fit
  settings_apart e = and_both (leb t.protection 15) _ e

  pub settings_protection : settings_fit t r ≡ true → t.protection ≤ 15
  settings_protection e = leb-true t.protection 15 (settings_apart e).0

  pub settings_blank : settings_fit t r ≡ true → BlankRule t r
  settings_blank e = go t.blank refl (settings_apart e).1
    where
      go : (b : Bool) → t.blank ≡ b → (not b || blank_fits r) ≡ true → BlankRule t r
      go true q h = inr (blank_apart r h)
      go false q h = inl q

  -- a closed unit did not start blank
  pub closed_filled : settings_fit t r ≡ true → is_open r ≡ false → t.blank ≡ false
  closed_filled e closed = go (settings_blank e)
    where
      go : BlankRule t r → t.blank ≡ false
      go (inl n) = n
      go (inr (o, z)) = absurd (false≢true (sym closed ∙ o))

  pub settings_together : t.protection ≤ 15 → BlankRule t r → settings_fit t r ≡ true
  unfolding settings_fit
  settings_together a b = both_and _ _ (le-leb t.protection 15 a) (go b)
    where
      go : BlankRule t r → (not t.blank || blank_fits r) ≡ true
      go (inl e) = rw e
      go (inr (o, z)) = rw (blank_together r o z) (or-true (not t.blank))

-- and with the registers changed
module _ (t : Settings) (r : Registers) (v : ℕ) where
  pub settings_srd : settings_fit t (with_srd r v) ≡ settings_fit t r
  unfolding settings_fit blank_fits is_open
  settings_srd = refl

  pub settings_rate : settings_fit t (with_rate r v) ≡ settings_fit t r
  unfolding settings_fit blank_fits is_open
  settings_rate = refl
