-- The units that the rules build: their fields, and that they are in range.
use Prim.Native.Nat.{ℕ, ◌≤◌}
use native.Mathlib.Omega.{arith}
use mathlib.Core.Bool.{Bool, true, false, cond}
use mathlib.Core.Logic.{inl, inr}
use mathlib.Core.Path.{◌≡◌, refl, ◌∙◌}
use mathlib.Core.List.{List}
use lib.Dec.{eqb}
use Rattle.flash.specs.Blocks.{part}
use Rattle.flash.specs.Image.{is_blank}
use Rattle.unit.specs.declared.Unit.{Unit as Port}
use Rattle.unit.specs.declared.Registers.{Registers}
use Rattle.unit.specs.declared.Inputs.{Inputs}
use Rattle.unit.specs.declared.Phase.{Phase}
use Rattle.unit.specs.declared.Phase.TheVariants.{Asleep, Awake}
use Rattle.unit.specs.declared.Place.TheVariants.{Command}
use Rattle.unit.specs.Phases.{position_of}
use Rattle.unit.specs.Model.{no_bytes, begun, fresh, idle, phased, ended, is_open}
use Rattle.unit.specs.Range.{position_fits, srd_fits, srd1_fits, registers_fit, settings_fit}
use Rattle.slices.proofs.Lists.{bytes_zeros}
use Rattle.unit.proofs.Ranged.{Sound, registers_together, BlankRule, settings_together}

-- the unit in another phase
module _ (u : Port) (f : Phase) where
  pub phased_phase : (phased u f).phase ≡ f
  unfolding phased
  phased_phase = refl

  pub phased_registers : (phased u f).registers ≡ u.registers
  unfolding phased
  phased_registers = refl

  pub phased_settings : (phased u f).settings ≡ u.settings
  unfolding phased
  phased_settings = refl

  pub phased_collected : (phased u f).collected ≡ u.collected
  unfolding phased
  phased_collected = refl

pub sound_phased : {u : Port} → Sound u → (f : Phase) → position_fits (position_of f) (is_open u.registers) u.collected ≡ true → Sound (phased u f)
unfolding phased
sound_phased s f e =
    record { position = e; registers = s.registers; settings = s.settings; room = s.room; bytes = s.bytes }

-- the unit at the end of a taken packet
module _ (u : Port) (r : Registers) where
  pub ended_phase : (ended u r).phase ≡ Awake Command
  unfolding ended
  ended_phase = refl

  pub ended_registers : (ended u r).registers ≡ r
  unfolding ended
  ended_registers = refl

  pub ended_settings : (ended u r).settings ≡ u.settings
  unfolding ended
  ended_settings = refl

  pub ended_collected : (ended u r).collected ≡ no_bytes
  unfolding ended
  ended_collected = refl

pub sound_ended : {u : Port} → Sound u → (r : Registers) → registers_fit r ≡ true → settings_fit u.settings r ≡ true → Sound (ended u r)
unfolding ended position_fits
sound_ended s r e f =
    record { position = refl; registers = e; settings = f; room = refl; bytes = bytes_zeros 259 }

-- the unit that begins
module _ (blank : Bool) (inputs : Inputs) where
  pub begun_phase : (begun blank inputs).phase ≡ Asleep 0
  unfolding begun
  begun_phase = refl

  pub begun_srd : (begun blank inputs).registers.srd ≡ 0x80
  unfolding begun
  begun_srd = refl

  pub begun_srd1 : (begun blank inputs).registers.srd1 ≡ cond blank 0x0C 0x00
  unfolding begun
  begun_srd1 = refl

  pub begun_rate : (begun blank inputs).registers.rate ≡ 0
  unfolding begun
  begun_rate = refl

  pub begun_mismatches : (begun blank inputs).registers.mismatches ≡ 0
  unfolding begun
  begun_mismatches = refl

  pub begun_blank : (begun blank inputs).settings.blank ≡ blank
  unfolding begun
  begun_blank = refl

  pub begun_protection : (begun blank inputs).settings.protection ≡ inputs.protection
  unfolding begun
  begun_protection = refl

  pub begun_collected : (begun blank inputs).collected ≡ no_bytes
  unfolding begun
  begun_collected = refl

  pub begun_open : is_open (begun blank inputs).registers ≡ blank
  unfolding begun is_open
  begun_open = matched blank
    where
      matched : (t : Bool) → eqb (cond t 0x0C 0x00) 0x0C ≡ t
      matched true = refl
      matched false = refl

  pub sound_begun : inputs.protection ≤ 15 → Sound (begun blank inputs)
  unfolding begun position_fits srd_fits srd1_fits
  sound_begun h =
      record {
        position = refl;
        registers = registers_together (begun blank inputs).registers refl (srd1_fits_lem blank) (omega arith) (omega arith);
        settings = settings_together _ _ h (blank_rule blank refl);
        room = refl;
        bytes = bytes_zeros 259;
      }
    where
      srd1_fits_lem : (t : Bool) → srd1_fits (cond t 0x0C 0x00) ≡ true
      srd1_fits_lem true = refl
      srd1_fits_lem false = refl

      blank_rule : (t : Bool) → blank ≡ t → BlankRule (begun blank inputs).settings (begun blank inputs).registers
      blank_rule true e = inr (begun_open ∙ e, begun_mismatches)
      blank_rule false e = inl (begun_blank ∙ e)

-- the fresh unit of an image
module _ (img : List ℕ) (inputs : Inputs) where
  pub fresh_phase : (fresh img inputs).phase ≡ Asleep 0
  unfolding fresh begun
  fresh_phase = refl

  pub fresh_srd : (fresh img inputs).registers.srd ≡ 0x80
  unfolding fresh begun
  fresh_srd = refl

  pub fresh_srd1 : (fresh img inputs).registers.srd1 ≡ cond (is_blank part img) 0x0C 0x00
  unfolding fresh begun
  fresh_srd1 = refl

  pub fresh_rate : (fresh img inputs).registers.rate ≡ 0
  unfolding fresh begun
  fresh_rate = refl

  pub fresh_mismatches : (fresh img inputs).registers.mismatches ≡ 0
  unfolding fresh begun
  fresh_mismatches = refl

  pub fresh_blank : (fresh img inputs).settings.blank ≡ is_blank part img
  unfolding fresh begun
  fresh_blank = refl

  pub fresh_protection : (fresh img inputs).settings.protection ≡ inputs.protection
  unfolding fresh begun
  fresh_protection = refl

  pub fresh_collected : (fresh img inputs).collected ≡ no_bytes
  unfolding fresh begun
  fresh_collected = refl

  pub fresh_open : is_open (fresh img inputs).registers ≡ is_blank part img
  unfolding fresh
  fresh_open = begun_open (is_blank part img) inputs

  pub sound_fresh : inputs.protection ≤ 15 → Sound (fresh img inputs)
  unfolding fresh
  sound_fresh h = sound_begun (is_blank part img) inputs h

-- the idle unit
pub idle_phase : idle.phase ≡ Asleep 0
unfolding idle begun
idle_phase = refl

pub idle_srd : idle.registers.srd ≡ 0x80
unfolding idle begun
idle_srd = refl

pub idle_srd1 : idle.registers.srd1 ≡ 0x00
unfolding idle begun
idle_srd1 = refl

pub idle_rate : idle.registers.rate ≡ 0
unfolding idle begun
idle_rate = refl

pub idle_mismatches : idle.registers.mismatches ≡ 0
unfolding idle begun
idle_mismatches = refl

pub idle_blank : idle.settings.blank ≡ false
unfolding idle begun
idle_blank = refl

pub idle_protection : idle.settings.protection ≡ 0
unfolding idle begun
idle_protection = refl

pub idle_collected : idle.collected ≡ no_bytes
unfolding idle begun
idle_collected = refl

pub sound_idle : Sound idle
unfolding idle
sound_idle = sound_begun false _ (omega arith)
