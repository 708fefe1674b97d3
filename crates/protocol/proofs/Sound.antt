-- What every byte keeps, because each outcome that a byte leads to keeps it: the unit in range, the image's length, the settings; and no reply is longer than 256 bytes.
use Prim.Native.Nat.{ℕ, ◌≤◌, ◌<◌}
use native.Mathlib.Omega.{arith}
use mathlib.Core.Bool.{Bool, true, ◌||◌}
use mathlib.Core.Path.{◌≡◌, refl, ap, ◌∙◌}
use mathlib.Core.List.{List, [], ◌∷◌}
use lib.ListN.{length}
use lib.Dec.{ltb, eqb}
use borrow.Author.Tests.{le-leb}
use Rattle.slices.specs.Lists.{Bytes}
use Rattle.slices.proofs.Lists.{both_and}
use Rattle.flash.specs.Blocks.{part}
use Rattle.flash.proofs.Changes.{length_program, length_eraseblock, length_eraseall}
use Rattle.unit.specs.declared.Unit.{Unit as Port}
use Rattle.unit.specs.declared.Registers.{Registers}
use Rattle.unit.specs.declared.Settings.{Settings}
use Rattle.unit.specs.declared.Phase.TheVariants.{Asleep, Awake}
use Rattle.unit.specs.declared.Place.TheVariants.{Command}
use Rattle.unit.specs.Phases.{Kind, command_of, need, inside, position_of}
use Rattle.unit.specs.Phases.Kind.{page_read, page_program, unit_program, block_erase, all_erase, id_check}
use Rattle.unit.specs.Model.{with_srd, is_open}
use Rattle.unit.specs.Range.{registers_fit, settings_fit, packet_fits, position_fits}
use Rattle.unit.proofs.Positions.{position_inside}
use Rattle.unit.proofs.Ranged.{Sound, fit_srd, fit_rate, settings_srd, settings_rate}
use Rattle.unit.proofs.Builders.{phased_settings, ended_settings, sound_phased, sound_ended}
use Rattle.unit.proofs.Inside.{longer_settings, sound_longer}
use Rattle.protocol.specs.Outcome.{Outcome}
use Rattle.protocol.specs.Step.{body, step, run}
use Rattle.protocol.proofs.Carried.{Carried, Change}
use Rattle.protocol.proofs.Carried.Carried.{page, bytes, block, all}
use Rattle.protocol.proofs.Carried.Change.{none, last}
use Rattle.protocol.proofs.Cases.{Leaves, Ending, Leads, leads}
use Rattle.protocol.proofs.Cases.Leaves.{as_were, srd_set, checks, rate_set}
use Rattle.protocol.proofs.Cases.Ending.{says_and_ends, writes_and_ends}
use Rattle.protocol.proofs.Cases.Leads.{nothing, sleeps, wakes_up, begins, goes_on, ends}
use Rattle.protocol.proofs.Changes.{changes}
use Rattle.protocol.proofs.Mismatches.{check_fits, check_settings}

-- the registers that a packet leaves fit, and so do the settings beside them
registers_left : {t : Settings} {r v : Registers} → Leaves t r v → registers_fit r ≡ true → registers_fit v ≡ true
registers_left as_were e = e
registers_left {r = r} (srd_set s h) e = fit_srd r s e h
registers_left {t} {r} (checks right) e = check_fits t r right e
registers_left {r = r} (rate_set n h) e = fit_rate r n e h

settings_left : {t : Settings} {r v : Registers} → Leaves t r v → settings_fit t r ≡ true → settings_fit t v ≡ true
settings_left as_were e = e
settings_left {t} {r} (srd_set s h) e = settings_srd t r s ∙ e
settings_left {t} {r} (checks right) e = check_settings t r right e
settings_left {t} {r} (rate_set n h) e = settings_rate t r n ∙ e

-- a packet of no bytes yet is short
short : (k : Kind) → ltb 0 (need k []) ≡ true
unfolding need
short page_read = refl
short page_program = refl
short unit_program = refl
short block_erase = refl
short all_erase = refl
short id_check = refl

begun_fits : (k : Kind) (opened : Bool) (got : List ℕ) → (eqb (command_of k) 0xF5 || opened) ≡ true → position_fits (position_of (Awake (inside k 0))) opened got ≡ true
unfolding position_fits packet_fits
begun_fits k opened got h = rw (position_inside k 0) (both_and _ _ h (short k))

module _ {u : Port} (s : Sound u) (img : List ℕ) (b : ℕ) (small : b < 256) where
  sound_ending : {o : Outcome} → Ending u img b o → Sound o.unit
  sound_ending (says_and_ends r said l h) = sound_ended s r (registers_left l s.registers) (settings_left l s.settings)
  sound_ending (writes_and_ends v new h d) =
      let l : Leaves u.settings u.registers (with_srd u.registers v) = srd_set v h in
      sound_ended s _ (registers_left l s.registers) (settings_left l s.settings)

  sound_leads : {o : Outcome} → Leads u img b o → Sound o.unit
  unfolding position_fits body
  sound_leads nothing = s
  sound_leads (sleeps n h) = sound_phased s (Asleep n) (le-leb n 16 h)
  sound_leads wakes_up = sound_phased s (Awake Command) refl
  sound_leads (begins k h) = sound_phased s (Awake (inside k 0)) (begun_fits k (is_open u.registers) u.collected h)
  sound_leads (goes_on k n e h) = sound_longer s e b small h
  sound_leads (ends e) = sound_ending e

  pub sound_step : Sound (step u img b).unit
  sound_step = sound_leads (leads u img b)

pub sound_run : {u : Port} → Sound u → (img bs : List ℕ) → Bytes bs → Sound (run u img bs).unit
sound_run s img [] y = s
sound_run {u} s img (b ∷ bs) y = sound_run {u = (step u img b).unit} (sound_step s img b y.0) (step u img b).image bs y.1

size_carried : {p : ℕ} {img xs new : List ℕ} {k : Kind} → Carried p img xs k new → length new ≡ length img
size_carried {p} {img} (page m) = length_program part p img _ _
size_carried {p} {img} (bytes m) = length_program part p img _ _
size_carried {p} {img} (block c m) = length_eraseblock part p img _
size_carried {p} {img} (all c) = length_eraseall part p img

-- whatever the unit, the image and the byte
module _ (u : Port) (img : List ℕ) (b : ℕ) where
  settings_leads : {o : Outcome} → Leads u img b o → o.unit.settings ≡ u.settings
  settings_leads nothing = refl
  settings_leads (sleeps n h) = phased_settings u (Asleep n)
  settings_leads wakes_up = phased_settings u (Awake Command)
  settings_leads (begins k h) = phased_settings u (Awake (inside k 0))
  settings_leads (goes_on k n e h) = longer_settings u k n b
  settings_leads (ends (says_and_ends r said l h)) = ended_settings u r
  settings_leads (ends (writes_and_ends v new h d)) = ended_settings u (with_srd u.registers v)

  short_leads : {o : Outcome} → Leads u img b o → length o.reply ≤ 256
  short_leads nothing = omega arith
  short_leads (sleeps n h) = omega arith
  short_leads wakes_up = omega arith
  short_leads (begins k h) = omega arith
  short_leads (goes_on k n e h) = omega arith
  short_leads (ends (says_and_ends r said l h)) = h
  short_leads (ends (writes_and_ends v new h d)) = omega arith

  pub size_step : length (step u img b).image ≡ length img
  size_step = go (changes u img b)
    where
      go : {new : List ℕ} → Change u img b new → length new ≡ length img
      go (none e) = ap length e
      go (last d) = size_carried d.carried

  pub settings_step : (step u img b).unit.settings ≡ u.settings
  settings_step = settings_leads (leads u img b)

  pub short_reply : length (step u img b).reply ≤ 256
  short_reply = short_leads (leads u img b)

pub size_run : (u : Port) (img bs : List ℕ) → length (run u img bs).image ≡ length img
size_run u img [] = refl
size_run u img (b ∷ bs) = size_run (step u img b).unit (step u img b).image bs ∙ size_step u img b

pub settings_run : (u : Port) (img bs : List ℕ) → (run u img bs).unit.settings ≡ u.settings
settings_run u img [] = refl
settings_run u img (b ∷ bs) = settings_run (step u img b).unit (step u img b).image bs ∙ settings_step u img b
