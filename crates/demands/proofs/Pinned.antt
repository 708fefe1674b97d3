-- "Show that no second outcome satisfies the same statement": the clause of every function that flash, unit and port show is an equation with all that the call leaves, and two things that equal a third are equal.
-- An outcome is the result; where a call also leaves an image or an area, all of them together.
use Prim.Native.Nat.{ℕ}
use mathlib.Core.Bool.{Bool}
use mathlib.Core.Path.{◌≡◌, ap, ap₂, sym, ◌∙◌}
use mathlib.Core.List.{List}
use Rattle.std.specs.Prelude.{Option, Result}
use Rattle.flash.specs.declared.Spot.{Spot}
use Rattle.flash.specs.Image.{Written}
use Rattle.flash.specs.Clauses.{BlockOfEnsures, PageAddressEnsures, PageEnsures, IdEnsures, BlankEnsures, ProgramEnsures, EraseEnsures, EraseAllEnsures}
use Rattle.unit.specs.declared.Unit.{Unit as Port}
use Rattle.unit.specs.declared.Registers.{Registers}
use Rattle.unit.specs.declared.Settings.{Settings}
use Rattle.unit.specs.declared.State.{State}
use Rattle.unit.specs.declared.Inputs.{Inputs}
use Rattle.unit.specs.declared.Phase.{Phase}
use Rattle.unit.specs.Clauses.{FreshEnsures, IdleEnsures, OfEnsures, StateEnsures, InRangeEnsures, AtEnsures, AtCommandEnsures, WithSrdEnsures, WithSrd1Ensures, WithRateEnsures, WithMismatchesEnsures, IsOpenEnsures, IsStandingEnsures}
use Rattle.protocol.specs.declared.Answer.{Answer}
use Rattle.protocol.specs.declared.Refused.{Refused}
use Rattle.protocol.specs.declared.Refusal.{Refusal}
use Rattle.protocol.specs.declared.Started.{Started}
use Rattle.protocol.specs.declared.Numbered.{Numbered}
use Rattle.protocol.specs.Calls.{Left, left, number_of, started, numbered, StartEnsures, ByteEnsures, RunEnsures}
use Rattle.protocol.proofs.Numbers.{started_alone, numbered_alone}

-- no second outcome satisfies P
abbrev pub Pins : {A : Type 0} → (A → Type 0) → Type 0
Pins {A} P = (x y : A) → P x → P y → x ≡ y

pub pinned : {A : Type 0} (s : A) → Pins (λ (x : A). x ≡ s)
pinned s x y p q = p ∙ sym q

-- flash: the functions over a lent image
module _ (image : List ℕ) where
  -- page(image, mid, high): the part that it returns
  pub flash_page_pinned : (mid high : ℕ) → Pins (λ (r : List ℕ). PageEnsures image mid high r)
  flash_page_pinned mid high = pinned _

  pub flash_id_pinned : Pins (λ (r : List ℕ). IdEnsures image r)
  flash_id_pinned = pinned _

  pub flash_blank_pinned : Pins (λ (r : Bool). BlankEnsures image r)
  flash_blank_pinned = pinned _

  -- program(image, protection, address, new): the image that it leaves, and its result
  pub flash_program_pinned : (protection address : ℕ) (new : List ℕ) → Pins (λ (w : Written). ProgramEnsures image protection address new w.good w.image)
  flash_program_pinned protection address new = pinned _

  pub flash_erase_pinned : (protection address : ℕ) → Pins (λ (w : Written). EraseEnsures image protection address w.good w.image)
  flash_erase_pinned protection address = pinned _

  -- erase_all(image, protection): the image that it leaves
  pub flash_erase_all_pinned : (protection : ℕ) → Pins (λ (exit : List ℕ). EraseAllEnsures image protection exit)
  flash_erase_all_pinned protection = pinned _

pub flash_page_address_pinned : (mid high : ℕ) → Pins (λ (r : ℕ). PageAddressEnsures mid high r)
flash_page_address_pinned mid high = pinned _

pub flash_block_of_pinned : (address : ℕ) → Pins (λ (r : Option Spot). BlockOfEnsures address r)
flash_block_of_pinned address = pinned _

-- unit: Unit::fresh, Unit::idle, Unit::of, Unit::state, Unit::in_range
pub unit_fresh_pinned : (image : List ℕ) (inputs : Inputs) → Pins (λ (r : Port). FreshEnsures image inputs r)
unit_fresh_pinned image inputs = pinned _

pub unit_idle_pinned : Pins (λ (r : Port). IdleEnsures r)
unit_idle_pinned = pinned _

pub unit_of_pinned : (s : State) (settings : Settings) (collected : List ℕ) → Pins (λ (r : Port). OfEnsures s settings collected r)
unit_of_pinned s settings collected = pinned _

pub unit_state_pinned : (self : Port) → Pins (λ (r : State). StateEnsures self r)
unit_state_pinned self = pinned _

pub unit_in_range_pinned : (self : Port) → Pins (λ (r : Bool). InRangeEnsures self r)
unit_in_range_pinned self = pinned _

-- State::at, State::at_command
pub unit_at_pinned : (self : State) (phase : Phase) → Pins (λ (r : State). AtEnsures self phase r)
unit_at_pinned self phase = pinned _

pub unit_at_command_pinned : (registers : Registers) → Pins (λ (r : State). AtCommandEnsures registers r)
unit_at_command_pinned registers = pinned _

-- Registers::with_srd, with_srd1, with_rate, with_mismatches, is_open, is_standing
module _ (self : Registers) where
  pub unit_with_srd_pinned : (srd : ℕ) → Pins (λ (r : Registers). WithSrdEnsures self srd r)
  unit_with_srd_pinned srd = pinned _

  pub unit_with_srd1_pinned : (srd1 : ℕ) → Pins (λ (r : Registers). WithSrd1Ensures self srd1 r)
  unit_with_srd1_pinned srd1 = pinned _

  pub unit_with_rate_pinned : (rate : ℕ) → Pins (λ (r : Registers). WithRateEnsures self rate r)
  unit_with_rate_pinned rate = pinned _

  pub unit_with_mismatches_pinned : (mismatches : ℕ) → Pins (λ (r : Registers). WithMismatchesEnsures self mismatches r)
  unit_with_mismatches_pinned mismatches = pinned _

  pub unit_is_open_pinned : Pins (λ (r : Bool). IsOpenEnsures self r)
  unit_is_open_pinned = pinned _

  pub unit_is_standing_pinned : Pins (λ (r : Bool). IsStandingEnsures self r)
  unit_is_standing_pinned = pinned _

-- port: start; byte and run with the answer, the image and the reply area together
pub port_start_pinned : (image : List ℕ) (inputs : Inputs) → Pins (λ (r : Started). StartEnsures image inputs r)
port_start_pinned image inputs = pinned _

pub port_byte_pinned : (u : Port) (image area : List ℕ) (b : ℕ) → Pins (λ (l : Left). ByteEnsures u image area b l.answer l.image l.area)
port_byte_pinned u image area b = pinned _

pub port_run_pinned : (u : Port) (image area bytes : List ℕ) → Pins (λ (l : Left). RunEnsures u image area bytes l.answer l.image l.area)
port_run_pinned u image area bytes = pinned _

pub protocol_refusal_number_pinned : (refusal : Refusal) → Pins (λ (n : ℕ). n ≡ number_of refusal)
protocol_refusal_number_pinned refusal = pinned _

pub protocol_started_of_pinned : (answered : Result Port Refused) → Pins (λ (r : Started). r ≡ started answered)
protocol_started_of_pinned answered = pinned _

pub protocol_numbered_of_pinned : (answered : Result Answer Refused) → Pins (λ (r : Numbered). r ≡ numbered answered)
protocol_numbered_of_pinned answered = pinned _

-- and their results, which their numbers and values tell: start's, and those of byte and run with the image and the reply area together
pub port_start_result_pinned : (image : List ℕ) (inputs : Inputs) → Pins (λ (r : Result Port Refused). StartEnsures image inputs (started r))
port_start_result_pinned image inputs x y p q = started_alone x y (p ∙ sym q)

-- a result, an image and an area
abbrev pub Leaving : Type 0
Leaving = Result Answer Refused × List ℕ × List ℕ

leaving_alone : (x y : Leaving) → left (numbered x.0) x.1 x.2 ≡ left (numbered y.0) y.1 y.2 → x ≡ y
leaving_alone x y p =
    ap₂ (λ (r : Result Answer Refused) (l : Left). (r, l.image, l.area)) (numbered_alone x.0 y.0 (ap (λ (l : Left). l.answer) p)) p

pub port_byte_result_pinned : (u : Port) (image area : List ℕ) (b : ℕ) → Pins (λ (w : Leaving). ByteEnsures u image area b (numbered w.0) w.1 w.2)
port_byte_result_pinned u image area b x y p q = leaving_alone x y (p ∙ sym q)

pub port_run_result_pinned : (u : Port) (image area bytes : List ℕ) → Pins (λ (w : Leaving). RunEnsures u image area bytes (numbered w.0) w.1 w.2)
port_run_result_pinned u image area bytes x y p q = leaving_alone x y (p ∙ sym q)
