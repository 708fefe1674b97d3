-- What each function of the crate ensures: the clauses, by name, one equation each.
use Rattle.std.specs.Prelude.{ℕ, ◌≡◌, Bool, List}
use Rattle.unit.specs.declared.Unit.{Unit as Port}
use Rattle.unit.specs.declared.Registers.{Registers}
use Rattle.unit.specs.declared.Settings.{Settings}
use Rattle.unit.specs.declared.State.{State}
use Rattle.unit.specs.declared.Inputs.{Inputs}
use Rattle.unit.specs.declared.Phase.{Phase}
use Rattle.unit.specs.Model.{fresh, idle, whole, state_of, state, at_command, with_srd, with_srd1, with_rate, with_mismatches, is_open, standing}
use Rattle.unit.specs.Range.{in_range}

abbrev pub FreshEnsures : List ℕ → Inputs → Port → Type 0
FreshEnsures img given r = r ≡ fresh img given

abbrev pub IdleEnsures : Port → Type 0
IdleEnsures r = r ≡ idle

abbrev pub OfEnsures : State → Settings → List ℕ → Port → Type 0
OfEnsures s settings collected r = r ≡ whole s settings collected

abbrev pub StateEnsures : Port → State → Type 0
StateEnsures u r = r ≡ state_of u

abbrev pub InRangeEnsures : Port → Bool → Type 0
InRangeEnsures u r = r ≡ in_range u

abbrev pub AtEnsures : State → Phase → State → Type 0
AtEnsures s phase r = r ≡ state phase s.registers

abbrev pub AtCommandEnsures : Registers → State → Type 0
AtCommandEnsures registers r = r ≡ at_command registers

abbrev pub WithSrdEnsures : Registers → ℕ → Registers → Type 0
WithSrdEnsures registers srd r = r ≡ with_srd registers srd

abbrev pub WithSrd1Ensures : Registers → ℕ → Registers → Type 0
WithSrd1Ensures registers srd1 r = r ≡ with_srd1 registers srd1

abbrev pub WithRateEnsures : Registers → ℕ → Registers → Type 0
WithRateEnsures registers rate r = r ≡ with_rate registers rate

abbrev pub WithMismatchesEnsures : Registers → ℕ → Registers → Type 0
WithMismatchesEnsures registers n r = r ≡ with_mismatches registers n

abbrev pub IsOpenEnsures : Registers → Bool → Type 0
IsOpenEnsures registers r = r ≡ is_open registers

abbrev pub IsStandingEnsures : Registers → Bool → Type 0
IsStandingEnsures registers r = r ≡ standing registers
