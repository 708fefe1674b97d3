-- Document 01, "The unit": the fresh and the idle unit, and a unit with some of its fields changed. antt has no update syntax;
-- this is the one file of definitions that writes out a unit, its registers or its settings, so that a new field touches no other.
use Rattle.std.specs.Prelude.{ℕ, suc, Bool, true, false, cond, List, replicate, set, eqb}
use Rattle.flash.specs.Blocks.{part}
use Rattle.flash.specs.Image.{is_blank}
use Rattle.unit.specs.declared.Unit.{Unit as Port}
use Rattle.unit.specs.declared.Registers.{Registers}
use Rattle.unit.specs.declared.Settings.{Settings}
use Rattle.unit.specs.declared.State.{State}
use Rattle.unit.specs.declared.Inputs.{Inputs}
use Rattle.unit.specs.declared.Phase.{Phase}
use Rattle.unit.specs.declared.Phase.TheVariants.{Asleep, Awake}
use Rattle.unit.specs.declared.Place.TheVariants.{Command}
use Rattle.unit.specs.Phases.{Kind, inside}

-- nothing collected
abbrev pub no_bytes : List ℕ
no_bytes = replicate 259 0

-- the unit that is the same for the same blankness and inputs: asleep, count 0, SRD 80, rate 0, no wrong ID check (document 02, Item 5), collected bytes 0, SRD1 0C if blank and 00 if not
unfoldable pub begun : Bool → Inputs → Port
begun blank given =
    record {
      phase = Asleep 0;
      registers = record { srd = 0x80; srd1 = cond blank 0x0C 0x00; rate = 0; mismatches = 0 };
      settings = record { blank = blank; protection = given.protection };
      collected = no_bytes;
    }

-- the fresh unit of an image and the start inputs
unfoldable pub fresh : List ℕ → Inputs → Port
fresh img given = begun (is_blank part img) given

-- start inputs with this protection, and as in the idle unit otherwise
abbrev pub inputs : ℕ → Inputs
inputs p = record { protection = p }

-- the idle unit: the fresh one of a non-blank image with protection 0
unfoldable pub idle : Port
idle = begun false (inputs 0)

-- a unit is what bytes change (its state and the collected bytes) and what start has fixed (its settings)
abbrev pub whole : State → Settings → List ℕ → Port
whole s t l = record { phase = s.phase; registers = s.registers; settings = t; collected = l }

abbrev pub state_of : Port → State
state_of u = record { phase = u.phase; registers = u.registers }

abbrev pub state : Phase → Registers → State
state f r = record { phase = f; registers = r }

-- at a command, with these registers
abbrev pub at_command : Registers → State
at_command r = state (Awake Command) r

abbrev pub with_srd : Registers → ℕ → Registers
with_srd r s = record { srd = s; srd1 = r.srd1; rate = r.rate; mismatches = r.mismatches }

abbrev pub with_srd1 : Registers → ℕ → Registers
with_srd1 r s = record { srd = r.srd; srd1 = s; rate = r.rate; mismatches = r.mismatches }

abbrev pub with_rate : Registers → ℕ → Registers
with_rate r n = record { srd = r.srd; srd1 = r.srd1; rate = n; mismatches = r.mismatches }

abbrev pub with_mismatches : Registers → ℕ → Registers
with_mismatches r n = record { srd = r.srd; srd1 = r.srd1; rate = r.rate; mismatches = n }

-- the unit in another phase
unfoldable pub phased : Port → Phase → Port
phased u f = whole (state f u.registers) u.settings u.collected

-- the unit with one more byte of a packet, n bytes after its command
unfoldable pub longer : Port → Kind → ℕ → ℕ → Port
longer u k n b = whole (state (Awake (inside k (suc n))) u.registers) u.settings (set u.collected n b)

-- the unit at the end of a taken packet: at a command, with these registers, and nothing collected
unfoldable pub ended : Port → Registers → Port
ended u r = whole (at_command r) u.settings no_bytes

-- the unit is open
unfoldable pub is_open : Registers → Bool
is_open r = eqb r.srd1 0x0C

-- SR4 or SR5 stands
unfoldable pub standing : Registers → Bool
standing r = cond (eqb r.srd 0x80) false true
