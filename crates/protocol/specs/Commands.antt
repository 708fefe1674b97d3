-- Document 01, "Packets, once awake": what a byte at a command position does.
use Rattle.std.specs.Prelude.{ℕ, Bool, true, false, cond, List, [], ◌∷◌, eqb}
use Rattle.unit.specs.declared.Unit.{Unit as Port}
use Rattle.unit.specs.declared.Phase.TheVariants.{Awake}
use Rattle.unit.specs.Phases.{Kind, inside}
use Rattle.unit.specs.Phases.Kind.{page_read, page_program, unit_program, block_erase, all_erase, id_check}
use Rattle.unit.specs.Model.{with_srd, with_rate, phased, ended, is_open}
use Rattle.protocol.specs.Outcome.{Outcome, says, quiet}

-- what a command byte is: the first byte of a longer packet, or a packet of its own
pub data Command : Type 0 where
  begin : Kind → Command
  clear status version time unknown : Command
  rate : ℕ → Command

-- the table's column "Byte"
unfoldable pub commands : List (ℕ × Command)
commands =
    (0xFF, begin page_read)
    ∷ (0x41, begin page_program)
    ∷ (0x49, begin unit_program)
    ∷ (0x20, begin block_erase)
    ∷ (0xA7, begin all_erase)
    ∷ (0x50, clear)
    ∷ (0x70, status)
    ∷ (0xF5, begin id_check)
    ∷ (0xFB, version)
    ∷ (0xB0, rate 0)
    ∷ (0xB1, rate 1)
    ∷ (0xB2, rate 2)
    ∷ (0xB3, rate 3)
    ∷ (0xB4, rate 4)
    ∷ (0x00, time)
    ∷ []

-- a byte that the table does not have is unknown
abbrev pub lookup : ℕ → List (ℕ × Command) → Command
lookup b [] = unknown
lookup b (r ∷ rs) = cond (eqb b r.0) r.1 (lookup b rs)

unfoldable pub meaning : ℕ → Command
meaning b = lookup b commands

-- the table's column "Closed?": what a closed unit drops
unfoldable pub needs_open : Command → Bool
needs_open (begin page_read) = true
needs_open (begin page_program) = true
needs_open (begin unit_program) = true
needs_open (begin block_erase) = true
needs_open (begin all_erase) = true
needs_open (begin id_check) = false
needs_open clear = true
needs_open status = false
needs_open version = false
needs_open (rate n) = false
needs_open time = false
needs_open unknown = false

-- "VER.2.00"
unfoldable pub version_bytes : List ℕ
version_bytes = 0x56 ∷ 0x45 ∷ 0x52 ∷ 0x2E ∷ 0x32 ∷ 0x2E ∷ 0x30 ∷ 0x30 ∷ []

-- the table's column "Effect", of the bytes that are taken: a longer packet begins; a one-byte packet begins and ends; an unknown byte does nothing
unfoldable pub effect : Command → Port → List ℕ → ℕ → Outcome
effect (begin k) u img b = quiet (phased u (Awake (inside k 0))) img
effect clear u img b = quiet (ended u (with_srd u.registers 0x80)) img
effect status u img b = says (ended u u.registers) img (u.registers.srd ∷ u.registers.srd1 ∷ [])
effect version u img b = says (ended u u.registers) img version_bytes
effect (rate n) u img b = says (ended u (with_rate u.registers n)) img (b ∷ [])
effect time u img b = quiet (ended u u.registers) img
effect unknown u img b = quiet u img

-- dropped by a closed unit, or taken
unfoldable pub dropped : Command → Port → Bool
dropped c u = cond (is_open u.registers) false (needs_open c)

-- a command byte
unfoldable pub commanded : Command → Port → List ℕ → ℕ → Outcome
commanded c u img b = cond (dropped c u) (quiet u img) (effect c u img b)
