-- Document 01, "The unit": which unit records are in range.
use Rattle.std.specs.Prelude.{ℕ, Bool, true, not, ◌&&◌, ◌||◌, List, [], ◌∷◌, take, ltb, leb, eqb}
use Rattle.unit.specs.declared.Unit.{Unit as Port}
use Rattle.unit.specs.declared.Registers.{Registers}
use Rattle.unit.specs.declared.Settings.{Settings}
use Rattle.unit.specs.Phases.{Kind, command_of, need, Position, position_of}
use Rattle.unit.specs.Phases.Position.{sleeping, commanding, within}
use Rattle.unit.specs.Model.{is_open}

-- a packet in progress: any but F5 needs an open unit, and the bytes received are fewer than the packet has
unfoldable pub packet_fits : Kind → ℕ → Bool → List ℕ → Bool
packet_fits k n opened got = (eqb (command_of k) 0xF5 || opened) && ltb n (need k (take n got))

-- the count of zeros is at most 16
unfoldable pub position_fits : Position → Bool → List ℕ → Bool
position_fits (sleeping n) opened got = leb n 16
position_fits commanding opened got = true
position_fits (within k n) opened got = packet_fits k n opened got

-- collected bytes of which only the size is known: all that a position asks of them
abbrev pub size_alone : ℕ → List ℕ
size_alone size = 0 ∷ 0 ∷ 0 ∷ size ∷ []

unfoldable pub srd_fits : ℕ → Bool
srd_fits s = eqb s 0x80 || (eqb s 0x90 || (eqb s 0xA0 || eqb s 0xB0))

unfoldable pub srd1_fits : ℕ → Bool
srd1_fits s = eqb s 0x00 || (eqb s 0x04 || eqb s 0x0C)

-- so many wrong ID checks lock a unit (document 02, Item 5): no more are counted
abbrev pub max_mismatches : ℕ
max_mismatches = 3

unfoldable pub registers_fit : Registers → Bool
registers_fit r = srd_fits r.srd && (srd1_fits r.srd1 && (leb r.rate 4 && leb r.mismatches max_mismatches))

-- blank implies SRD1 0C, and that no wrong ID check was counted (document 02, Item 5)
unfoldable pub blank_fits : Registers → Bool
blank_fits r = is_open r && eqb r.mismatches 0

unfoldable pub settings_fit : Settings → Registers → Bool
settings_fit t r = leb t.protection 15 && (not t.blank || blank_fits r)

unfoldable pub in_range : Port → Bool
in_range u =
    position_fits (position_of u.phase) (is_open u.registers) u.collected
    && (registers_fit u.registers && settings_fit u.settings u.registers)
