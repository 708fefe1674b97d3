-- What the port's inner functions are given and leave: a unit that is lent, with the image and the reply area.
use Rattle.std.specs.Prelude.{ℕ, ◌≤◌, ◌≡◌, true, List, length, take, Result, Ok, Err}
use Rattle.slices.specs.Lists.{Bytes}
use Rattle.unit.specs.declared.Unit.{Unit as Port}
use Rattle.unit.specs.declared.Phase.{Phase}
use Rattle.unit.specs.Model.{whole, state}
use Rattle.unit.specs.Phases.{Kind, need}
use Rattle.unit.specs.Phases.Kind.{page_read, page_program, unit_program, block_erase, all_erase, id_check}
use Rattle.unit.specs.Range.{in_range}
use Rattle.protocol.specs.declared.Refused.{Refused}
use Rattle.protocol.specs.declared.Numbered.{Numbered}
use Rattle.protocol.specs.Calls.{Left, left, Walk, answered, number_of, refusing}
use Rattle.port.specs.declared.packets.Packet.{Packet}
use Rattle.port.specs.declared.packets.Packet.TheVariants.{PageRead, PageProgram, UnitProgram, BlockErase, EraseAll, IdCheck}

-- the document's packet that each case stands for
abbrev pub kind_of : Packet → Kind
kind_of PageRead = page_read
kind_of PageProgram = page_program
kind_of UnitProgram = unit_program
kind_of BlockErase = block_erase
kind_of EraseAll = all_erase
kind_of IdCheck = id_check

-- of the collected bytes, those of a packet whose bytes have all come
abbrev pub all_of : Kind → List ℕ → List ℕ
all_of k got = take (need k got) got

-- what so many bytes leave that were taken, and answered with so many bytes
abbrev pub done : Port → ℕ → ℕ → List ℕ → List ℕ → Left
done u taken n img area = left (record { refusal = 0; unit = u; taken = taken; reply_len = n }) img area

-- the unit that is lent, in the phase that goes beside it
abbrev pub under : Phase → Port → Port
under f u = whole (state f u.registers) u.settings u.collected

-- what an inner call is given: a unit in range (its collected bytes are 259 bytes by their type), an image of the right size, room for any reply
pub record Fine (u : Port) (img area : List ℕ) : Type 0 where
  pub ranged : in_range u ≡ true
  pub long : length u.collected ≡ 259
  pub bytes : Bytes u.collected
  pub image : length img ≡ 20480
  pub room : 256 ≤ length area

-- a run's walk, answered in an area
abbrev pub landed : Walk → List ℕ → Left
landed w area = answered w.outcome w.taken area

-- what a check of a unit has found, as the answer that the call would give: the refusal's number, or 0, and the unit
abbrev pub found : {A : Type 0} → Port → Result A Refused → Numbered
found u (Ok a) = refusing 0 u
found u (Err e) = refusing (number_of e.refusal) e.unit
