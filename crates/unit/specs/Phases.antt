-- Document 01, "The unit" and "Packets": where a unit is, in the document's numbers, and how long its packets are.
use Rattle.std.specs.Prelude.{ℕ, ◌+◌, List, get_or}
use Rattle.unit.specs.declared.Phase.{Phase}
use Rattle.unit.specs.declared.Phase.TheVariants.{Asleep, Awake}
use Rattle.unit.specs.declared.Place.{Place}
use Rattle.unit.specs.declared.Place.TheVariants.{Command, PageRead, PageProgram, UnitProgram, BlockErase, EraseAll, IdCheck}

-- the packets of more than one byte
pub data Kind : Type 0 where
  page_read page_program unit_program block_erase all_erase id_check : Kind

-- each one's command byte
unfoldable pub command_of : Kind → ℕ
command_of page_read = 0xFF
command_of page_program = 0x41
command_of unit_program = 0x49
command_of block_erase = 0x20
command_of all_erase = 0xA7
command_of id_check = 0xF5

-- how many bytes follow the command, by those that have come: a size byte is the fourth of them
unfoldable pub need : Kind → List ℕ → ℕ
need page_read xs = 2
need page_program xs = 258
need unit_program xs = 4 + get_or xs 3 0
need block_erase xs = 3
need all_erase xs = 1
need id_check xs = 4 + get_or xs 3 0

-- where a unit is: asleep with a count of zeros, at a command, or inside a packet, so many bytes after its command
pub data Position : Type 0 where
  sleeping : ℕ → Position
  commanding : Position
  within : Kind → ℕ → Position

-- the position that each case of the two enums stands for
abbrev pub position_of : Phase → Position
position_of (Asleep n) = sleeping n
position_of (Awake Command) = commanding
position_of (Awake (PageRead n)) = within page_read n
position_of (Awake (PageProgram n)) = within page_program n
position_of (Awake (UnitProgram n)) = within unit_program n
position_of (Awake (BlockErase n)) = within block_erase n
position_of (Awake (EraseAll n)) = within all_erase n
position_of (Awake (IdCheck n)) = within id_check n

-- and the case that stands for a place inside a packet
abbrev pub inside : Kind → ℕ → Place
inside page_read n = PageRead n
inside page_program n = PageProgram n
inside unit_program n = UnitProgram n
inside block_erase n = BlockErase n
inside all_erase n = EraseAll n
inside id_check n = IdCheck n
