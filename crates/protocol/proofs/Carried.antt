-- Document 01, "Packets, once awake": when a byte may change the image at all. It is the last byte of a program or an erase that is permitted, and no error stands.
use Prim.Native.Nat.{ℕ, suc, ◌+◌, ◌%◌, ◌≤◌}
use mathlib.Core.Path.{◌≡◌}
use mathlib.Core.Bool.{true}
use mathlib.Core.List.{List, [], ◌∷◌, ◌++◌}
use lib.ListN.{length, take, drop, get_or}
use Rattle.flash.specs.Blocks.{part, image_size, find, free, page_address, byte_address}
use Rattle.flash.specs.Image.{permitted, program, erase_block, erase_all}
use Rattle.unit.specs.declared.Unit.{Unit as Port}
use Rattle.unit.specs.declared.Phase.TheVariants.{Awake}
use Rattle.unit.specs.Phases.{Kind, need, inside}
use Rattle.unit.specs.Phases.Kind.{page_program, unit_program, block_erase, all_erase}
use Rattle.protocol.specs.Endings.{bank_end}

-- the address that a packet names, by what followed its command
abbrev pub page_named : List ℕ → ℕ
page_named xs = page_address (get_or xs 0 0) (get_or xs 1 0)

abbrev pub byte_named : List ℕ → ℕ
byte_named xs = byte_address (get_or xs 0 0) (get_or xs 1 0) (get_or xs 2 0)

-- a packet of this kind may program these data from this address on: they reach no further in their bank than it may, and each is inside, in a block that is not protected
pub record Permitted (k : Kind) (p a : ℕ) (ds : List ℕ) : Type 0 where
  pub bank : a % 65536 + length ds ≤ bank_end k
  pub free : permitted part p a ds ≡ true

-- a packet of this kind, with xs after its command, is carried out, and leaves the image so
pub data Carried (p : ℕ) (img xs : List ℕ) : Kind → List ℕ → Type 0 where
  page : Permitted page_program p (page_named xs) (drop 2 xs) → Carried p img xs page_program (program part p img (page_named xs) (drop 2 xs)).image
  bytes : Permitted unit_program p (byte_named xs) (drop 4 xs) → Carried p img xs unit_program (program part p img (byte_named xs) (drop 4 xs)).image
  block : get_or xs 2 0 ≡ 0xD0 → free p (find part (page_named xs)) ≡ true → Carried p img xs block_erase (erase_block part p img (page_named xs)).image
  all : get_or xs 0 0 ≡ 0xD0 → Carried p img xs all_erase (erase_all part p img)

-- this byte is the last of a packet that is carried out: the image has the right size, and SRD is 80
pub record Done (u : Port) (img : List ℕ) (b : ℕ) (new : List ℕ) : Type 0 where
  pub kind : Kind
  pub received : ℕ
  pub place : u.phase ≡ Awake (inside kind received)
  pub last : suc received ≡ need kind (take received u.collected ++ b ∷ [])
  pub ready : u.registers.srd ≡ 0x80
  pub size : length img ≡ image_size part
  pub carried : Carried u.settings.protection img (take received u.collected ++ b ∷ []) kind new

-- what a byte does to the image: nothing, or that
pub data Change (u : Port) (img : List ℕ) (b : ℕ) (new : List ℕ) : Type 0 where
  none : new ≡ img → Change u img b new
  last : Done u img b new → Change u img b new
