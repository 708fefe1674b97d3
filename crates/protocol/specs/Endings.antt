-- Document 01, "Packets, once awake": what a packet of several bytes does at its last byte. xs is all that followed the command.
use Rattle.std.specs.Prelude.{ℕ, suc, min, ◌+◌, ◌%◌, Bool, true, false, cond, not, ◌&&◌, ◌||◌, List, [], ◌∷◌, length, get_or, drop, replicate, leb, ltb, eqb}
use Rattle.slices.specs.Lists.{same}
use Rattle.flash.specs.Blocks.{part, page_address, byte_address}
use Rattle.flash.specs.Image.{Written, written, stored_id, page_part, program, erase_block, erase_all}
use Rattle.unit.specs.declared.Unit.{Unit as Port}
use Rattle.unit.specs.declared.Registers.{Registers}
use Rattle.unit.specs.Phases.{Kind}
use Rattle.unit.specs.Phases.Kind.{page_read, page_program, unit_program, block_erase, all_erase, id_check}
use Rattle.unit.specs.Model.{with_srd, with_srd1, with_mismatches, ended, standing}
use Rattle.unit.specs.Range.{max_mismatches}
use Rattle.protocol.specs.Outcome.{Outcome, says, quiet}

-- the packet ends, with this SRD and image
abbrev pub leaves : Port → ℕ → List ℕ → Outcome
leaves u s img = quiet (ended u (with_srd u.registers s)) img

-- the packet ends, and changes no register and no image
abbrev pub nothing : Port → List ℕ → Outcome
nothing u img = quiet (ended u u.registers) img

-- where there is an error to report, SRD becomes `bad`: the ready bit and that error's
abbrev pub reports : Port → ℕ → Written → Outcome
reports u bad w = leaves u (cond w.good 0x80 bad) w.image

-- an outside page reads as 256 bytes FF
unfoldable pub page_reply : List ℕ → List ℕ
page_reply [] = replicate 256 0xFF
page_reply (x ∷ xs) = x ∷ xs

-- how far the low 16 address bits plus the size of a program may reach, by its packet: a page program to the end of its bank, a unit program not to the bank's last byte (document 02, Item 3)
unfoldable pub bank_end : Kind → ℕ
bank_end page_program = 65536
bank_end unit_program = 65535
bank_end page_read = 0
bank_end block_erase = 0
bank_end all_erase = 0
bank_end id_check = 0

-- what bytes write from an address on: nothing where the low 16 address bits plus their number are more than `most`
abbrev pub reaching : ℕ → ℕ → List ℕ → ℕ → List ℕ → Written
reaching most p img a ds = cond (leb (a % 65536 + length ds) most) (program part p img a ds) (written img false)

-- what a program packet writes from an address on: nothing where it reaches further than its kind may
unfoldable pub programmed_by : Kind → ℕ → List ℕ → ℕ → List ℕ → Written
programmed_by k p img a ds = reaching (bank_end k) p img a ds

-- program, at the end: nothing if SR4 or SR5 stands, else SR4 is set where it could not be done or some byte then differs from its data
unfoldable pub programs : Port → List ℕ → Written → Outcome
programs u img w = cond (standing u.registers) (nothing u img) (reports u 0x90 w)

-- erase, at the end, by its confirm byte: FF cancels; nothing if SR4 or SR5 stands; any but D0 sets both; else SR5 is set where it could not be done
unfoldable pub erases : Port → List ℕ → ℕ → Written → Outcome
erases u img confirm w =
    cond (eqb confirm 0xFF) (nothing u img)
    (cond (standing u.registers) (nothing u img)
    (cond (not (eqb confirm 0xD0)) (leaves u 0xB0 img)
    (reports u 0xA0 w)))

-- what follows F5 in the right ID packet of an image: address 00FFDF, size 7, the seven stored bytes
unfoldable pub right_id : List ℕ → List ℕ
right_id img = 0xDF ∷ 0xFF ∷ 0x00 ∷ 0x07 ∷ stored_id part img

-- what followed F5 is what follows it in the right ID packet
unfoldable pub is_right : List ℕ → List ℕ → Bool
is_right img xs = same xs (right_id img)

-- SRD1 after an ID check, right or not, after so many wrong ones: a unit that started blank stays 0C; else 0C if right and fewer than `max_mismatches` wrong ones came before (document 02, Item 5), 04 if not
unfoldable pub judged : Bool → ℕ → Bool → ℕ
judged blank wrong right = cond (blank || (right && ltb wrong max_mismatches)) 0x0C 0x04

-- the count of wrong ID checks after one: it rises by each that is not right, up to `max_mismatches`; a unit that started blank counts none
unfoldable pub counted : Bool → ℕ → Bool → ℕ
counted blank wrong right = cond (blank || right) wrong (min max_mismatches (suc wrong))

-- the registers after an ID check
unfoldable pub after_check : Bool → Registers → Bool → Registers
after_check blank r right =
    with_mismatches (with_srd1 r (judged blank r.mismatches right)) (counted blank r.mismatches right)

unfoldable pub finished : Kind → Port → List ℕ → List ℕ → Outcome
finished page_read u img xs =
    says (ended u u.registers) img (page_reply (page_part part img (get_or xs 0 0) (get_or xs 1 0)))
finished page_program u img xs =
    programs u img (programmed_by page_program u.settings.protection img (page_address (get_or xs 0 0) (get_or xs 1 0)) (drop 2 xs))
finished unit_program u img xs =
    programs u img (programmed_by unit_program u.settings.protection img (byte_address (get_or xs 0 0) (get_or xs 1 0) (get_or xs 2 0)) (drop 4 xs))
finished block_erase u img xs =
    erases u img (get_or xs 2 0) (erase_block part u.settings.protection img (page_address (get_or xs 0 0) (get_or xs 1 0)))
finished all_erase u img xs = erases u img (get_or xs 0 0) (written (erase_all part u.settings.protection img) true)
finished id_check u img xs = quiet (ended u (after_check u.settings.blank u.registers (is_right img xs))) img
