-- What a packet does at its last byte, over the parts of a unit that it reads and changes: its registers, its settings and the image.
use Rattle.std.specs.Prelude.{ℕ, ◌≡◌, Bool, true, cond, not, ◌&&◌, List, eqb}
use Rattle.slices.specs.Lists.{front}
use Rattle.flash.specs.Blocks.{part}
use Rattle.flash.specs.Image.{written, page_part, erase_block, erase_all}
use Rattle.unit.specs.declared.Registers.{Registers}
use Rattle.unit.specs.declared.Settings.{Settings}
use Rattle.unit.specs.declared.State.{State}
use Rattle.unit.specs.Model.{whole, at_command, no_bytes, with_srd, standing}
use Rattle.protocol.specs.Outcome.{Outcome, quiet}
use Rattle.protocol.specs.Endings.{page_reply, reaching, programs, erases, is_right, after_check}

-- the packet has ended: the unit is at a command with these registers, nothing is collected, and this is its image
abbrev pub after_packet : Settings → Registers → List ℕ → Outcome
after_packet t r img = quiet (whole (at_command r) t no_bytes) img

-- a program of these bytes from this address on leaves those registers and that image to any unit with the state s, whatever it has collected
abbrev pub ProgramEnsures : State → Settings → List ℕ → ℕ → List ℕ → ℕ → Registers → List ℕ → Type 0
ProgramEnsures s t img a ds most r img' =
    (got : List ℕ) → after_packet t r img' ≡ programs (whole s t got) img (reaching most t.protection img a ds)

-- the same of an erase of the block of this address, with this confirm byte
abbrev pub EraseEnsures : State → Settings → List ℕ → ℕ → ℕ → Registers → List ℕ → Type 0
EraseEnsures s t img a confirm r img' =
    (got : List ℕ) → after_packet t r img' ≡ erases (whole s t got) img confirm (erase_block part t.protection img a)

-- the same of an erase of all blocks
abbrev pub EraseAllEnsures : State → Settings → List ℕ → ℕ → Registers → List ℕ → Type 0
EraseAllEnsures s t img confirm r img' =
    (got : List ℕ) → after_packet t r img' ≡ erases (whole s t got) img confirm (written (erase_all part t.protection img) true)

-- an ID check changes SRD1 and the count of wrong ones
abbrev pub CheckIdEnsures : Registers → Settings → List ℕ → List ℕ → Registers → Type 0
CheckIdEnsures r₀ t img xs r = r ≡ after_check t.blank r₀ (is_right img xs)

-- a page's reply, at the front of an area
abbrev pub ShowPageEnsures : List ℕ → List ℕ → ℕ → ℕ → List ℕ → Type 0
ShowPageEnsures img area mid high area' = area' ≡ front (page_reply (page_part part img mid high)) area

-- an erase is carried out where its confirm byte is D0 and no error stands
unfoldable pub carries : Registers → ℕ → Bool
carries r confirm = eqb confirm 0xD0 && not (standing r)

-- the registers where it is not: FF and a standing error change none, any other confirm byte sets SR4 and SR5
unfoldable pub unconfirmed : Registers → ℕ → Registers
unconfirmed r confirm = cond (eqb confirm 0xFF) r (cond (standing r) r (with_srd r 0xB0))
