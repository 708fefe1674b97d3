-- What each function of the crate ensures: the clauses, by name, one equation each with all that the call leaves.
use Rattle.std.specs.Prelude.{ℕ, ◌≡◌, Bool, List, Option}
use Rattle.flash.specs.declared.Spot.{Spot}
use Rattle.flash.specs.Blocks.{part, find, page_address}
use Rattle.flash.specs.Image.{stored_id, is_blank, page_part, written, program, erase_block, erase_all}

-- the block of an address
abbrev pub BlockOfEnsures : ℕ → Option Spot → Type 0
BlockOfEnsures address r = r ≡ find part address

-- the first address of a page
abbrev pub PageAddressEnsures : ℕ → ℕ → ℕ → Type 0
PageAddressEnsures mid high r = r ≡ page_address mid high

-- the page of an image: the part that is returned
abbrev pub PageEnsures : List ℕ → ℕ → ℕ → List ℕ → Type 0
PageEnsures img mid high r = r ≡ page_part part img mid high

abbrev pub IdEnsures : List ℕ → List ℕ → Type 0
IdEnsures img r = r ≡ stored_id part img

abbrev pub BlankEnsures : List ℕ → Bool → Type 0
BlankEnsures img r = r ≡ is_blank part img

-- the result and the image that is left
abbrev pub ProgramEnsures : List ℕ → ℕ → ℕ → List ℕ → Bool → List ℕ → Type 0
ProgramEnsures img protection address new r img' = written img' r ≡ program part protection img address new

abbrev pub EraseEnsures : List ℕ → ℕ → ℕ → Bool → List ℕ → Type 0
EraseEnsures img protection address r img' = written img' r ≡ erase_block part protection img address

abbrev pub EraseAllEnsures : List ℕ → ℕ → List ℕ → Type 0
EraseAllEnsures img protection img' = img' ≡ erase_all part protection img
