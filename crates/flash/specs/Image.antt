-- Document 01, "The flash" and the programs' and erases' rules: what the lent image holds, and what programming and erasing leave of it.
use Rattle.std.specs.Prelude.{ℕ, zero, suc, ◌+◌, Bool, true, false, cond, ◌&&◌, List, [], ◌∷◌, ◌++◌, Option, Some, None, map, length, get_or, take, drop, replicate, ltb}
use Rattle.std.specs.Int.Bits.{bit_and}
use Rattle.flash.specs.declared.Spot.{Spot}
use Rattle.slices.specs.Lists.{same}
use Rattle.flash.specs.Blocks.{Block, sized, find, block_of, place_of, block_from, block_size, guarded, free, page_address}

-- the byte at an address of the part
unfoldable pub byte_at : List Block → List ℕ → ℕ → ℕ
byte_at bs img a = get_or img (place_of bs (find bs a)) 0

-- where the seven ID bytes stand, and the reset vector's bytes that tell a blank image
abbrev pub id_addresses : List ℕ
id_addresses = 0xFFDF ∷ 0xFFE3 ∷ 0xFFEB ∷ 0xFFEF ∷ 0xFFF3 ∷ 0xFFF7 ∷ 0xFFFB ∷ []

abbrev pub vector_addresses : List ℕ
vector_addresses = 0xFFFC ∷ 0xFFFD ∷ 0xFFFE ∷ []

-- the seven ID bytes now in the image; zeros where the image has a wrong size
unfoldable pub stored_id : List Block → List ℕ → List ℕ
stored_id bs img = cond (sized bs img) (map (byte_at bs img) id_addresses) (replicate 7 0)

-- blank: 0FFFC, 0FFFD and 0FFFE all hold FF; no image of a wrong size is
unfoldable pub is_blank : List Block → List ℕ → Bool
is_blank bs img = sized bs img && same (map (byte_at bs img) vector_addresses) (0xFF ∷ 0xFF ∷ 0xFF ∷ [])

-- the page from a place of the image on
unfoldable pub part_at : List ℕ → Option Spot → List ℕ
part_at img (Some s) = take 256 (drop s.place img)
part_at img None = []

-- a page, as the part of the image; empty if outside or the image has a wrong size
unfoldable pub page_part : List Block → List ℕ → ℕ → ℕ → List ℕ
page_part bs img mid high = cond (sized bs img) (part_at img (find bs (page_address mid high))) []

-- programming a byte leaves old AND new
abbrev pub burn : List ℕ → List ℕ → List ℕ
burn xs [] = xs
burn [] (d ∷ ds) = []
burn (x ∷ xs) (d ∷ ds) = bit_and x d ∷ burn xs ds

-- the image with these bytes programmed from a place on
unfoldable pub programmed : ℕ → List ℕ → List ℕ → List ℕ
programmed k img ds = take k img ++ burn (drop k img) ds

-- the image with n bytes from a place on erased
unfoldable pub erased : ℕ → ℕ → List ℕ → List ℕ
erased k n img = take k img ++ (replicate n 0xFF ++ drop (k + n) img)

-- each of n addresses from a on is inside and not protected
abbrev pub free_from : List Block → ℕ → ℕ → ℕ → Bool
free_from bs p a zero = true
free_from bs p a (suc n) = let r = free_from bs p (suc a) n in free p (find bs a) && r

-- may these bytes be programmed from this address on? Not if there are none, nor if one lies outside or in a protected block
unfoldable pub permitted : List Block → ℕ → ℕ → List ℕ → Bool
permitted bs p a ds = ltb 0 (length ds) && free_from bs p a (length ds)

-- what a program or an erase leaves: the image, and whether there is no error to report
pub record Written : Type 0 where
  pub image : List ℕ
  pub good : Bool

abbrev pub written : List ℕ → Bool → Written
written img g = record { image = img; good = g }

-- every byte is programmed, and all is good if none then differs from its data
unfoldable pub burnt : ℕ → List ℕ → List ℕ → Written
burnt k img ds =
    written (programmed k img ds) (same (take (length ds) (drop k (programmed k img ds))) ds)

-- a program of these bytes from an address on; nothing is written where it is not permitted, or where the image has a wrong size
unfoldable pub program : List Block → ℕ → List ℕ → ℕ → List ℕ → Written
program bs p img a ds =
    cond (sized bs img && permitted bs p a ds) (burnt (place_of bs (find bs a)) img ds) (written img false)

-- block i becomes FF
unfoldable pub wiped : List Block → ℕ → List ℕ → List ℕ
wiped bs i img = erased (block_from bs i) (block_size bs i) img

-- an erase of the block of an address; nothing is erased outside, in a protected block, or where the image has a wrong size
unfoldable pub erase_block : List Block → ℕ → List ℕ → ℕ → Written
erase_block bs p img a =
    cond (sized bs img && free p (find bs a)) (written (wiped bs (block_of bs (find bs a)) img) true) (written img false)

-- block i becomes FF, unless it is protected
unfoldable pub wiped_free : List Block → ℕ → ℕ → List ℕ → List ℕ
wiped_free bs p i img = cond (guarded p i) img (wiped bs i img)

-- the first n blocks, each unless it is protected
abbrev pub wiped_to : List Block → ℕ → ℕ → List ℕ → List ℕ
wiped_to bs p zero img = img
wiped_to bs p (suc n) img = wiped_free bs p n (wiped_to bs p n img)

-- an erase of all unprotected blocks; nothing where the image has a wrong size
unfoldable pub erase_all : List Block → ℕ → List ℕ → List ℕ
erase_all bs p img = cond (sized bs img) (wiped_to bs p (length bs) img) img
