-- Document 01, "The flash": a part is a list of blocks in rising order, made of whole 256-byte pages; the image is their bytes, one block after the other.
use Rattle.std.specs.Prelude.{ℕ, zero, suc, ◌+◌, ◌-◌, ◌*◌, ◌/◌, ◌%◌, ◌^◌, ◌≤◌, ◌<◌, ◌≡◌, Bool, false, cond, not, ◌&&◌, List, [], ◌∷◌, Option, Some, None, length, ltb, leb, eqb}
use Rattle.flash.specs.declared.Spot.{Spot}

pub record Block : Type 0 where
  pub address : ℕ
  pub size : ℕ

abbrev pub block : ℕ → ℕ → Block
block a n = record { address = a; size = n }

-- document 01's part: blocks 0 to 3 at 02000 to 027FF, 02800 to 02FFF, 0C000 to 0DFFF, 0E000 to 0FFFF
abbrev pub part : List Block
part = block 0x2000 2048 ∷ block 0x2800 2048 ∷ block 0xC000 8192 ∷ block 0xE000 8192 ∷ []

-- a list of blocks is a part: disjoint, in rising order from an address on, none empty, each of whole pages
abbrev pub Rising : ℕ → List Block → Type 0
Rising lo [] = Unit {0}
Rising lo (b ∷ bs) =
    (lo ≤ b.address) × (0 < b.size) × (b.address % 256 ≡ 0) × (b.size % 256 ≡ 0) × Rising (b.address + b.size) bs

-- the bytes of an image of a part
abbrev pub image_size : List Block → ℕ
image_size [] = 0
image_size (b ∷ bs) = b.size + image_size bs

unfoldable pub sized : List Block → List ℕ → Bool
sized bs img = eqb (length img) (image_size bs)

unfoldable pub holds : Block → ℕ → Bool
holds b a = leb b.address a && ltb a (b.address + b.size)

-- place k of the image, in block i
abbrev pub spot : ℕ → ℕ → Spot
spot i k = record { block = i; place = k }

-- what an address names, where the blocks are numbered from i and the first starts at place f of the image
abbrev pub find_from : ℕ → ℕ → List Block → ℕ → Option Spot
find_from i f [] a = None
find_from i f (b ∷ bs) a = cond (holds b a) (Some (spot i (f + (a - b.address)))) (find_from (suc i) (f + b.size) bs a)

-- what an address names: the number of its block and its place in the image, or nothing of the flash
unfoldable pub find : List Block → ℕ → Option Spot
find bs a = find_from 0 0 bs a

-- document 01's values of an answer: the block's number, the image offset; a part has no such block, and its image no such offset, where the address is outside
unfoldable pub block_of : List Block → Option Spot → ℕ
block_of bs (Some s) = s.block
block_of bs None = length bs

unfoldable pub place_of : List Block → Option Spot → ℕ
place_of bs (Some s) = s.place
place_of bs None = image_size bs

-- where block i begins in the image, and how many bytes it has
abbrev pub block_from : List Block → ℕ → ℕ
block_from [] i = 0
block_from (b ∷ bs) zero = 0
block_from (b ∷ bs) (suc i) = b.size + block_from bs i

abbrev pub block_size : List Block → ℕ → ℕ
block_size [] i = 0
block_size (b ∷ bs) zero = b.size
block_size (b ∷ bs) (suc i) = block_size bs i

-- bit i of the protection number is set: block i is protected
unfoldable pub guarded : ℕ → ℕ → Bool
guarded p i = eqb (p / 2 ^ i % 2) 1

-- the address is inside, and its block is not protected
unfoldable pub free : ℕ → Option Spot → Bool
free p (Some s) = not (guarded p s.block)
free p None = false

-- the address of a page, and of a byte: mid is A8 to A15, high is A16 to A23
abbrev pub page_address : ℕ → ℕ → ℕ
page_address mid high = mid * 256 + high * 65536

abbrev pub byte_address : ℕ → ℕ → ℕ → ℕ
byte_address low mid high = low + mid * 256 + high * 65536
