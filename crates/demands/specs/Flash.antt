-- Document 01, "The flash", written out for the demands: places of the image, blocks, protection bits, the ID bytes, blankness. Nothing here cites the specification.
use Rattle.std.specs.Prelude.{ℕ, ◌+◌, ◌-◌, ◌/◌, ◌%◌, ◌^◌, ◌≤◌, ◌≡◌, List, [], ◌∷◌, get_or}

-- the image's 20,480 bytes by block: 0 to 2047, 2048 to 4095, 4096 to 12287, 12288 to 20479
pub data InBlock : ℕ → ℕ → Type 0 where
  block_0 : {k : ℕ} → k ≤ 2047 → InBlock 0 k
  block_1 : {k : ℕ} → 2048 ≤ k → k ≤ 4095 → InBlock 1 k
  block_2 : {k : ℕ} → 4096 ≤ k → k ≤ 12287 → InBlock 2 k
  block_3 : {k : ℕ} → 12288 ≤ k → k ≤ 20479 → InBlock 3 k

-- an address of the flash, its block and its place in the image: 02000 to 027FF, 02800 to 02FFF, 0C000 to 0DFFF, 0E000 to 0FFFF; any other is outside
pub data Address : ℕ → ℕ → ℕ → Type 0 where
  in_0 : {a : ℕ} → 0x2000 ≤ a → a ≤ 0x27FF → Address a 0 (a - 0x2000)
  in_1 : {a : ℕ} → 0x2800 ≤ a → a ≤ 0x2FFF → Address a 1 (a - 0x2800 + 2048)
  in_2 : {a : ℕ} → 0xC000 ≤ a → a ≤ 0xDFFF → Address a 2 (a - 0xC000 + 4096)
  in_3 : {a : ℕ} → 0xE000 ≤ a → a ≤ 0xFFFF → Address a 3 (a - 0xE000 + 12288)

-- bit i of the protection number is set, or not
abbrev pub Protected : ℕ → ℕ → Type 0
Protected p i = p / 2 ^ i % 2 ≡ 1

abbrev pub Unprotected : ℕ → ℕ → Type 0
Unprotected p i = p / 2 ^ i % 2 ≡ 0

-- the seven ID bytes, of 0FFDF, 0FFE3, 0FFEB, 0FFEF, 0FFF3, 0FFF7, 0FFFB
abbrev pub ids : List ℕ → List ℕ
ids img =
    get_or img 20447 0 ∷ get_or img 20451 0 ∷ get_or img 20459 0 ∷ get_or img 20463 0 ∷ get_or img 20467 0 ∷ get_or img 20471 0 ∷ get_or img 20475 0 ∷ []

-- 0FFFC, 0FFFD and 0FFFE all hold FF
abbrev pub Blank : List ℕ → Type 0
Blank img = (get_or img 20476 0 ≡ 0xFF) × (get_or img 20477 0 ≡ 0xFF) × (get_or img 20478 0 ≡ 0xFF)
