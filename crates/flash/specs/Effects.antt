-- What a carried-out program or erase does, address by address: the document's sentences, with no image offset in them.
use Rattle.std.specs.Prelude.{ℕ, ◌+◌, ◌≤◌, ◌<◌, ◌≡◌, ◌⊎◌, Bool, true, false, List, Option, Some, None, length, get_or}
use Rattle.std.specs.Int.Bits.{bit_and}
use Rattle.flash.specs.declared.Spot.{Spot}
use Rattle.flash.specs.Blocks.{Block, spot, find}
use Rattle.flash.specs.Image.{byte_at}

-- an address of the part
unfoldable pub is_inside : Option Spot → Bool
is_inside (Some s) = true
is_inside None = false

-- each byte of ds is programmed, from address a on, and every other byte of the part is as before
pub record Programmed (bs : List Block) (a : ℕ) (ds img new : List ℕ) : Type 0 where
  pub size : length new ≡ length img
  pub there : (j : ℕ) → j < length ds → byte_at bs new (a + j) ≡ bit_and (byte_at bs img (a + j)) (get_or ds j 0)
  pub elsewhere : (x : ℕ) → is_inside (find bs x) ≡ true → (x < a) ⊎ (a + length ds ≤ x) → byte_at bs new x ≡ byte_at bs img x

-- every byte of each chosen block is FF, and every other byte of the part is as before
pub record Erased (bs : List Block) (chosen : ℕ → Bool) (img new : List ℕ) : Type 0 where
  pub size : length new ≡ length img
  pub there : (x i k : ℕ) → find bs x ≡ Some (spot i k) → chosen i ≡ true → byte_at bs new x ≡ 0xFF
  pub elsewhere : (x i k : ℕ) → find bs x ≡ Some (spot i k) → chosen i ≡ false → byte_at bs new x ≡ byte_at bs img x
