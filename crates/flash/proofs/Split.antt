-- The part as two regions: low flash, 02000 to 02FFF, is blocks 0 and 1, and high flash, 0C000 to 0FFFF, is blocks 2 and 3. In each the two blocks are of one size and adjoin, in the memory and in the image alike. An address of neither is in no block.
use Prim.Native.Nat.{ℕ, zero, suc, ◌+◌, ◌-◌, ◌*◌, ◌≤◌, ◌<◌}
use native.Mathlib.Omega.{arith}
use mathlib.Core.Path.{◌≡◌, refl, sym}
use lib.ListN.{length}
use Rattle.flash.specs.declared.Spot.{Spot}
use Rattle.std.proofs.Common.{Option, Some, None}
use Rattle.flash.specs.Blocks.{spot, part, find, block_from, block_size}
use Rattle.flash.proofs.Places.{Lies, block_address, rising, lies, found}

-- blocks i and i + 1 are m bytes each, from address f and from place z of the image on
abbrev pub Region : ℕ → ℕ → ℕ → ℕ → Type 0
Region i f m z =
    (j : ℕ) → i ≤ j → j < i + 2 → (j < length part) × (block_address part j ≡ f + (j - i) * m) × (block_size part j ≡ m) × (block_from part j ≡ z + (j - i) * m)

pub low : Region 0 0x2000 2048 0
low zero g h = (omega arith, refl, refl, refl)
low (suc zero) g h = (omega arith, refl, refl, refl)
low (suc (suc j)) g h = absurd (omega arith)

pub high : Region 2 0xC000 8192 4096
high zero g h = absurd (omega arith)
high (suc zero) g h = absurd (omega arith)
high (suc (suc zero)) g h = (omega arith, refl, refl, refl)
high (suc (suc (suc zero))) g h = (omega arith, refl, refl, refl)
high (suc (suc (suc (suc j)))) g h = absurd (omega arith)

-- an address of a region is in the block between whose bounds it lies, as far into the region's part of the image as into the region
pub in_region : (i f m z : ℕ) → Region i f m z → (a j k : ℕ) → i ≤ j → j < i + 2 → f + (j - i) * m ≤ a → a < f + (j - i) * m + m → k ≡ z + (a - f) → Some (spot j k) ≡ find part a
in_region i f m z r a j k g h p q e =
    let t = r j g h in
    sym
    (lies 0 part rising a j k
    (record { number = t.0; from = omega (arith, t.1); under = omega (arith, t.1, t.2); place = omega (arith, t.1, t.3) }))

-- an address of neither region is in no block
pub in_no_region : (a : ℕ) → (0x2000 ≤ a → a < 0x3000 → ⊥) → (0xC000 ≤ a → a < 0x10000 → ⊥) → None ≡ find part a
in_no_region a not_low not_high = go (find part a) refl
  where
    in_none : (i k : ℕ) → Lies part i k a → ⊥
    in_none zero k l = not_low (omega (arith, l.from)) (omega (arith, l.under))
    in_none (suc zero) k l = not_low (omega (arith, l.from)) (omega (arith, l.under))
    in_none (suc (suc zero)) k l = not_high (omega (arith, l.from)) (omega (arith, l.under))
    in_none (suc (suc (suc zero))) k l = not_high (omega (arith, l.from)) (omega (arith, l.under))
    in_none (suc (suc (suc (suc i)))) k l = absurd (omega (arith, l.number))

    go : (w : Option Spot) → find part a ≡ w → None ≡ find part a
    go (Some it) e = absurd (in_none it.block it.place (found part a it.block it.place e))
    go None e = sym e
