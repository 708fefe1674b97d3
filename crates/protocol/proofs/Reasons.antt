-- Document 01, "When a call says no": the table of reasons, the lowest number first, in plain facts. Nothing here cites the calls.
use Prim.Native.Nat.{ℕ, ◌≤◌, ◌<◌}
use mathlib.Core.Path.{◌≡◌}
use mathlib.Core.Bool.{true, false}
use mathlib.Core.List.{List}
use lib.ListN.{length}
use Rattle.unit.specs.declared.Unit.{Unit as Port}
use Rattle.unit.specs.declared.Inputs.{Inputs}
use Rattle.unit.specs.Range.{in_range}

-- the column "At start"
pub data StartReason (img : List ℕ) (inputs : Inputs) : ℕ → Type 0 where
  fine : length img ≡ 20480 → inputs.protection ≤ 15 → StartReason img inputs 0
  image : (length img ≡ 20480 → ⊥) → StartReason img inputs 1
  protection : length img ≡ 20480 → 15 < inputs.protection → StartReason img inputs 2

-- the column "At a byte or run"
pub data Reason (u : Port) (img area : List ℕ) : ℕ → Type 0 where
  fine : length img ≡ 20480 → 256 ≤ length area → in_range u ≡ true → Reason u img area 0
  image : (length img ≡ 20480 → ⊥) → Reason u img area 1
  room : length img ≡ 20480 → length area < 256 → Reason u img area 3
  range : length img ≡ 20480 → 256 ≤ length area → in_range u ≡ false → Reason u img area 4
