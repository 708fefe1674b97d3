-- The number that decimal digits stand for: each counts by its place. Written apart from how a number is read.
use Rattle.std.specs.Prelude.{ℕ, ◌+◌, ◌-◌, ◌*◌, ◌^◌, ◌<◌, ◌≤◌, List, [], ◌∷◌, length}
use Rattle.words.specs.Numbers.{Reading}

-- each byte is a digit in ASCII
abbrev pub Digits : List ℕ → Type 0
Digits [] = Unit
Digits (b ∷ bs) = (0x30 ≤ b) × (b ≤ 0x39) × Digits bs

abbrev pub value : List ℕ → ℕ
value [] = 0
value (b ∷ bs) = (b - 0x30) * 10 ^ length bs + value bs

-- both numbers of a reading are below 10 ^ 15, and so below 2 ^ 53, up to which floats hold every whole number
pub record Small (r : Reading) : Type 0 where
  pub number : r.number < 10 ^ 15
  pub scale : r.scale < 10 ^ 15
