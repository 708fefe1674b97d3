-- The protection as the live program's argument gives it: decimal digits, read from the left.
use Rattle.std.specs.Prelude.{ℕ, ◌+◌, ◌-◌, ◌*◌, Bool, cond, ◌&&◌, List, [], ◌∷◌, ltb, leb, Result, Ok, Err}
use Rattle.live.specs.declared.Unread.{Unread}
use Rattle.live.specs.declared.Unread.TheVariants.{TooLarge, NotANumber}

-- the digits 0 to 9 in ASCII
unfoldable pub is_digit : ℕ → Bool
is_digit b = leb 0x30 b && leb b 0x39

-- a number is taken up to 255
unfoldable pub told : ℕ → Result ℕ Unread
told n = cond (ltb 255 n) (Err TooLarge) (Ok n)

-- what the rest of a text says after digits that made n
abbrev pub given_from : ℕ → List ℕ → Result ℕ Unread
given_from n [] = told n
given_from n (b ∷ bs) = cond (is_digit b) (given_from (n * 10 + (b - 0x30)) bs) (Err NotANumber)

-- what a text says; an empty one is no number
abbrev pub given : List ℕ → Result ℕ Unread
given [] = Err NotANumber
given (b ∷ bs) = given_from 0 (b ∷ bs)
