-- A float as it is shown, in hundredths: times 100, a half added, and cut to a whole number. A NaN, an infinity, what is negative and what 64 bits cannot hold are shown as 0.
use Rattle.std.specs.Prelude.{ℕ, true, false, cond, ◌&&◌, pos, from_bits, Float}
use Rattle.std.specs.Float.{fin, binary64}
use Rattle.std.specs.Float.Ieee.{add, mul, div, lt, to_unsigned}
use Rattle.rates.specs.Clocks.{float}

-- a half
abbrev pub half : Float
half = from_bits binary64 0x3FE0000000000000

unfoldable pub cut : Float → ℕ
cut x = cond (lt (fin true 1 (pos 0)) x && lt x (fin false 1 (pos 64))) (to_unsigned 64 x) 0

unfoldable pub hundredths : Float → ℕ
hundredths x = cut (add binary64 (mul binary64 x (float 100)) half)

-- a distance as a part of the wanted rate, in per cent
unfoldable pub percent_of : Float → ℕ → Float
percent_of distance rate = div binary64 (mul binary64 distance (float 100)) (float rate)
