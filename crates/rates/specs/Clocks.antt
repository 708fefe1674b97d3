-- Document 02, Item 7: "A clock is fixed at 8 MHz, fixed at 7.3728 MHz, or external with its frequency in hertz as a 64-bit float.
-- Refuse an external clock unless it is at least 2,000,000 and at most 20,000,000." Floats are IEEE 754's binary64 (lib.Ieee).
use Rattle.std.specs.Prelude.{Bool, true, ◌&&◌, ℕ, pos, Float}
use Rattle.std.specs.Float.{binary64}
use Rattle.std.specs.Float.Ieee.{le, of_int}
use Rattle.rates.specs.declared.Clock.{Clock}
use Rattle.rates.specs.declared.Clock.TheVariants.{Fixed8, Fixed7, External}

-- the whole number n as a float; exact up to 2 ^ 53
unfoldable pub float : ℕ → Float
float n = of_int binary64 (pos n)

-- a clock's frequency in hertz
unfoldable pub hertz : Clock → Float
hertz Fixed8 = float 8000000
hertz Fixed7 = float 7372800
hertz (External f) = f

-- at least 2,000,000 and at most 20,000,000: no NaN is, since a comparison with one is false
unfoldable pub in_range : Float → Bool
in_range f = le (float 2000000) f && le f (float 20000000)

-- whether a clock is taken: a fixed one always
unfoldable pub is_taken : Clock → Bool
is_taken Fixed8 = true
is_taken Fixed7 = true
is_taken (External f) = in_range f
