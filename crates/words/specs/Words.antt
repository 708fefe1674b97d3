-- The two words of a question: the clock is 8 or 7.3728 (the fixed clocks, in megahertz) or a number of hertz, and the wanted rate is a whole number.
use Rattle.std.specs.Prelude.{ℕ, min, cond, List, Result, Ok, Err}
use Rattle.std.specs.Float.{binary64}
use Rattle.std.specs.Float.Ieee.{div}
use Rattle.slices.specs.Lists.{same}
use Rattle.lines.specs.Ascii.{ascii}
use Rattle.rates.specs.declared.Clock.{Clock}
use Rattle.rates.specs.declared.Clock.TheVariants.{Fixed8, Fixed7, External}
use Rattle.rates.specs.Clocks.{float}
use Rattle.words.specs.declared.Unread.{Unread}
use Rattle.words.specs.declared.Unread.TheVariants as unread
use Rattle.words.specs.Numbers.{State, Start, Whole, Point, Decimals, NotANumber, TooLong, Reading, read_text}

-- the typed number as a float: both whole numbers are below 2 ^ 53, so that it is rounded once
abbrev pub external_of : Reading → Result Clock Unread
external_of r = Ok (External (div binary64 (float r.number) (float r.scale)))

unfoldable pub clock_in : State → Reading → Result Clock Unread
clock_in Start r = Err unread.NotANumber
clock_in Whole r = external_of r
clock_in Point r = Err unread.NotANumber
clock_in Decimals r = external_of r
clock_in NotANumber r = Err unread.NotANumber
clock_in TooLong r = Err unread.TooLong

unfoldable pub clock_word : List ℕ → Result Clock Unread
clock_word text = cond (same text (ascii "8")) (Ok Fixed8) (cond (same text (ascii "7.3728")) (Ok Fixed7) (clock_in (read_text text).state (read_text text)))

-- a rate that 32 bits cannot hold is told as the largest that they hold: neither is one of the five
unfoldable pub whole_rate : ℕ → Result ℕ Unread
whole_rate n = Ok (min n 0xFFFFFFFF)

unfoldable pub rate_in : State → Reading → Result ℕ Unread
rate_in Start r = Err unread.NotANumber
rate_in Whole r = whole_rate r.number
rate_in Point r = Err unread.NotANumber
rate_in Decimals r = Err unread.NotANumber
rate_in NotANumber r = Err unread.NotANumber
rate_in TooLong r = Err unread.TooLong

unfoldable pub rate_word : List ℕ → Result ℕ Unread
rate_word text = rate_in (read_text text).state (read_text text)
