-- Words and what they say, and floats and what is shown of them, computed.
use Rattle.std.proofs.Common.{◌≡◌, ℕ, List, [], ◌∷◌, map, Result, Ok, Err, refl}
use Prim.Native.String.{String}
use lib.Ieee.{binary64, add, mul, div, lt, of_int, of_bits, to_unsigned}
use Rattle.lines.specs.Ascii.{ascii}
use Rattle.rates.specs.declared.Clock.{Clock}
use Rattle.rates.specs.declared.Clock.TheVariants.{Fixed8, Fixed7, External}
use Rattle.rates.specs.Clocks.{float}
use Rattle.words.specs.declared.Unread.{Unread}
use Rattle.words.specs.declared.Unread.TheVariants as unread
use Rattle.words.specs.Numbers.{whole_digit, decimal_digit, digit_in, after_point, is_digit, read_byte, read_text}
use Rattle.words.specs.Words.{clock_in, clock_word, whole_rate, rate_in, rate_word}
use Rattle.words.specs.Shown.{cut, hundredths, percent_of}

-- a word and what it says
pub record Row (A : Type 0) : Type 0 where
  pub word : String
  pub says : A

abbrev pub row : {A : Type 0} → String → A → Row A
row w a = record { word = w; says = a }

-- 8 and 7.3728 are megahertz, all other numbers hertz, by the pattern that the number is nearest to
unfoldable pub clocks : List (Row (Result Clock Unread))
clocks =
    row "8" (Ok Fixed8)
    ∷ row "7.3728" (Ok Fixed7)
    ∷ row "8000000" (Ok (External (of_bits binary64 0x415E848000000000)))
    ∷ row "12345678.9" (Ok (External (of_bits binary64 0x41678C29DCCCCCCD)))
    ∷ row "0012345678.90" (Ok (External (of_bits binary64 0x41678C29DCCCCCCD)))
    ∷ row "8.0" (Ok (External (of_bits binary64 0x4020000000000000)))
    ∷ row "0" (Ok (External (of_bits binary64 0x0000000000000000)))
    ∷ row "999999999999999" (Ok (External (of_bits binary64 0x430C6BF52633FFF8)))
    ∷ row "0000000000008000000" (Ok (External (of_bits binary64 0x415E848000000000)))
    ∷ row "0.00000000000001" (Ok (External (of_bits binary64 0x3D06849B86A12B9B)))
    ∷ row "0.123456789012345" (Err unread.TooLong)
    ∷ row "1000000000000000" (Err unread.TooLong)
    ∷ row "" (Err unread.NotANumber)
    ∷ row "8." (Err unread.NotANumber)
    ∷ row ".5" (Err unread.NotANumber)
    ∷ row "1.2.3" (Err unread.NotANumber)
    ∷ row "-2000000" (Err unread.NotANumber)
    ∷ row "2e6" (Err unread.NotANumber)
    ∷ row "8 " (Err unread.NotANumber)
    ∷ []

pub clocks_say : map (λ (x : Row (Result Clock Unread)). clock_word (ascii x.word)) clocks ≡ map (λ (x : Row (Result Clock Unread)). x.says) clocks
unfolding clocks clock_word clock_in read_text read_byte digit_in whole_digit decimal_digit after_point is_digit float div of_int of_bits
clocks_say = refl

unfoldable pub wanted : List (Row (Result ℕ Unread))
wanted =
    row "9600" (Ok 9600)
    ∷ row "0115200" (Ok 115200)
    ∷ row "4294967295" (Ok 0xFFFFFFFF)
    ∷ row "4294976896" (Ok 0xFFFFFFFF)
    ∷ row "1000000000000000" (Err unread.TooLong)
    ∷ row "9600.0" (Err unread.NotANumber)
    ∷ row "9600x" (Err unread.NotANumber)
    ∷ row "" (Err unread.NotANumber)
    ∷ []

pub rates_say : map (λ (x : Row (Result ℕ Unread)). rate_word (ascii x.word)) wanted ≡ map (λ (x : Row (Result ℕ Unread)). x.says) wanted
unfolding wanted rate_word rate_in whole_rate read_text read_byte digit_in whole_digit decimal_digit after_point is_digit
rates_say = refl

-- a float by its pattern, and the hundredths that are shown of it
pub record Showing : Type 0 where
  pub pattern : ℕ
  pub shows : ℕ

abbrev pub showing : ℕ → ℕ → Showing
showing p n = record { pattern = p; shows = n }

-- 9615.38.., 15.38.., 55555.5.., 0.005, 0.0049, 0, -0.02, 1.2 * 10 ^ 17, 2 ^ 64, an infinity, a NaN
unfoldable pub floats : List Showing
floats =
    showing 0x40C2C7B13B13B13B 961538
    ∷ showing 0x402EC4EC4EC4EC00 1538
    ∷ showing 0x40EB2071C71C71C7 5555556
    ∷ showing 0x3F747AE147AE147B 1
    ∷ showing 0x3F741205BC01A36E 0
    ∷ showing 0x0000000000000000 0
    ∷ showing 0xBF947AE147AE147B 0
    ∷ showing 0x437AA535D3D0C000 12000000000000000000
    ∷ showing 0x43F0000000000000 0
    ∷ showing 0x7FF0000000000000 0
    ∷ showing 0x7FF8000000000000 0
    ∷ []

pub floats_show : map (λ (x : Showing). hundredths (of_bits binary64 x.pattern)) floats ≡ map (λ (x : Showing). x.shows) floats
unfolding floats hundredths cut float add mul lt of_int of_bits to_unsigned
floats_show = refl

-- the distance for 8 MHz and 57600, 2044.4.. hertz, is 3.549 per cent
pub percent_shows : hundredths (percent_of (of_bits binary64 0x409FF1C71C71C720) 57600) ≡ 355
unfolding percent_of hundredths cut float add mul div lt of_int of_bits to_unsigned
percent_shows = refl
