-- Plans bit for bit, computed by way of the search, which is what the rule plans. The patterns are those of an IEEE calculation made apart from this project's code
-- and checked by exact fractions; 0x402EC4EC4EC4EC00, the distance for 8 MHz and 9600, is 15.38 hertz.
use mathlib.Core.Path.{◌≡◌, refl, sym, ◌∙◌}
use Prim.Native.Nat.{ℕ}
use mathlib.Core.Bool.{false, true}
use mathlib.Core.List.{List, [], ◌∷◌, map}
use lib.Ieee.{nan, inf, binary64, div, sub, lt, le, of_int, of_bits}
use Rattle.rates.specs.declared.Clock.{Clock}
use Rattle.rates.specs.declared.Clock.TheVariants.{Fixed8, Fixed7, External}
use Rattle.rates.specs.declared.Planned.{Planned}
use Rattle.rates.specs.Clocks.{float, hertz, in_range, is_taken}
use Rattle.rates.specs.Rates.{is_listed, reached_at, apart, plan_at}
use Rattle.rates.specs.Plans.{answer_with, planned}
use Rattle.rates.specs.Search.{nearer, best_up_to, searched}
use Rattle.rates.proofs.Answers.{searched_is}

-- a clock, a wanted rate, and what is answered
pub record Row : Type 0 where
  pub clock : Clock
  pub rate : ℕ
  pub answer : Planned

abbrev pub row : Clock → ℕ → Planned → Row
row c rate a = record { clock = c; rate = rate; answer = a }

-- an external clock by its pattern
abbrev pub at : ℕ → Clock
at b = External (of_bits binary64 b)

-- an answer by its number, its divider and the patterns of its reached rate and its distance
abbrev pub answered : ℕ → ℕ → ℕ → ℕ → Planned
answered n k reached distance = record { refusal = n; plan = record { reached = of_bits binary64 reached; distance = of_bits binary64 distance; divider = k } }

-- a plan that is made, and a refused one
abbrev pub plan : ℕ → ℕ → ℕ → Planned
plan = answered 0

abbrev pub refused : ℕ → Planned
refused n = answered n 0 0x0000000000000000 0x0000000000000000

-- each row is planned so
abbrev pub Holds : List Row → Type 0
Holds rows = map (λ (x : Row). planned x.clock x.rate) rows ≡ map (λ (x : Row). x.answer) rows

by_search : (rows : List Row) → map (λ (x : Row). searched x.clock x.rate) rows ≡ map (λ (x : Row). x.answer) rows → Holds rows
by_search rows e = sym (each rows) ∙ e
  where
    each : (rows : List Row) → map (λ (x : Row). searched x.clock x.rate) rows ≡ map (λ (x : Row). planned x.clock x.rate) rows
    each [] = refl
    each (x ∷ xs) = rw (searched_is x.clock x.rate, each xs)

-- the two fixed clocks at the five rates
unfoldable pub fixed : List Row
fixed =
    row Fixed8 9600 (plan 51 0x40C2C7B13B13B13B 0x402EC4EC4EC4EC00)
    ∷ row Fixed8 19200 (plan 25 0x40D2C7B13B13B13B 0x403EC4EC4EC4EC00)
    ∷ row Fixed8 38400 (plan 12 0x40E2C7B13B13B13B 0x404EC4EC4EC4EC00)
    ∷ row Fixed8 57600 (plan 8 0x40EB2071C71C71C7 0x409FF1C71C71C720)
    ∷ row Fixed8 115200 (plan 3 0x40FE848000000000 0x40C3240000000000)
    ∷ row Fixed7 9600 (plan 47 0x40C2C00000000000 0x0000000000000000)
    ∷ row Fixed7 19200 (plan 23 0x40D2C00000000000 0x0000000000000000)
    ∷ row Fixed7 38400 (plan 11 0x40E2C00000000000 0x0000000000000000)
    ∷ row Fixed7 57600 (plan 7 0x40EC200000000000 0x0000000000000000)
    ∷ row Fixed7 115200 (plan 3 0x40FC200000000000 0x0000000000000000)
    ∷ []

pub fixed_hold : Holds fixed
unfolding fixed float hertz in_range is_taken is_listed reached_at apart plan_at nearer best_up_to answer_with searched div sub lt le of_int of_bits
fixed_hold = by_search fixed refl

-- external clocks: both ends of the range, an exact tie, and a tie that rounding alone makes (about 4,837,180.95 hertz, where 31 is nearer before rounding): the smaller divider
unfoldable pub external : List Row
external =
    row (at 0x413E848000000000) 115200 (plan 0 0x40FE848000000000 0x40C3240000000000)
    ∷ row (at 0x417312D000000000) 9600 (plan 129 0x40C2C7B13B13B13B 0x402EC4EC4EC4EC00)
    ∷ row (at 0x4142C00000000000) 115200 (plan 0 0x4102C00000000000 0x40E2C00000000000)
    ∷ row (at 0x415273CF3CF3CF3D) 9600 (plan 30 0x40C30C30C30C30C3 0x40630C30C30C30C0)
    ∷ []

pub external_hold : Holds external
unfolding external float hertz in_range is_taken is_listed reached_at apart plan_at nearer best_up_to answer_with searched div sub lt le of_int of_bits
external_hold = by_search external refl

-- the refusals: the patterns next to the range, NaN, infinities, zeros, the smallest subnormal, a negative; rates next to listed ones, and 0; both wrong at once
unfoldable pub refusals : List Row
refusals =
    row (at 0x413E847FFFFFFFFF) 9600 (refused 9)
    ∷ row (at 0x417312D000000001) 9600 (refused 9)
    ∷ row (External nan) 9600 (refused 9)
    ∷ row (External (inf false)) 9600 (refused 9)
    ∷ row (External (inf true)) 9600 (refused 9)
    ∷ row (at 0x0000000000000000) 9600 (refused 9)
    ∷ row (at 0x8000000000000000) 9600 (refused 9)
    ∷ row (at 0x0000000000000001) 9600 (refused 9)
    ∷ row (at 0xC15E848000000000) 9600 (refused 9)
    ∷ row (External nan) 9601 (refused 9)
    ∷ row Fixed8 9601 (refused 10)
    ∷ row Fixed7 0 (refused 10)
    ∷ row (at 0x415E848000000000) 115199 (refused 10)
    ∷ []

pub refusals_hold : Holds refusals
unfolding refusals float hertz in_range is_taken is_listed reached_at apart plan_at nearer best_up_to answer_with searched div sub lt le of_int of_bits
refusals_hold = by_search refusals refl
