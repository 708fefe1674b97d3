-- Document 02, Item 7: "try every divider 0 to 255", and of them "the smallest whose distance .. is least. Refusal 9 is the clock, 10 any other wanted rate;
-- a refused plan has divider 0 and both floats +0." The lowest number wins (document 01).
use Rattle.std.specs.Prelude.{Bool, false, ◌&&◌, cond, ℕ, zero, suc, pos, Float, Result, Ok, Err}
use Rattle.std.specs.Float.{fin}
use Rattle.std.specs.Float.Ieee.{le}
use Rattle.rates.specs.declared.Clock.{Clock}
use Rattle.rates.specs.declared.Plan.{Plan}
use Rattle.rates.specs.declared.Refusal.{Refusal}
use Rattle.rates.specs.declared.Refusal.TheVariants as refusal
use Rattle.rates.specs.declared.Planned.{Planned}
use Rattle.rates.specs.Clocks.{hertz, is_taken}
use Rattle.rates.specs.Rates.{is_listed, plan_at, farness}

-- the largest divider
abbrev pub max_divider : ℕ
max_divider = 255

-- whether the distance d is at most that of every divider from 0 to k
unfoldable pub at_most_all : Float → ℕ → Float → ℕ → Bool
at_most_all f rate d zero = le d (farness f rate zero)
at_most_all f rate d (suc k) = at_most_all f rate d k && le d (farness f rate (suc k))

-- whether the divider k has the least distance
unfoldable pub is_least : Float → ℕ → ℕ → Bool
is_least f rate k = at_most_all f rate (farness f rate k) max_divider

-- the first divider from k on that has it; where none of n dividers has it, the one after them
unfoldable pub first_least : Float → ℕ → ℕ → ℕ → ℕ
first_least f rate zero k = k
first_least f rate (suc n) k = cond (is_least f rate k) k (first_least f rate n (suc k))

-- the smallest divider whose distance is least
unfoldable pub best_divider : Float → ℕ → ℕ
best_divider f rate = first_least f rate max_divider zero

-- +0
abbrev pub plus_zero : Float
plus_zero = fin false 0 (pos 0)

abbrev pub refused_with : ℕ → Planned
refused_with n = record { refusal = n; plan = record { reached = plus_zero; distance = plus_zero; divider = 0 } }

abbrev pub made_plan : Plan → Planned
made_plan p = record { refusal = 0; plan = p }

-- the number of each refusal
abbrev pub number : Refusal → ℕ
number refusal.Clock = 9
number refusal.Rate = 10

-- what is answered, in numbers: 0 and the plan, or a refusal's number and the plan of zeros
abbrev pub numbered : Result Plan Refusal → Planned
numbered (Ok p) = made_plan p
numbered (Err e) = refused_with (number e)

-- the answer to a clock and a wanted rate, where this is the plan if one is made
unfoldable pub answer_with : Clock → ℕ → Plan → Planned
answer_with c rate p = cond (is_taken c) (cond (is_listed rate) (made_plan p) (refused_with 10)) (refused_with 9)

unfoldable pub planned : Clock → ℕ → Planned
planned c rate = answer_with c rate (plan_at (hertz c) rate (best_divider (hertz c) rate))
