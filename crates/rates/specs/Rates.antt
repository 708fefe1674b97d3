-- Document 02, Item 7: "the rate is the clock divided by 16, then by the divider plus 1, each step rounded once. The plan holds the reached rate and its
-- distance from the wanted one as floats, and the divider"; the distance is "greater rate less lesser, rounded once". An operation of lib.Ieee rounds once.
use Rattle.std.specs.Prelude.{Bool, false, ◌||◌, cond, List, [], ◌∷◌, ℕ, ◌+◌, eqb, Float}
use Rattle.std.specs.Float.{binary64}
use Rattle.std.specs.Float.Ieee.{div, sub, lt}
use Rattle.rates.specs.declared.Plan.{Plan}
use Rattle.rates.specs.Clocks.{float}

-- the rates that may be wanted
abbrev pub rates : List ℕ
rates = 9600 ∷ 19200 ∷ 38400 ∷ 57600 ∷ 115200 ∷ []

abbrev pub among : ℕ → List ℕ → Bool
among n [] = false
among n (x ∷ xs) = eqb n x || among n xs

unfoldable pub is_listed : ℕ → Bool
is_listed rate = among rate rates

-- the rate that a clock of f hertz reaches with the divider k
unfoldable pub reached_at : Float → ℕ → Float
reached_at f k = div binary64 (div binary64 f (float 16)) (float (k + 1))

-- the greater less the lesser
unfoldable pub apart : Float → Float → Float
apart x y = cond (lt x y) (sub binary64 y x) (sub binary64 x y)

-- the plan with the divider k
unfoldable pub plan_at : Float → ℕ → ℕ → Plan
plan_at f rate k = record { reached = reached_at f k; distance = apart (reached_at f k) (float rate); divider = k }

-- how far the divider k is from the wanted rate
abbrev pub farness : Float → ℕ → ℕ → Float
farness f rate k = (plan_at f rate k).distance
