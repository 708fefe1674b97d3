-- Item 7 in words of its own, with no search: what makes a plan the one. Floats are compared by IEEE's `le` and `lt`, both false of a NaN.
use Rattle.std.specs.Prelude.{◌≡◌, true, ℕ, ◌≤◌, ◌<◌, Float}
use Rattle.std.specs.Float.Ieee.{lt, le}
use Rattle.rates.specs.declared.Plan.{Plan}
use Rattle.rates.specs.Rates.{plan_at}

-- the plan of a divider from 0 to `most`, whose distance is at most that of each of them and below that of each smaller one
pub record Nearest (f : Float) (rate most : ℕ) (p : Plan) : Type 0 where
  pub own : p ≡ plan_at f rate p.divider
  pub divides : p.divider ≤ most
  pub least : (j : ℕ) → j ≤ most → le p.distance (plan_at f rate j).distance ≡ true
  pub smallest : (j : ℕ) → j < p.divider → lt p.distance (plan_at f rate j).distance ≡ true
