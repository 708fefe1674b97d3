-- How the code searches: divider by divider, a later one in the place of the best so far only where it is nearer.
-- That this finds the plan of `Plans` is proved (`searched_is`), not assumed.
use Rattle.std.specs.Prelude.{cond, ℕ, zero, suc, Float}
use Rattle.std.specs.Float.Ieee.{lt}
use Rattle.rates.specs.declared.Clock.{Clock}
use Rattle.rates.specs.declared.Plan.{Plan}
use Rattle.rates.specs.declared.Planned.{Planned}
use Rattle.rates.specs.Clocks.{hertz}
use Rattle.rates.specs.Rates.{plan_at}
use Rattle.rates.specs.Plans.{max_divider, answer_with}

-- the second only where it is nearer
unfoldable pub nearer : Plan → Plan → Plan
nearer p q = cond (lt q.distance p.distance) q p

-- the best of the dividers 0 to k
unfoldable pub best_up_to : Float → ℕ → ℕ → Plan
best_up_to f rate zero = plan_at f rate zero
best_up_to f rate (suc k) = nearer (best_up_to f rate k) (plan_at f rate (suc k))

-- the answer by way of the search, which a machine computes at once
unfoldable pub searched : Clock → ℕ → Planned
searched c rate = answer_with c rate (best_up_to (hertz c) rate max_divider)
