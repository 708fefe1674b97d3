-- No float of a plan is a NaN, so each has its pattern.
use Rattle.std.proofs.Common.{◌≡◌, ℕ, sym, ◌∙◌, subst}
use Rattle.rates.specs.declared.Clock.{Clock}
use Rattle.rates.specs.declared.Planned.{Planned}
use Rattle.rates.specs.Plans.{planned}
use Rattle.rates.specs.Floats.{Plain}
use Rattle.rates.proofs.Patterns.{answer_plain, plain_number}
use Rattle.replan.proofs.answer.Goals as goal

both : (clock : Clock) (rate : ℕ) (a : Planned) → a ≡ planned clock rate → Plain a.plan.reached × Plain a.plan.distance
both clock rate a e = subst (λ (a : Planned). Plain a.plan.reached × Plain a.plan.distance) (sym e) (answer_plain clock rate)

pub to_le_bytes-requires : goal.to_le_bytes-requires
to_le_bytes-requires c = plain_number _ (both c.args.clock c.args.rate _ (c.of-planned.ensures ∙ c.plan_for.ensures)).0

pub to_le_bytes-requires-2 : goal.to_le_bytes-requires-2
to_le_bytes-requires-2 c = plain_number _ (both c.args.clock c.args.rate _ (c.of-planned.ensures ∙ c.plan_for.ensures)).1
