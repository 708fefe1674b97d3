-- The divider 0 alone is the start of the search; one turn is one step of its definition.
use Rattle.std.proofs.Common.{◌∙◌, add-one}
use Rattle.rates.specs.Search.{best_up_to}
use Rattle.rates.proofs.best.Goals as goal

pub loop-k-init : goal.loop-k-init
unfolding best_up_to
loop-k-init c = c.plan_at-best.ensures

pub loop-k-preserved : goal.loop-k-preserved
unfolding best_up_to
loop-k-preserved c = c.nearer-best.ensures ∙ rw (c.plan_at.ensures, c.loop-k.invariant, add-one)
