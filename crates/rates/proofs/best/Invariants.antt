-- At the head of the loop the plan is the best of the dividers 0 to k.
use Rattle.std.proofs.Common.{◌≡◌}
use Rattle.rates.specs.Search.{best_up_to}
use Rattle.rates.proofs.best.Given as goal

abbrev pub invariant-loop-k : goal.invariant-loop-k
invariant-loop-k l = l.best ≡ best_up_to l.f l.rate l.k
