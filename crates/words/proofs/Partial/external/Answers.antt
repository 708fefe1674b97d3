-- Each of the two whole numbers becomes the float nearest to it, and the quotient is rounded.
use Rattle.rates.specs.Clocks.{float}
use Rattle.words.proofs.Partial.external.Goals as goal

pub returns : goal.returns
unfolding float
returns c = rw (c.nearest_u64_to_f64-number.ensures, c.nearest_u64_to_f64-scale.ensures)
