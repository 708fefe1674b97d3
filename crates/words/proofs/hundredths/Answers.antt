-- The float operations are those of the definition.
use lib.Ieee.{of_int, of_bits}
use Rattle.rates.specs.Clocks.{float}
use Rattle.words.specs.Shown.{hundredths}
use Rattle.words.proofs.hundredths.Goals as goal

pub returns : goal.returns
unfolding hundredths float of_int of_bits
returns c = c.cut.ensures
