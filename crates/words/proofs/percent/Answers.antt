-- The float operations are those of the definition.
use Rattle.std.proofs.Common.{refl}
use lib.Ieee.{of_int, of_bits}
use Rattle.rates.specs.Clocks.{float}
use Rattle.words.specs.Shown.{percent_of}
use Rattle.words.proofs.percent.Goals as goal

pub returns : goal.returns
unfolding percent_of float of_int of_bits
returns c = refl
