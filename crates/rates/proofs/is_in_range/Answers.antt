-- The two tests are those of the definition, and 2000000.0 and 20000000.0 are the floats of 2,000,000 and 20,000,000.
use Rattle.std.proofs.Common.{◌≡◌, true, false}
use lib.Ieee.{le, of_int, of_bits}
use Rattle.rates.specs.Clocks.{float, in_range}
use Rattle.rates.proofs.is_in_range.Goals as goal

pub returns-then-f : goal.returns-then-f
unfolding in_range float of_int of_bits
returns-then-f c = let above : le (float 2000000) c.args.f ≡ true = c.if-f.true in rw above

pub returns-else-f : goal.returns-else-f
unfolding in_range float of_int of_bits
returns-else-f c = let below : le (float 2000000) c.args.f ≡ false = c.if-f.false in rw below
