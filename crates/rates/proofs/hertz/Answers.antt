-- A fixed clock is the float of its whole number of hertz: both sides compute to the same digits. An external one is what it carries.
use lib.Ieee.{of_int, of_bits}
use Rattle.rates.specs.Clocks.{hertz, float}
use Rattle.rates.proofs.hertz.Goals as goal

pub returns-in-Fixed8 : goal.returns-in-Fixed8
unfolding hertz float of_int of_bits
returns-in-Fixed8 c = rw c.in-Fixed8.is

pub returns-in-Fixed7 : goal.returns-in-Fixed7
unfolding hertz float of_int of_bits
returns-in-Fixed7 c = rw c.in-Fixed7.is

pub returns-in-External : goal.returns-in-External
unfolding hertz
returns-in-External c = rw c.in-External.is
