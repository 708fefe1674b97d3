-- Each float operation of the code is the one of the definition, in the same order, and 16.0 is the float of 16.
use Rattle.std.proofs.Common.{◌≡◌, true, false}
use lib.Ieee.{lt, of_int, of_bits}
use Rattle.rates.specs.Clocks.{float}
use Rattle.rates.specs.Rates.{reached_at, apart, plan_at}
use Rattle.rates.proofs.plan_at.Goals as goal

pub returns-then-reached-wanted : goal.returns-then-reached-wanted
unfolding plan_at reached_at apart float of_int of_bits
returns-then-reached-wanted c =
    let below : lt (reached_at c.args.f c.args.divider) (float c.args.rate) ≡ true = c.if-reached-wanted.true in rw below

pub returns-else-reached-wanted : goal.returns-else-reached-wanted
unfolding plan_at reached_at apart float of_int of_bits
returns-else-reached-wanted c =
    let not_below : lt (reached_at c.args.f c.args.divider) (float c.args.rate) ≡ false = c.if-reached-wanted.false in rw not_below
