-- A turn burns one datum more, and the flag stays up only where the byte that is left is the one that was wanted.
use Rattle.std.proofs.Common.{arith}
use Rattle.flash.proofs.Turns.{burn_turn, good_turn}
use Rattle.flash.proofs.burn_bytes.Goals as goal

pub loop-i-preserved : goal.loop-i-preserved
loop-i-preserved c =
    let old = c.args.bytes.now in
    let new = c.args.new.now in
    let l = c.loop-i in
    (burn_turn old new l.bytes l.i l.invariant.0 (omega arith) (omega arith), good_turn old new l.bytes l.i l.good l.invariant.0 l.invariant.1 (omega arith) (omega arith))
