-- `port::run_in` meets its contract: before each byte the walk from here, joined to what has been said and taken, is the walk from the start.
use Rattle.std.proofs.Common.{◌-◌, length, arith}
use Rattle.port.specs.Parts.{under}
use Rattle.port.proofs.Given.{fine_sound}
use Rattle.port.proofs.Runs.{begins, next_given, turn, stopped, walk_stops}
use Rattle.port.proofs.run_in.Goals as goal

pub loop-taken-init : goal.loop-taken-init
loop-taken-init c = begins _ c.args.image.now c.args.bytes.now c.args.reply.now c.requires (fine_sound c.requires)

pub returns-then-reply-used-lt-PAGE : goal.returns-then-reply-used-lt-PAGE
returns-then-reply-used-lt-PAGE c =
    let l = c.loop-taken in
    let a = c.args in
    stopped a.image.now a.bytes.now a.reply.now _ _ _ (under l.phase l.u) _ _ l.invariant (walk_stops (length a.reply.now - l.used) _ _ a.bytes.now l.invariant.said l.taken (omega arith) (omega arith))

pub step_in-next-requires : goal.step_in-next-requires
step_in-next-requires c =
    let l = c.loop-taken in
    let a = c.args in
    next_given a.image.now a.bytes.now a.reply.now _ l.image l.reply (under l.phase l.u) l.taken l.used l.invariant c.if-reply-used-lt-PAGE.false

pub loop-taken-preserved : goal.loop-taken-preserved
loop-taken-preserved c =
    let l = c.loop-taken in
    let k = c.step_in-next in
    let a = c.args in
    turn a.image.now a.bytes.now a.reply.now _ l.image l.reply (under l.phase l.u) l.taken l.used l.invariant c.loop-taken-test.true c.if-reply-used-lt-PAGE.false (c.type_inv.bytes l.taken).fits
    (under k.result.0 k.new.u) k.result.1 k.new.image k.new.reply k.ensures k.auto.image k.auto.reply
