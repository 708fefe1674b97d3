-- One turn more writes one byte more, with its space.
use Rattle.std.proofs.Common.{◌≡◌, ◌/◌, ◌%◌, sym, arith, take, get_or}
use Rattle.std.proofs.lemmas.List.{length-take-le}
use Rattle.lines.specs.Text.{digit, hex, spaced}
use Rattle.lines.proofs.Writes.{adds_none, adds_then}
use Rattle.lines.proofs.Texts.{spaced_more, length_spaced}
use Rattle.lines.proofs.Line.put_hex.Goals as goal

pub loop-b-init : goal.loop-b-init
unfolding spaced
loop-b-init c = adds_none c.args.self.now

pub put-requires : goal.put-requires
put-requires c =
    let i = c.loop-b.b-index in
    omega (arith, length_spaced (take i c.args.bytes.now), length-take-le i c.args.bytes.now (omega arith))

pub loop-b-preserved : goal.loop-b-preserved
unfolding hex spaced
loop-b-preserved c =
    let i = c.loop-b.b-index in
    let b = get_or c.args.bytes.now i 0 in
    let high : c.digit.result ≡ digit (b / 16) = c.digit.ensures in
    let low : c.digit-in-loop-b.result ≡ digit (b % 16) = c.digit-in-loop-b.ensures in
    rw (spaced_more c.args.bytes.now i (omega arith), sym high, sym low) (adds_then (omega arith) c.loop-b.invariant c.put.ensures)
