-- No reply is no line; the number, its colon, the bytes and the newline, one behind the other, are one.
use Rattle.std.proofs.Common.{◌≡◌, ◌≢◌, length, refl, arith, sym}
use Rattle.std.proofs.lemmas.Bool.Decides.{nat_tests}
use Rattle.lines.proofs.Writes.{adds_then, adds_front}
use Rattle.lines.proofs.Texts.{decimal_fits, no_line, some_reply}
use Rattle.lines.proofs.reply_line.Goals as goal

pub returns-then-is_empty : goal.returns-then-is_empty
returns-then-is_empty c =
    let none : length c.first-reply.result.now ≡ 0 = grind (arith, nat_tests) in
    no_line _ _ _ _ c.first-reply.ensures none

pub returns : goal.returns
returns c =
    let some : length c.first-reply.result.now ≢ 0 = grind (arith, nat_tests) in
    let digits = decimal_fits c.args.number c.ranges.number.fits in
    let text = adds_then (omega arith) c.put_decimal.ensures (adds_then (omega arith) c.put.ensures (adds_then (omega arith) c.put_hex.ensures c.finish.ensures.added)) in
    rw (c.finish.ensures.len, sym c.first-reply.ensures, sym (some_reply c.args.number c.first-reply.result.now some c.ranges.number.fits)) (adds_front text refl)
