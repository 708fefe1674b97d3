-- The word, the number and the newline, one behind the other, are the line.
use Rattle.std.proofs.Common.{◌≡◌, refl, arith, sym}
use Rattle.std.specs.Prelude.{decimal as digits_of}
use Rattle.lines.specs.Text.{decimal, refused_line}
use Rattle.lines.proofs.Writes.{adds_then, adds_front}
use Rattle.lines.proofs.Texts.{decimal_is}
use Rattle.lines.proofs.refused_line.Goals as goal

pub returns : goal.returns
unfolding refused_line
returns c =
    let digits : digits_of c.from.result ≡ decimal c.args.refusal = rw c.from.ensures (sym (decimal_is c.args.refusal (omega arith))) in
    rw (c.finish.ensures.len, sym digits)
    (adds_front (adds_then (omega arith) (adds_then (omega arith) c.put.ensures c.put_decimal.ensures) c.finish.ensures.added) refl)
