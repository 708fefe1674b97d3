-- The word, the two registers and the newline, one behind the other, are the line.
use Rattle.std.proofs.Common.{refl, arith}
use Rattle.lines.specs.Text.{spaced, parted, end_line}
use Rattle.lines.proofs.Writes.{adds_then, adds_front}
use Rattle.lines.proofs.end_line.Goals as goal

pub returns : goal.returns
unfolding spaced parted end_line
returns c =
    rw c.finish.ensures.len
    (adds_front (adds_then (omega arith) (adds_then (omega arith) c.put.ensures c.put_hex.ensures) c.finish.ensures.added) refl)
