-- After i turns the first i bytes are written.
use Rattle.std.proofs.Common.{take}
use Rattle.lines.specs.Text.{spaced}
use Rattle.lines.specs.Writing.{Adds}
use Rattle.lines.proofs.Line.put_hex.Given as goal

abbrev pub invariant-loop-b : goal.invariant-loop-b
invariant-loop-b l = Adds (spaced (take l.b-index l.bytes)) l.initial.self l.self
