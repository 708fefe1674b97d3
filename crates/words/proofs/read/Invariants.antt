-- What is read of the rest after the bytes so far is what is read of the whole.
use Rattle.std.proofs.Common.{◌≡◌, drop}
use Rattle.words.specs.Numbers.{read_from, read_text}
use Rattle.words.specs.Partly.{reading_of}
use Rattle.words.proofs.read.Given as goal

abbrev pub invariant-loop-b : goal.invariant-loop-b
invariant-loop-b l = read_from (reading_of l.r) (drop l.b-index l.text) ≡ read_text l.text
