-- What the rest of the text says after the digits so far is what the whole says.
use Rattle.std.proofs.Common.{◌≡◌, drop}
use Rattle.live.specs.Argument.{given_from, given}
use Rattle.live.proofs.protection.Given as goal

abbrev pub invariant-loop-b : goal.invariant-loop-b
invariant-loop-b l = given_from l.n (drop l.b-index l.text) ≡ given l.text
