-- `slices::is_same` meets its contract: whether all bytes so far were alike, and what is left to compare, say together whether the two are the same.
use Rattle.std.proofs.Common.{◌≡◌, ◌&&◌, drop}
use Rattle.slices.specs.Lists.{same}
use Rattle.slices.proofs.is_same.Given as goal

abbrev pub invariant-loop-i : goal.invariant-loop-i
invariant-loop-i l = (l.alike && same (drop l.i l.a) (drop l.i l.b)) ≡ same l.a l.b
