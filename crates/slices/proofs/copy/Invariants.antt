-- `slices::copy` meets its contract: after i turns the first i bytes are those of `src`, and the others as before; the shorter of the two ends it.
use Rattle.std.proofs.Common.{◌≡◌, ◌++◌, take, drop}
use Rattle.slices.proofs.copy.Given as goal

abbrev pub invariant-loop-i : goal.invariant-loop-i
invariant-loop-i l = l.dst ≡ take l.i l.src ++ drop l.i l.initial.dst
