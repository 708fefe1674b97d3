-- `port::run_in` meets its contract: before each byte the walk from here, joined to what has been said and taken, is the walk from the start.
use Rattle.port.specs.Parts.{under}
use Rattle.port.proofs.Runs.{Running}
use Rattle.port.proofs.run_in.Given as goal

abbrev pub invariant-loop-taken : goal.invariant-loop-taken
invariant-loop-taken l = Running l.initial.image l.bytes l.initial.reply l.initial.u l.image l.reply (under l.phase l.u) l.taken l.used
