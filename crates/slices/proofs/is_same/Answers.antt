-- Lists of different lengths are not the same.
use Rattle.std.proofs.Common.{sym}
use Rattle.slices.proofs.Turns.{same_long}
use Rattle.slices.proofs.is_same.Goals as goal

pub returns-then-a-b : goal.returns-then-a-b
returns-then-a-b c = sym (same_long _ _ c.if-a-b.true)
