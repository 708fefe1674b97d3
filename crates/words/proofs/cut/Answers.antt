-- The two tests are those of the definition, and between them the cast loses the fraction alone.
use Rattle.std.proofs.Common.{T, sym, ◌∙◌, subst}
use lib.Ieee.{of_bits, neg}
use Rattle.words.specs.Shown.{cut}
use Rattle.words.proofs.cut.Goals as goal
use Rattle.words.proofs.cut.Goals.{else-x-via-then-x+else-x-2, else-x-via-else-x}

pub truncating_f64_to_u64-requires-clause-lower_bound : goal.truncating_f64_to_u64-requires-clause-lower_bound
unfolding of_bits neg
truncating_f64_to_u64-requires-clause-lower_bound c = subst T (sym c.if-x.true) tt

pub truncating_f64_to_u64-requires-clause-upper_bound : goal.truncating_f64_to_u64-requires-clause-upper_bound
unfolding of_bits
truncating_f64_to_u64-requires-clause-upper_bound c = subst T (sym c.if-x-2.true) tt

pub returns-then-x-2 : goal.returns-then-x-2
unfolding cut of_bits neg
returns-then-x-2 c = c.truncating_f64_to_u64.ensures ∙ rw (c.if-x.true, c.if-x-2.true)

pub returns-else-x : goal.returns-else-x
unfolding cut of_bits neg
returns-else-x c = elim c.else-x.branch [ else-x-via-then-x+else-x-2 w ↦ rw (w.if-x.true, w.if-x-2.false) | else-x-via-else-x w ↦ rw w.if-x.false ]
