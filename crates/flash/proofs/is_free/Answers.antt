-- `flash::is_free` meets its contract: what `block_of` finds is what `free` asks, and the number of a block found is below 4.
use Rattle.std.proofs.Common.{sym}
use Rattle.flash.specs.Blocks.{part, free}
use Rattle.flash.proofs.Places.{found_number}
use Rattle.flash.proofs.is_free.Goals as goal

pub is_guarded-requires : goal.is_guarded-requires
is_guarded-requires c = found_number part _ _ _ (sym c.in-Some.ensures)

pub returns-in-Some : goal.returns-in-Some
unfolding free
returns-in-Some c = rw (c.is_guarded.ensures, sym c.in-Some.ensures)

pub returns-in-None : goal.returns-in-None
unfolding free
returns-in-None c = rw (sym c.in-None.ensures)
