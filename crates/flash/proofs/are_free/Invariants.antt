-- `flash::are_free` meets its contract: what is left to ask from `at` on is what was asked, and one free address frees the rest of its page. The flash ends at 65536, so no sum wraps.
use Rattle.std.proofs.Common.{◌≡◌}
use Rattle.flash.specs.Blocks.{part}
use Rattle.flash.specs.Image.{free_from}
use Rattle.flash.proofs.are_free.Given as goal

abbrev pub invariant-loop-left : goal.invariant-loop-left
invariant-loop-left l = free_from part l.protection l.at l.left ≡ free_from part l.protection l.initial.at l.initial.left

abbrev pub decreases-loop-left : goal.decreases-loop-left
decreases-loop-left l = l.left
