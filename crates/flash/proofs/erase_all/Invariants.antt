-- `flash::erase_all` meets its contract: after so many turns so many blocks are wiped, each unless it is protected.
use Rattle.std.proofs.Common.{◌≡◌}
use Rattle.flash.specs.Blocks.{part}
use Rattle.flash.specs.Image.{wiped_to}
use Rattle.flash.proofs.erase_all.Given as goal

abbrev pub invariant-loop-block : goal.invariant-loop-block
invariant-loop-block l = l.image ≡ wiped_to part l.protection l.block l.initial.image
