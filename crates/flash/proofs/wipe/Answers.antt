-- `flash::wipe` meets its contract: the part of the image that is filled is the block.
use Rattle.std.proofs.Common.{arith}
use Rattle.flash.specs.Blocks.{part}
use Rattle.flash.specs.Image.{wiped}
use Rattle.flash.proofs.Places.{block_ends}
use Rattle.flash.proofs.Turns.{filled}
use Rattle.flash.proofs.wipe.Goals as goal

pub returns : goal.returns
unfolding wiped
returns c =
    let r = c.extent.ensures in
    filled c.args.image.now c.fill.new.self c.extent.result.start c.extent.result.end _ _ r.0 r.1 (omega (arith, block_ends part c.args.block (omega arith))) (c.fill.ensures.after (λ y e. e))
