-- `flash::id` meets its contract: the seven places are those of the addresses of the ID bytes.
use Rattle.std.proofs.Common.{length, eq-eqb, ne_eqb, arith}
use Rattle.flash.specs.Blocks.{sized, find, holds, place_of}
use Rattle.flash.specs.Image.{stored_id, byte_at}
use Rattle.flash.proofs.id.Goals as goal

pub returns-then-image-ne-IMAGE : goal.returns-then-image-ne-IMAGE
unfolding stored_id sized
returns-then-image-ne-IMAGE c = simp (ne_eqb _ _ c.if-image-ne-IMAGE.true)

pub returns : goal.returns
unfolding stored_id sized byte_at find holds place_of
returns c = simp (eq-eqb (length c.args.image.now) 20480 (omega arith))
