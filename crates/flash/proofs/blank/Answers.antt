-- `flash::blank` meets its contract: the three places are those of 0FFFC, 0FFFD and 0FFFE.
use Rattle.std.proofs.Common.{◌∙◌, ap, List, [], ◌∷◌, ℕ, length, eq-eqb, ne_eqb, arith}
use Rattle.slices.specs.Lists.{same}
use Rattle.flash.specs.Blocks.{sized, find, holds, place_of}
use Rattle.flash.specs.Image.{is_blank, byte_at}
use Rattle.flash.proofs.Turns.{three_from}
use Rattle.flash.proofs.blank.Goals as goal

pub returns-then-image-eq-IMAGE : goal.returns-then-image-eq-IMAGE
unfolding is_blank sized byte_at find holds place_of
returns-then-image-eq-IMAGE c =
    let l = c.args.image.now in
    c.is_same.ensures
    ∙ (ap (λ (x : List ℕ). same x (0xFF ∷ 0xFF ∷ 0xFF ∷ [])) (three_from l 20476 (omega arith)) ∙ simp (eq-eqb (length l) 20480 (omega arith)))

pub returns-else-image-eq-IMAGE : goal.returns-else-image-eq-IMAGE
unfolding is_blank sized
returns-else-image-eq-IMAGE c = simp (ne_eqb _ _ c.if-image-eq-IMAGE.false)
