-- Of a wrong size nothing is erased; else every block has had its turn.
use Rattle.std.proofs.Common.{◌≡◌, ◌∙◌, ap, sym, add-one, arith}
use Rattle.flash.specs.Blocks.{part}
use Rattle.flash.specs.Image.{wiped_free}
use Rattle.flash.proofs.Outcomes.{true_sized, not_sized, all_unsized, all_done}
use Rattle.flash.proofs.erase_all.Goals as goal

pub returns-in_default : goal.returns-in_default
returns-in_default c = sym (all_unsized part _ _ (not_sized part _ c.in_default.ensures.cases))

pub loop-block-preserved : goal.loop-block-preserved
loop-block-preserved c = c.wipe_free.ensures ∙ rw (add-one) (ap (wiped_free part c.args.protection c.loop-block.block) c.loop-block.invariant)

pub returns : goal.returns
returns c =
    let e : c.loop-block.block ≡ 4 = omega arith in
    let whole = c.in-Some.ensures.cases in
    c.loop-block.invariant ∙ rw (e, whole.same) (sym (all_done part _ _ (true_sized part _ whole.long)))
