-- `flash::page` meets its contract: the address of a page is a multiple of 256, so that the page of a place found lies whole in the image.
use Rattle.std.proofs.Common.{◌≡◌, ◌∙◌, ap, sym, Some, None, length, eq-eqb, ne_eqb, arith}
use native.Mathlib.Nat.{add-sub_cancel_left}
use Rattle.flash.specs.Blocks.{part, sized, find, page_address}
use Rattle.flash.specs.Image.{page_part, part_at}
use Rattle.flash.proofs.Places.{rising, page_fits}
use Rattle.flash.proofs.page.Goals as goal

pub returns-then-image-ne-IMAGE : goal.returns-then-image-ne-IMAGE
unfolding page_part sized
returns-then-image-ne-IMAGE c = simp (ne_eqb _ _ c.if-image-ne-IMAGE.true)

pub overflow_add-result : goal.overflow_add-result
overflow_add-result c = omega (arith, page_fits 0 part rising c.page_address.result _ _ (omega arith) (sym c.in-Some.ensures))

pub slice_bounds-result-end-in-Some : goal.slice_bounds-result-end-in-Some
slice_bounds-result-end-in-Some c = omega (arith, page_fits 0 part rising c.page_address.result _ _ (omega arith) (sym c.in-Some.ensures))

pub returns-in-Some : goal.returns-in-Some
unfolding page_part sized part_at
returns-in-Some c =
    let e : find part (page_address c.args.mid c.args.high) ≡ Some c.in-Some.spot = ap (find part) (sym c.page_address.ensures) ∙ sym c.in-Some.ensures in
    simp (eq-eqb (length c.args.image.now) 20480 (omega arith), e) (rw add-sub_cancel_left)

pub returns-in-None : goal.returns-in-None
unfolding page_part sized part_at
returns-in-None c =
    let e : find part (page_address c.args.mid c.args.high) ≡ None = ap (find part) (sym c.page_address.ensures) ∙ sym c.in-None.ensures in
    simp (eq-eqb (length c.args.image.now) 20480 (omega arith), e)
