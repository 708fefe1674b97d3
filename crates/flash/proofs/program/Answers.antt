-- `flash::program` meets its contract: a permitted program starts inside and ends within the image, and programming that part of the image programs the image.
use Rattle.std.proofs.Common.{◌≡◌, ◌∙◌, ap, sym, ℕ, ◌+◌, ◌-◌, ◌≤◌, Bool, true, List, ◌++◌, Option, Some, length, take, drop, arith}
use native.Mathlib.Nat.{add-sub_cancel_left}
use Rattle.flash.specs.declared.Spot.{Spot}
use Rattle.slices.specs.Lists.{same}
use Rattle.flash.specs.Blocks.{part, find, place_of}
use Rattle.flash.specs.Image.{written, permitted, burn, burnt}
use Rattle.flash.proofs.Places.{rising, not_outside}
use Rattle.flash.proofs.Permits.{permitted_fits, permitted_inside}
use Rattle.flash.proofs.Outcomes.{true_sized, not_sized, program_unsized, program_refused, program_done, burnt_part}
use Rattle.flash.proofs.program.Goals as goal
use Rattle.flash.proofs.program.Goals.{then-image-ne-IMAGE-via-then-image-ne-IMAGE, then-image-ne-IMAGE-via-else-image-ne-IMAGE+then-not-is_permitted}

-- what comes back of the part, in the words of `burnt_part`
put : (img ds : List ℕ) (k n m : ℕ) → m ≡ n → (l : List ℕ) (g : Bool) → l ≡ burn (take m (drop k img)) ds → g ≡ same (burn (take m (drop k img)) ds) ds
    → written (take k img ++ (l ++ drop m (drop k img))) g ≡ written (take k img ++ (burn (take n (drop k img)) ds ++ drop n (drop k img))) (same (burn (take n (drop k img)) ds) ds)
put img ds k n m e l g p q = rw (p, q, e)

pub returns-then-image-ne-IMAGE : goal.returns-then-image-ne-IMAGE
returns-then-image-ne-IMAGE c =
    elim c.then-image-ne-IMAGE.branch [
      | then-image-ne-IMAGE-via-then-image-ne-IMAGE w ↦ sym (program_unsized part _ _ _ _ (not_sized part _ w.if-image-ne-IMAGE.true))
      | then-image-ne-IMAGE-via-else-image-ne-IMAGE+then-not-is_permitted w ↦ sym (program_refused part _ _ _ c.args.new.now (sym w.is_permitted.ensures ∙ w.if-not-is_permitted.true))
    ]

pub overflow_add-spot : goal.overflow_add-spot
overflow_add-spot c = omega (arith, permitted_fits part _ 0 rising _ _ (sym c.is_permitted.ensures ∙ c.if-not-is_permitted.false) _ _ (sym c.in-Some.ensures))

pub slice_bounds-burn_bytes-end : goal.slice_bounds-burn_bytes-end
slice_bounds-burn_bytes-end c = omega (arith, permitted_fits part _ 0 rising _ _ (sym c.is_permitted.ensures ∙ c.if-not-is_permitted.false) _ _ (sym c.in-Some.ensures))

pub returns-in-Some : goal.returns-in-Some
unfolding place_of
returns-in-Some c =
    let a = c.args in
    let k : ℕ = c.in-Some.spot.place in
    let n : ℕ = length a.new.now in
    let may : permitted part a.protection a.address a.new.now ≡ true = sym c.is_permitted.ensures ∙ c.if-not-is_permitted.false in
    let place : find part a.address ≡ Some c.in-Some.spot = sym c.in-Some.ensures in
    let fits : k + n ≤ 20480 = permitted_fits part _ 0 rising _ _ may _ _ place in
    put a.image.now a.new.now k n (k + n - k) (add-sub_cancel_left k n) _ _ c.burn_bytes.ensures.0 c.burn_bytes.ensures.1
    ∙ (burnt_part k a.image.now a.new.now (omega arith)
    ∙ sym (program_done part _ _ _ a.new.now (true_sized part _ (omega arith)) may ∙ ap (λ (w : Option Spot). burnt (place_of part w) a.image.now a.new.now) place))

pub returns-in-None : goal.returns-in-None
returns-in-None c =
    let w = permitted_inside part _ _ c.args.new.now (sym c.is_permitted.ensures ∙ c.if-not-is_permitted.false) in
    absurd (not_outside w.2 (sym c.in-None.ensures))
