-- `flash::erase` meets its contract: it wipes the block that `block_of` finds, unless there is none or it is protected.
use Rattle.std.proofs.Common.{◌∙◌, ap, sym, List, ℕ, true, false}
use Rattle.flash.specs.Blocks.{part, free}
use Rattle.flash.specs.Image.{written, wiped}
use Rattle.flash.proofs.Places.{found_number}
use Rattle.flash.proofs.Outcomes.{true_sized, not_sized, erase_unsized, erase_refused, erase_done}
use Rattle.flash.proofs.erase.Goals as goal

pub returns-in_default : goal.returns-in_default
returns-in_default c = sym (erase_unsized part _ _ _ (not_sized part _ c.in_default.ensures.cases))

pub returns-in_default-block_of : goal.returns-in_default-block_of
unfolding free
returns-in_default-block_of c =
    ap (λ (l : List ℕ). written l false) c.in-Some.ensures.cases.same
    ∙ sym (erase_refused part _ _ _ (rw (sym c.in_default-block_of.ensures)))

pub is_guarded-requires : goal.is_guarded-requires
is_guarded-requires c = found_number part _ _ _ (sym c.in-Some-block_of.ensures)

pub returns-then-is_guarded : goal.returns-then-is_guarded
unfolding free
returns-then-is_guarded c =
    ap (λ (l : List ℕ). written l false) c.in-Some.ensures.cases.same
    ∙ sym (erase_refused part _ _ _ (rw (sym c.in-Some-block_of.ensures, sym c.is_guarded.ensures ∙ c.if-is_guarded.true)))

pub wipe-requires : goal.wipe-requires
wipe-requires c = found_number part _ _ _ (sym c.in-Some-block_of.ensures)

pub returns : goal.returns
returns c =
    let whole = c.in-Some.ensures.cases in
    ap (λ (l : List ℕ). written l true) (c.wipe.ensures ∙ ap (wiped part c.in-Some-block_of.spot.block) whole.same)
    ∙ sym (erase_done part _ _ _ _ _ (true_sized part _ whole.long) (sym c.in-Some-block_of.ensures) (sym c.is_guarded.ensures ∙ c.if-is_guarded.false))
