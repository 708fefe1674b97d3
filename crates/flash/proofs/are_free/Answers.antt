-- A free address frees the rest of its page, so that what is left goes on at the next page.
use Rattle.std.proofs.Common.{◌≡◌, ◌∙◌, sym, ap, ℕ, ◌+◌, ◌-◌, ◌%◌, true, arith}
use Rattle.flash.specs.Blocks.{part}
use Rattle.flash.specs.Image.{free_from}
use Rattle.flash.proofs.Places.{rising}
use Rattle.flash.proofs.Permits.{free_below, free_page, free_rest}
use Rattle.flash.proofs.are_free.Goals as goal

pub returns-then-left-room : goal.returns-then-left-room
returns-then-left-room c = let l = c.loop-left in sym (sym l.invariant ∙ free_page part _ 0 rising l.at l.left (omega arith) (sym c.is_free.ensures ∙ c.if-not-is_free.false))

pub overflow_add-at : goal.overflow_add-at
overflow_add-at c = omega (arith, free_below _ _ (sym c.is_free.ensures ∙ c.if-not-is_free.false))

pub loop-left-preserved : goal.loop-left-preserved
loop-left-preserved c =
    let l = c.loop-left in
    let room : ℕ = 256 - l.at % 256 in
    let p = c.args.protection in
    let free : free_from part p l.at room ≡ true = free_page part p 0 rising l.at room (omega arith) (sym c.is_free.ensures ∙ c.if-not-is_free.false) in
    let whole : room + (l.left - room) ≡ l.left = omega arith in
    free_rest part p l.at room (l.left - room) free ∙ (ap (free_from part p l.at) whole ∙ l.invariant)
