-- `flash::is_permitted` meets its contract: its tests are those of `permitted` in order.
use Rattle.std.proofs.Common.{◌≡◌, ◌≢◌, ◌∙◌, sym, length, arith}
use borrow.Author.Tests.{lt-ltb, le-ltb, eqb-true, eqb-false}
use Rattle.flash.specs.Image.{permitted}
use Rattle.flash.proofs.is_permitted.Goals as goal

pub returns-then-not-is_empty : goal.returns-then-not-is_empty
unfolding permitted
returns-then-not-is_empty c =
    let some : length c.args.new.now ≢ 0 = eqb-false _ _ (sym c.is_empty.ensures ∙ c.if-not-is_empty.true) in
    c.are_free.ensures ∙ simp (lt-ltb 0 (length c.args.new.now) (omega arith))

pub returns-else-not-is_empty : goal.returns-else-not-is_empty
unfolding permitted
returns-else-not-is_empty c =
    let none : length c.args.new.now ≡ 0 = eqb-true _ _ (sym c.is_empty.ensures ∙ c.if-not-is_empty.false) in
    rw c.if-not-is_empty.false (simp (le-ltb 0 (length c.args.new.now) (omega arith)))
