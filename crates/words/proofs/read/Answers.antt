-- Before the first byte the rest is the whole; a digit leaves the rest after it; where the reading stops at a byte, the whole is no number.
use Rattle.std.proofs.Common.{refl, sym, ◌∙◌, arith}
use Rattle.std.proofs.lemmas.Result.{err_from_is_err_and}
use Rattle.words.specs.Numbers.{read_text}
use Rattle.words.proofs.Says.{digit_goes, stops}
use Rattle.words.proofs.read.Goals as goal

pub loop-b-init : goal.loop-b-init
unfolding read_text
loop-b-init c = refl

pub returns-in_err-r : goal.returns-in_err-r
returns-in_err-r c =
    let p = err_from_is_err_and c.from_residual.result c.from_residual.ensures.1 in
    rw (p.1, p.2) (stops c.args.text.now _ _ _ (omega arith) c.loop-b.invariant (sym c.byte.ensures ∙ c.in_err-r.was))

pub loop-b-preserved-then-b-le57 : goal.loop-b-preserved-then-b-le57
loop-b-preserved-then-b-le57 c = digit_goes c.args.text.now _ _ _ (omega arith) (omega arith) (omega arith) c.digit-r.ensures c.loop-b.invariant
