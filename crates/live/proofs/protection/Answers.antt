-- A byte that is no digit ends the reading, a digit adds one, and at the end the number is told, or is too large.
use Rattle.std.proofs.Common.{◌<◌, length, rules, sym, ◌∙◌, arith}
use Rattle.std.proofs.lemmas.Bool.Decides.{nat_tests}
use Rattle.std.proofs.lemmas.Result.{err_from_is_err_and}
use Rattle.live.proofs.Texts.{told_by, digit_turn, held_or_over, other_stops, text_begins, text_ends}
use Rattle.live.proofs.protection.Goals as goal

pub loop-b-init : goal.loop-b-init
loop-b-init c =
    let some : 0 < length c.args.text.now = grind (arith, nat_tests) in
    text_begins c.args.text.now some

pub returns-in_err-digit : goal.returns-in_err-digit
returns-in_err-digit c =
    let l = c.loop-b in
    let p = err_from_is_err_and c.from_residual.result c.from_residual.ensures.1 in
    rw (p.1, p.2) (sym (sym l.invariant ∙ other_stops c.args.text.now l.n l.b-index c.loop-b-test.true c.to_digit.result c.in_err-digit.field-0.0 (rw c.from.ensures at c.to_digit.ensures.value) c.in_err-digit.ensures.value))

pub loop-b-preserved : goal.loop-b-preserved
loop-b-preserved c =
    let l = c.loop-b in
    digit_turn c.args.text.now l.n l.b-index c.loop-b-test.true c.in_ok-digit.digit _ c.to_digit.result _ (rw c.from.ensures at c.to_digit.ensures.value) c.in_ok-digit.ensures.value
    (held_or_over l.n c.in_ok-digit.digit c.saturating_mul.result _ c.saturating_mul.ensures c.saturating_add-n.ensures) ∙ l.invariant

pub returns : goal.returns
returns c =
    let l = c.loop-b in
    told_by l.n c.try_from.result c.map_err.result c.try_from.ensures c.map_err.ensures.cases (λ e u p. search rules)
    ∙ sym (text_ends c.args.text.now l.n l.b-index c.loop-b-test.false) ∙ l.invariant
