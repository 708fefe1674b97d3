-- The two fixed words are tried first; any other is a number.
use Rattle.std.proofs.Common.{sym, ◌∙◌}
use Rattle.std.proofs.lemmas.Result.{err_from_is_err_and}
use Rattle.words.proofs.Texts.{clock_failed, clock_read, word_8, word_7, word_number}
use Rattle.words.proofs.clock.Goals as goal

pub returns-then-is_same : goal.returns-then-is_same
returns-then-is_same c = word_8 _ (sym c.if-is_same.ensures)

pub returns-then-is_same-2 : goal.returns-then-is_same-2
returns-then-is_same-2 c = word_7 _ (sym c.if-is_same.ensures) (sym c.if-is_same-2.ensures)

pub returns-in_err-read : goal.returns-in_err-read
returns-in_err-read c =
    let p = err_from_is_err_and c.from_residual.result c.from_residual.ensures.1 in
    rw (p.1, p.2) (clock_failed _ _ _ (sym c.read.ensures ∙ c.in_err-read.was) ∙ word_number _ (sym c.if-is_same.ensures) (sym c.if-is_same-2.ensures))

pub returns : goal.returns
returns c =
    c.external.ensures
    ∙ clock_read _ _ _ (sym c.read.ensures ∙ c.in_ok-read.was)
    ∙ word_number _ (sym c.if-is_same.ensures) (sym c.if-is_same-2.ensures)
