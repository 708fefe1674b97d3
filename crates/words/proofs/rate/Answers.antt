-- The word is read as a number, and one with a point is no rate.
use Rattle.std.proofs.Common.{sym, ◌∙◌}
use Rattle.std.proofs.lemmas.Result.{err_from_is_err_and}
use Rattle.words.specs.Words.{rate_word}
use Rattle.words.proofs.Texts.{rate_failed, whole_read, decimals_read}
use Rattle.words.proofs.rate.Goals as goal

pub returns-in_err-r : goal.returns-in_err-r
unfolding rate_word
returns-in_err-r c =
    let p = err_from_is_err_and c.from_residual.result c.from_residual.ensures.1 in
    rw (p.1, p.2) (rate_failed _ _ _ (sym c.read.ensures ∙ c.in_err-r.was))

pub returns : goal.returns
unfolding rate_word
returns c = c.whole_rate.ensures ∙ whole_read _ _ _ (sym c.read.ensures ∙ c.in_ok-r.was) c.in-Whole.is

pub returns-in_default : goal.returns-in_default
unfolding rate_word
returns-in_default c = decimals_read _ _ _ (sym c.read.ensures ∙ c.in_ok-r.was) c.in_default.not-Whole
