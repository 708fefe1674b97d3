-- "Show that no second outcome satisfies the same statement": each clause is an equation with all that the call leaves.
use Rattle.std.proofs.Common.{◌≡◌, ℕ, List, Result, sym, ◌∙◌}
use lib.Ieee.{Float}
use Rattle.rates.specs.declared.Clock.{Clock}
use Rattle.words.specs.declared.Unread.{Unread}
use Rattle.words.specs.Words.{clock_word, rate_word}
use Rattle.words.specs.Shown.{hundredths, percent_of}

module _ (text : List ℕ) where
  pub words_clock_pinned : (x y : Result Clock Unread) → x ≡ clock_word text → y ≡ clock_word text → x ≡ y
  words_clock_pinned x y p q = p ∙ sym q

  pub words_rate_pinned : (x y : Result ℕ Unread) → x ≡ rate_word text → y ≡ rate_word text → x ≡ y
  words_rate_pinned x y p q = p ∙ sym q

pub words_hundredths_pinned : (f : Float) (x y : ℕ) → x ≡ hundredths f → y ≡ hundredths f → x ≡ y
words_hundredths_pinned f x y p q = p ∙ sym q

pub words_percent_pinned : (f : Float) (rate : ℕ) (x y : Float) → x ≡ percent_of f rate → y ≡ percent_of f rate → x ≡ y
words_percent_pinned f rate x y p q = p ∙ sym q
