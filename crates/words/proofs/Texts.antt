-- What a byte does to the code's reading is what it does to the definition's: a range of the code is a test of the rule. And which word is tried first.
use Rattle.std.proofs.Common.{◌≡◌, ℕ, ◌-◌, ◌<◌, ◌≤◌, true, false, List, Result, Ok, Err, refl, sym, ap, ◌∙◌, arith}
use Rattle.std.proofs.lemmas.Bool.{ne_eqb, le-leb, lt-leb, and_right}
use Rattle.slices.specs.Lists.{same}
use Rattle.lines.specs.Ascii.{ascii}
use Rattle.rates.specs.declared.Clock.TheVariants.{Fixed8, Fixed7}
use Rattle.words.specs.declared.Partial.{Partial}
use Rattle.words.specs.declared.Stage.{Stage}
use Rattle.words.specs.declared.Stage.TheVariants as stage
use Rattle.words.specs.declared.Unread.{Unread}
use Rattle.words.specs.declared.Unread.TheVariants as unread
use Rattle.words.specs.Numbers.{State, Start, Whole, Point, Decimals, NotANumber, TooLong, Reading, with_state, digit_in, after_point, is_digit, read_byte, read_text}
use Rattle.words.specs.Partly.{state_of, reading_of, partly, going_in, going_on, ended_in}
use Rattle.words.specs.Words.{external_of, clock_in, clock_word, whole_rate, rate_in}

-- the code's reading goes on as it stands
going_self : (p : Partial) → Ok p ≡ going_on (reading_of p)
going_self p = go p.stage
  where
    go : (s : Stage) → Ok (partly (reading_of p) s) ≡ going_in (state_of s) (reading_of p)
    go stage.Start = refl
    go stage.Whole = refl
    go stage.Point = refl
    go stage.Decimals = refl
    go stage.TooLong = refl

module _ (r : Reading) (b : ℕ) where
  pub digit_is : 0x30 ≤ b → b ≤ 0x39 → digit_in r.state r (b - 0x30) ≡ read_byte r b
  unfolding read_byte is_digit
  digit_is l h = rw (le-leb 0x30 b l, le-leb b 0x39 h)

  pub digit_read : (p : Partial) → reading_of p ≡ digit_in r.state r (b - 0x30) → 0x30 ≤ b → b ≤ 0x39 → Ok p ≡ going_on (read_byte r b)
  digit_read p e l h = going_self p ∙ ap going_on (e ∙ digit_is l h)

  pub point_read : b ≡ 0x2E → going_on (with_state r (after_point r.state)) ≡ going_on (read_byte r b)
  unfolding read_byte is_digit
  point_read p = rw p

  pub other_read : is_digit b ≡ false → (b ≡ 0x2E → ⊥) → with_state r NotANumber ≡ read_byte r b
  unfolding read_byte
  other_read e p = rw (e, ne_eqb b 0x2E p)

  pub low_read : b < 0x30 → (b ≡ 0x2E → ⊥) → Err unread.NotANumber ≡ going_on (read_byte r b)
  unfolding is_digit
  low_read l p = ap going_on (other_read (rw (lt-leb 0x30 b l)) p)

  pub high_read : 0x39 < b → Err unread.NotANumber ≡ going_on (read_byte r b)
  unfolding is_digit
  high_read h = ap going_on (other_read (and_right _ _ (lt-leb b 0x39 h)) (λ e. omega arith))

-- ---- what a word says, by what stands at its end

module _ (q : Reading) (e : Unread) where
  -- what has no number at its end, both kinds of word say alike
  failed : {A : Type 0} (says : State → Result A Unread) → says Start ≡ Err unread.NotANumber → says Point ≡ Err unread.NotANumber → says NotANumber ≡ Err unread.NotANumber → says TooLong ≡ Err unread.TooLong
      → (s : State) → ended_in s q ≡ Err e → Err e ≡ says s
  failed says start point none long Start i = cc
  failed says start point none long Whole i = cc
  failed says start point none long Point i = cc
  failed says start point none long Decimals i = cc
  failed says start point none long NotANumber i = cc
  failed says start point none long TooLong i = cc

  pub clock_failed : (s : State) → ended_in s q ≡ Err e → Err e ≡ clock_in s q
  unfolding clock_in
  clock_failed = failed (λ s. clock_in s q) refl refl refl refl

  pub rate_failed : (s : State) → ended_in s q ≡ Err e → Err e ≡ rate_in s q
  unfolding rate_in
  rate_failed = failed (λ s. rate_in s q) refl refl refl refl

module _ (q : Reading) (p : Partial) where
  pub clock_read : (s : State) → ended_in s q ≡ Ok p → external_of (reading_of p) ≡ clock_in s q
  unfolding clock_in
  clock_read Start i = cc
  clock_read Whole i = let e : partly q stage.Whole ≡ p = cc in ap (λ (p : Partial). external_of (reading_of p)) (sym e)
  clock_read Point i = cc
  clock_read Decimals i = let e : partly q stage.Decimals ≡ p = cc in ap (λ (p : Partial). external_of (reading_of p)) (sym e)
  clock_read NotANumber i = cc
  clock_read TooLong i = cc

  pub whole_read : (s : State) → ended_in s q ≡ Ok p → p.stage ≡ stage.Whole → whole_rate p.number ≡ rate_in s q
  unfolding rate_in
  whole_read Start i w = cc
  whole_read Whole i w = let e : partly q stage.Whole ≡ p = cc in ap (λ (p : Partial). whole_rate p.number) (sym e)
  whole_read Point i w = cc
  whole_read Decimals i w = let e : partly q stage.Decimals ≡ p = cc in let f = ap (λ (p : Partial). p.stage) e in cc
  whole_read NotANumber i w = cc
  whole_read TooLong i w = cc

  pub decimals_read : (s : State) → ended_in s q ≡ Ok p → (p.stage ≡ stage.Whole → ⊥) → Err unread.NotANumber ≡ rate_in s q
  unfolding rate_in
  decimals_read Start i w = cc
  decimals_read Whole i w = let e : partly q stage.Whole ≡ p = cc in absurd (w (ap (λ (p : Partial). p.stage) (sym e)))
  decimals_read Point i w = cc
  decimals_read Decimals i w = refl
  decimals_read NotANumber i w = cc
  decimals_read TooLong i w = cc

-- ---- which word is tried first

module _ (text : List ℕ) where
  pub word_8 : same text (ascii "8") ≡ true → Ok Fixed8 ≡ clock_word text
  unfolding clock_word
  word_8 e = rw e

  module _ (e : same text (ascii "8") ≡ false) where
    pub word_7 : same text (ascii "7.3728") ≡ true → Ok Fixed7 ≡ clock_word text
    unfolding clock_word
    word_7 d = rw (e, d)

    pub word_number : same text (ascii "7.3728") ≡ false → clock_in (read_text text).state (read_text text) ≡ clock_word text
    unfolding clock_word
    word_number d = rw (e, d)
