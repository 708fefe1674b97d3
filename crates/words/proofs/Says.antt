-- What the words say, by the places of their digits: a reading is a word's meaning, once the word is neither of the two fixed clocks, which a number in digits alone
-- and a number with a point are told from by their bytes. And a byte that no number has spoils every word it stands in, since no byte leads away from that state.
use Rattle.std.proofs.Common.{◌≡◌, ℕ, suc, ◌+◌, ◌-◌, ◌^◌, ◌<◌, ◌≤◌, min, false, eqb, List, [], ◌∷◌, ◌++◌, length, Ok, Err, sym, refl, ap, ◌∙◌, subst, arith, length-append, add-one, drop, get_or, drop-cons}
use lib.Ieee.{binary64, div}
use Rattle.slices.specs.Lists.{same}
use Rattle.slices.proofs.Lists.{same_true}
use Rattle.lines.specs.Ascii.{ascii}
use Rattle.rates.specs.declared.Clock.TheVariants.{External}
use Rattle.rates.specs.Clocks.{float}
use Rattle.std.proofs.lemmas.Bool.{cond_both, false_from_ne_true}
use Rattle.words.specs.declared.Unread.{Unread}
use Rattle.words.specs.declared.Unread.TheVariants as unread
use Rattle.words.specs.Numbers.{State, Start, Whole, Point, Decimals, NotANumber, TooLong, Reading, with_state, digit_in, after_point, is_digit, read_byte, read_from, read_text}
use Rattle.words.specs.Partly.{going_in, going_on, ended_in, ended}
use Rattle.words.specs.Words.{clock_in, clock_word, whole_rate, rate_in, rate_word}
use Rattle.words.specs.Places.{Digits, value}
use Rattle.words.proofs.Texts.{digit_is, word_number, other_read}
use Rattle.words.proofs.Places.{whole_says, decimals_say, text_append}

module _ (fs : List ℕ) (ds : Digits fs) (h : 0 < length fs) (l : length fs ≤ 15) where
  no_point : same fs (ascii "7.3728") ≡ false
  no_point = false_from_ne_true _ (λ e. let d : Digits (ascii "7.3728") = subst Digits (same_true fs (ascii "7.3728") e) ds in let b : 0x30 ≤ 0x2E = d.2.0 in absurd (omega arith))

  -- one to 15 digits, but 8 alone: so many hertz
  pub whole_clock : same fs (ascii "8") ≡ false → clock_word fs ≡ Ok (External (div binary64 (float (value fs)) (float 1)))
  unfolding clock_in
  whole_clock e = sym (word_number fs e no_point) ∙ ap (λ (r : Reading). clock_in r.state r) (whole_says fs ds h l)

  -- and as a rate: the number, or the largest that 32 bits hold
  pub whole_rate_lem : rate_word fs ≡ Ok (min (value fs) 0xFFFFFFFF)
  unfolding rate_word rate_in whole_rate
  whole_rate_lem = ap (λ (r : Reading). rate_in r.state r) (whole_says fs ds h l)

module _ (fs bs : List ℕ) (ds : Digits fs) (es : Digits bs) (h : 0 < length fs) (i : 0 < length bs) (l : length (fs ++ bs) ≤ 15) where
  abbrev text : List ℕ
  text = fs ++ (0x2E ∷ bs)

  not_alone : same text (ascii "8") ≡ false
  not_alone = false_from_ne_true _ (λ e.
      let n : length text ≡ length fs + suc (length bs) = length-append fs (0x2E ∷ bs) in
      let m : length text ≡ 1 = ap length (same_true text (ascii "8") e) in
      absurd (omega arith))

  -- digits, a point and digits, 15 in all at most, but 7.3728 alone: the number of hertz that they stand for, rounded once
  pub decimals_clock : same (fs ++ (0x2E ∷ bs)) (ascii "7.3728") ≡ false
      → clock_word (fs ++ (0x2E ∷ bs)) ≡ Ok (External (div binary64 (float (value (fs ++ bs))) (float (10 ^ length bs))))
  unfolding clock_in
  decimals_clock e = sym (word_number text not_alone e) ∙ ap (λ (r : Reading). clock_in r.state r) (decimals_say fs bs ds es h i l)

  pub decimals_rate : rate_word (fs ++ (0x2E ∷ bs)) ≡ Err unread.NotANumber
  unfolding rate_word rate_in
  decimals_rate = ap (λ (r : Reading). rate_in r.state r) (decimals_say fs bs ds es h i l)

-- ---- what is no number

spoilt : (r : Reading) (b : ℕ) → r.state ≡ NotANumber → (read_byte r b).state ≡ NotANumber
unfolding read_byte
spoilt r b e =
    cond_both (is_digit b) _ _ (λ (q : Reading). q.state ≡ NotANumber) (λ d. digit r (b - 0x30) e)
    (λ d. cond_both (eqb b 0x2E) (with_state r (after_point r.state)) (with_state r NotANumber) (λ (q : Reading). q.state ≡ NotANumber)
    (λ p. ap after_point e ∙ stays) (λ p. refl))
  where
    digit : (r : Reading) (d : ℕ) → r.state ≡ NotANumber → (digit_in r.state r d).state ≡ NotANumber
    digit r d e = ap (λ (st : State). (digit_in st r d).state) e ∙ (unfold digit_in in e)

    stays : after_point NotANumber ≡ NotANumber
    stays = unfold after_point in refl

all_spoilt : (bs : List ℕ) (r : Reading) → r.state ≡ NotANumber → (read_from r bs).state ≡ NotANumber
all_spoilt [] r e = e
all_spoilt (b ∷ bs) r e = all_spoilt bs (read_byte r b) (spoilt r b e)

-- a byte that is no digit and no point, wherever it stands
pub other_spoils : (fs bs : List ℕ) (b : ℕ) → is_digit b ≡ false → (b ≡ 0x2E → ⊥) → (read_text (fs ++ (b ∷ bs))).state ≡ NotANumber
other_spoils fs bs b e p = ap (λ (r : Reading). r.state) (text_append fs (b ∷ bs)) ∙ all_spoilt bs (read_byte (read_text fs) b) (ap (λ (r : Reading). r.state) (sym (other_read (read_text fs) b e p)))

-- where the code goes on by a digit, the rest after it is read from there
pub digit_goes : (text : List ℕ) (r q : Reading) (i : ℕ) → i < length text → 0x30 ≤ get_or text i 0 → get_or text i 0 ≤ 0x39
    → q ≡ digit_in r.state r (get_or text i 0 - 0x30) → read_from r (drop i text) ≡ read_text text → read_from q (drop (i + 1) text) ≡ read_text text
digit_goes text r q i h l m e v =
    let t : read_from (read_byte r (get_or text i 0)) (drop (suc i) text) ≡ read_from r (drop i text) = rw (drop-cons text i 0 h) in
    rw (e ∙ digit_is r (get_or text i 0) l m, add-one) (t ∙ v)

-- where the code stops at a byte, the word is no number
wrong_in : (s : State) (r : Reading) (e : Unread) → going_in s r ≡ Err e → (s ≡ NotANumber) × (e ≡ unread.NotANumber)
wrong_in Start r e i = cc
wrong_in Whole r e i = cc
wrong_in Point r e i = cc
wrong_in Decimals r e i = cc
wrong_in NotANumber r e i = (refl, cc)
wrong_in TooLong r e i = cc

pub stops : (text : List ℕ) (r : Reading) (i : ℕ) (e : Unread) → i < length text → read_from r (drop i text) ≡ read_text text
    → going_on (read_byte r (get_or text i 0)) ≡ Err e → Err e ≡ ended (read_text text)
stops text r i e h v g =
    let w = wrong_in _ _ e g in
    let t : read_from (read_byte r (get_or text i 0)) (drop (suc i) text) ≡ read_from r (drop i text) = rw (drop-cons text i 0 h) in
    let n : (read_text text).state ≡ NotANumber = ap (λ (q : Reading). q.state) (sym v ∙ sym t) ∙ all_spoilt (drop (suc i) text) _ w.0 in
    ap Err w.1 ∙ ap (λ (s : State). ended_in s (read_text text)) (sym n)
