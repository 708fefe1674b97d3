-- The digits of an argument one by one: a number over 255 says the same whatever it is, so that any such number may be held for it.
use Rattle.std.proofs.Common.{◌≡◌, ℕ, ◌+◌, ◌-◌, ◌*◌, ◌≤◌, ◌<◌, ◌⊎◌, true, false, cond, List, [], ◌∷◌, length, get_or, drop, Option, None, Some, Result, Ok, Err, inl, inr, ⊎_elim, min, refl, ap, sym, ◌∙◌, arith, add-one}
use Rattle.std.proofs.Math.Seq.{drop-cons}
use Rattle.std.proofs.lemmas.Bool.{cases_lt}
use Rattle.std.proofs.lemmas.Bool.Decides.{nat_tests}
use Rattle.std.proofs.lemmas.List.{drop_all}
use Rattle.std.specs.Option.{SomeIff, ok_or}
use Rattle.std.specs.Result.{MatchResult, OkIff, IsErrAnd}
use Rattle.std.specs.Char.{digit_value}
use borrow.Author.Tests.{lt-ltb, le-ltb}
use Rattle.live.specs.declared.Unread.{Unread}
use Rattle.live.specs.declared.Unread.TheVariants.{TooLarge, NotANumber}
use Rattle.live.specs.Argument.{is_digit, told, given_from, given}

pub told_over : (n : ℕ) → 255 < n → told n ≡ Err TooLarge
unfolding told
told_over n h = rw (lt-ltb 255 n h)

pub told_within : (n : ℕ) → n ≤ 255 → told n ≡ Ok n
unfolding told
told_within n h = rw (le-ltb 255 n h)

-- all numbers over 255 say the same
over : (n m : ℕ) (bs : List ℕ) → 255 < n → 255 < m → given_from n bs ≡ given_from m bs
over n m [] h k = told_over n h ∙ sym (told_over m k)
over n m (b ∷ bs) h k =
    ap (λ g. cond (is_digit b) g (Err NotANumber)) (over (n * 10 + (b - 0x30)) (m * 10 + (b - 0x30)) bs (omega arith) (omega arith))

is_digit_value : (b : ℕ) → digit_value b < 10 → (is_digit b ≡ true) × (digit_value b ≡ b - 0x30)
unfolding is_digit
is_digit_value b h = grind (arith, nat_tests)

no_digit_value : (b : ℕ) → 10 ≤ digit_value b → is_digit b ≡ false
unfolding is_digit
no_digit_value b h = grind (arith, nat_tests)

-- a byte that is a digit, read as one
read_some : (b d : ℕ) (o : Option ℕ) (e : Unread) → SomeIff o (digit_value b < 10) (digit_value b) → Ok d ≡ ok_or o e → (is_digit b ≡ true) × (d ≡ b - 0x30)
read_some b d None e s p = cc
read_some b d (Some x) e s p = (
  (is_digit_value b s.0).0,
  let same : d ≡ x = cc in same ∙ s.1 ∙ (is_digit_value b s.0).1,
)

read_none : (b : ℕ) (o : Option ℕ) (e f : Unread) → SomeIff o (digit_value b < 10) (digit_value b) → Err f ≡ ok_or o e → (is_digit b ≡ false) × (f ≡ e)
read_none b None e f s p = (no_digit_value b (omega (arith, s)), cc)
read_none b (Some x) e f s p = cc

-- a number and one digit more, held in 32 bits, is that number, or both are too large
pub held_or_over : (n d p m : ℕ) → p ≡ min (n * 10) 4294967295 → m ≡ min (p + d) 4294967295 → (m ≡ n * 10 + d) ⊎ ((255 < m) × (255 < n * 10 + d))
held_or_over n d p m e f = ⊎_elim (λ h. inr (omega arith, omega arith)) (λ h. inl (omega arith)) (cases_lt 4294967295 (n * 10 + d))

-- two numbers that are one, or that are both too large, say the same
held : (n m : ℕ) (bs : List ℕ) → (n ≡ m) ⊎ ((255 < n) × (255 < m)) → given_from n bs ≡ given_from m bs
held n m bs (inl e) = ap (λ k. given_from k bs) e
held n m bs (inr h) = over n m bs h.0 h.1

module _ (text : List ℕ) (n i : ℕ) (h : i < length text) where
  -- the rest of a text, its first byte apart
  rest : given_from n (drop i text) ≡ cond (is_digit (get_or text i 0)) (given_from (n * 10 + (get_or text i 0 - 0x30)) (drop (i + 1) text)) (Err NotANumber)
  rest = rw (drop-cons text i 0 h, add-one)

  pub digit_turn : (d m : ℕ) (o : Option ℕ) (e : Unread) → SomeIff o (digit_value (get_or text i 0) < 10) (digit_value (get_or text i 0)) → Ok d ≡ ok_or o e
      → (m ≡ n * 10 + d) ⊎ ((255 < m) × (255 < n * 10 + d)) → given_from m (drop (i + 1) text) ≡ given_from n (drop i text)
  digit_turn d m o e s p q =
      let r = read_some (get_or text i 0) d o e s p in
      held m (n * 10 + d) (drop (i + 1) text) q ∙ rw (r.1) (sym (rest ∙ rw (r.0)))

  pub other_stops : (o : Option ℕ) (f : Unread) → SomeIff o (digit_value (get_or text i 0) < 10) (digit_value (get_or text i 0)) → Err f ≡ ok_or o NotANumber
      → given_from n (drop i text) ≡ Err f
  other_stops o f s p =
      let r = read_none (get_or text i 0) o NotANumber f s p in
      rest ∙ rw (r.0, r.1)

pub text_begins : (text : List ℕ) → 0 < length text → given_from 0 text ≡ given text
text_begins [] h = absurd (omega arith)
text_begins (b ∷ bs) h = refl

pub text_ends : (text : List ℕ) (n i : ℕ) → length text ≤ i → given_from n (drop i text) ≡ told n
text_ends text n i e = ap (λ bs. given_from n bs) (drop_all i text e)

-- a conversion that fails where the number is too large, told as that
pub told_by : {E : Type 0} {P : E → Unread → Type 0} (n : ℕ) (r : Result ℕ E) (q : Result ℕ Unread) → OkIff r (n < 256) n → MatchResult r (λ x. q ≡ Ok x) (λ e. IsErrAnd q (P e))
    → ((e : E) (u : Unread) → P e u → u ≡ TooLarge) → q ≡ told n
told_by n (Ok x) q h k only = k ∙ ap Ok h.1 ∙ sym (told_within n (omega (arith, h.0)))
told_by n (Err e) (Err u) h k only = ap Err (only e u k) ∙ sym (told_over n (omega (arith, h)))
told_by n (Err e) (Ok y) h k only = absurd k
