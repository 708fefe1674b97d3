-- How the code's way to a text is the definition's: a number's digits are those that the standard library speaks of, and the bytes so far with one more.
use Rattle.std.proofs.Common.{◌≡◌, ℕ, ◌+◌, ◌*◌, ◌%◌, ◌≤◌, ◌<◌, ◌^◌, List, [], ◌∷◌, ◌++◌, length, take, get_or, refl, arith, append_assoc, length-append, length-take, ap, add-one, sym, subst}
use Rattle.std.proofs.Math.Seq.{take-suc}
use Rattle.std.specs.Prelude.{decimal as digits_of}
use Rattle.std.proofs.lemmas.Fmt.{AppendsLastDigit, decimal_from_appends, length-decimal-le}
use borrow.Author.Tests.{lt-ltb, le-ltb}
use Rattle.lines.specs.Ascii.{ascii}
use Rattle.lines.specs.Text.{digit, decimal_of, decimal, hex, spaced, parted, reply_line, leaves, laid}

decimal_digit : (d : ℕ) → d < 10 → digit d ≡ 48 + d
unfolding digit
decimal_digit d h = simp (lt-ltb d 10 h)

appends : AppendsLastDigit decimal_of
unfolding decimal_of
appends = record {
  one = λ k n h. simp (lt-ltb n 10 h, decimal_digit n h);
  more = λ k n h. simp (le-ltb n 10 h, decimal_digit (n % 10) (omega arith));
}

pub decimal_fits : (n : ℕ) → n < 2 ^ 64 → length (digits_of n) ≤ 20
decimal_fits n h = length-decimal-le 20 n (omega arith) (omega arith) h

pub decimal_is : (n : ℕ) → n < 2 ^ 64 → decimal n ≡ digits_of n
unfolding decimal
decimal_is n h = decimal_from_appends decimal_of appends 20 n h (decimal_fits n h)

spaced_append : (l k : List ℕ) → spaced (l ++ k) ≡ spaced l ++ spaced k
unfolding spaced
spaced_append [] k = refl
spaced_append (b ∷ l) k = simp (spaced_append l k, append_assoc)

pub spaced_more : (l : List ℕ) (i : ℕ) → i < length l → spaced (take (i + 1) l) ≡ spaced (take i l) ++ spaced (get_or l i 0 ∷ [])
spaced_more l i h = rw (add-one, take-suc l i 0 h) (spaced_append (take i l) (get_or l i 0 ∷ []))

pub length_spaced : (l : List ℕ) → length (spaced l) ≡ 3 * length l
unfolding spaced hex
length_spaced [] = refl
length_spaced (b ∷ l) = simp length-append (omega (arith, length_spaced l))

pub front_fits : (n : ℕ) (l s : List ℕ) → s ≡ take n l → length s ≤ length l
front_fits n l s e = omega (arith, ap length e, length-take n l)

no_reply : (number : ℕ) (reply out : List ℕ) → length reply ≡ 0 → leaves 0 out ≡ laid (reply_line number reply) out
unfolding reply_line laid
no_reply number [] out h = refl
no_reply number (b ∷ bs) out h = absurd (omega arith)

pub no_line : (number : ℕ) (reply given out : List ℕ) → reply ≡ given → length reply ≡ 0 → leaves 0 out ≡ laid (reply_line number given) out
no_line number reply given out p h =
    subst (λ (l : List ℕ). leaves 0 out ≡ laid (reply_line number l) out) p (no_reply number reply out h)

pub some_reply : (number : ℕ) (reply : List ℕ) → (length reply ≡ 0 → ⊥) → number < 2 ^ 64
    → digits_of number ++ (ascii ":" ++ (spaced reply ++ ascii "\n")) ≡ reply_line number reply
unfolding spaced parted reply_line
some_reply number [] h k = absurd (h refl)
some_reply number (b ∷ bs) h k = rw (sym (decimal_is number k)) (simp append_assoc)
