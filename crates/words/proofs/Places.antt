-- A number that is typed in 15 digits at most is read as the number that its digits stand for, and the power of ten of its decimals: what is read so far stands
-- before the digits that are left, whose places it does not change, and 15 digits stay under the limit. And whatever is typed, both numbers that are read are below 2 ^ 53.
use Rattle.std.proofs.Common.{◌≡◌, ℕ, suc, ◌+◌, ◌-◌, ◌*◌, ◌^◌, ◌<◌, ◌≤◌, true, ◌&&◌, eqb, ltb, leb, List, [], ◌∷◌, ◌++◌, length, sym, refl, ap, ◌∙◌, mul-le-mul_right, mul_assoc, mul_comm, add-mul, pow-suc, arith, lit≤, length-append, pow-add, ltb-false, le-ltb, le-leb, leb-true}
use Rattle.std.proofs.Math.Nat.{one-le-pow, pow-le-pow_right}
use Rattle.std.proofs.lemmas.Bool.{cond_both, and_parts, and_from}
use Rattle.words.specs.Numbers.{State, Start, Whole, Point, Decimals, NotANumber, TooLong, Reading, reading, started, most, with_state, whole_digit, decimal_digit, digit_in, after_point, is_digit, read_byte, read_from, read_text}
use Rattle.words.specs.Places.{Digits, value, Small}

-- ---- powers of ten

ten : (n k : ℕ) → n * 10 ^ suc k ≡ n * 10 * 10 ^ k
ten n k = ap (λ (x : ℕ). n * x) (pow-suc 10 k ∙ mul_comm (10 ^ k) 10) ∙ sym (mul_assoc n 10 (10 ^ k))

-- a number before a digit and k more is at least ten times as large with them
ten_times : (n k : ℕ) → n * 10 ≤ n * 10 ^ suc k
ten_times n k =
    let h : 1 * (n * 10) ≤ 10 ^ k * (n * 10) = mul-le-mul_right (n * 10) (one-le-pow k 10 (lit≤ tt)) in
    let e : n * 10 ^ suc k ≡ n * 10 * 10 ^ k = ten n k in
    let f : n * 10 * 10 ^ k ≡ 10 ^ k * (n * 10) = mul_comm (n * 10) (10 ^ k) in
    omega arith

-- the next digit d, and k more that stand for v
next_place : (n d k v : ℕ) → (n * 10 + d) * 10 ^ k + v ≡ n * 10 ^ suc k + (d * 10 ^ k + v)
next_place n d k v =
    let e : (n * 10 + d) * 10 ^ k ≡ n * 10 * 10 ^ k + d * 10 ^ k = add-mul (n * 10) d (10 ^ k) in
    let f : n * 10 ^ suc k ≡ n * 10 * 10 ^ k = ten n k in
    omega arith

-- ---- what digits stand for

value_below : (bs : List ℕ) → Digits bs → value bs < 10 ^ length bs
value_below [] ds = lit≤ tt
value_below (b ∷ bs) ds =
    let h : value bs < 10 ^ length bs = value_below bs ds.2 in
    let l : b ≤ 0x39 = ds.1 in
    let m : (b - 0x30) * 10 ^ length bs ≤ 9 * 10 ^ length bs = mul-le-mul_right (10 ^ length bs) (omega arith) in
    let e : 10 ^ suc (length bs) ≡ 10 ^ length bs * 10 = pow-suc 10 (length bs) in
    omega arith

value_append : (fs bs : List ℕ) → value (fs ++ bs) ≡ value fs * 10 ^ length bs + value bs
value_append [] bs = let e : 0 * 10 ^ length bs ≡ 0 = omega arith in omega arith
value_append (f ∷ fs) bs =
    let d = f - 0x30 in
    let e : value (fs ++ bs) ≡ value fs * 10 ^ length bs + value bs = value_append fs bs in
    let p : 10 ^ length (fs ++ bs) ≡ 10 ^ length fs * 10 ^ length bs = ap (λ (x : ℕ). 10 ^ x) (length-append fs bs) ∙ pow-add 10 (length fs) (length bs) in
    let g : d * 10 ^ length (fs ++ bs) ≡ d * 10 ^ length fs * 10 ^ length bs = ap (λ (x : ℕ). d * x) p ∙ sym (mul_assoc d (10 ^ length fs) (10 ^ length bs)) in
    let i : (d * 10 ^ length fs + value fs) * 10 ^ length bs ≡ d * 10 ^ length fs * 10 ^ length bs + value fs * 10 ^ length bs = add-mul (d * 10 ^ length fs) (value fs) (10 ^ length bs) in
    omega arith

digits_append : (fs bs : List ℕ) → Digits fs → Digits bs → Digits (fs ++ bs)
digits_append [] bs d e = e
digits_append (f ∷ fs) bs d e = (d.0, d.1, digits_append fs bs d.2 e)

-- ---- a digit, and digits

digit_is : (b : ℕ) → 0x30 ≤ b → b ≤ 0x39 → is_digit b ≡ true
unfolding is_digit
digit_is b l h = and_from (leb 0x30 b) (leb b 0x39) (le-leb 0x30 b l) (le-leb b 0x39 h)

whole_one : (st : State) (n s b : ℕ) → ((r : Reading) (d : ℕ) → digit_in st r d ≡ whole_digit r d) → 0x30 ≤ b → b ≤ 0x39 → n ≤ most
    → read_byte (reading n s st) b ≡ reading (n * 10 + (b - 0x30)) s Whole
unfolding read_byte whole_digit
whole_one st n s b lead l h i = rw (digit_is b l h, lead, le-ltb most n i)

decimal_one : (st : State) (n s b : ℕ) → ((r : Reading) (d : ℕ) → digit_in st r d ≡ decimal_digit r d) → 0x30 ≤ b → b ≤ 0x39 → n ≤ most → s ≤ most
    → read_byte (reading n s st) b ≡ reading (n * 10 + (b - 0x30)) (s * 10) Decimals
unfolding read_byte decimal_digit
decimal_one st n s b lead l h i j = rw (digit_is b l h, lead, le-ltb most n i, le-ltb most s j)

-- digits before the point, where those so far made n
wholes : (bs : List ℕ) (n s : ℕ) → Digits bs → n * 10 ^ length bs + value bs < 10 ^ 15 → read_from (reading n s Whole) bs ≡ reading (n * 10 ^ length bs + value bs) s Whole
wholes [] n s ds h = let e : n ≡ n * 1 + 0 = omega arith in ap (λ (x : ℕ). reading x s Whole) e
wholes (b ∷ bs) n s ds h =
    let k = length bs in
    let e = next_place n (b - 0x30) k (value bs) in
    let t : n * 10 ≤ n * 10 ^ suc k = ten_times n k in
    ap (λ (r : Reading). read_from r bs) (whole_one Whole n s b (λ r d. unfold digit_in in refl) ds.0 ds.1 (omega arith))
    ∙ wholes bs (n * 10 + (b - 0x30)) s ds.2 (omega arith)
    ∙ ap (λ (x : ℕ). reading x s Whole) e

-- digits after it, where all so far made n, and the decimals among them s
decimals : (bs : List ℕ) (n s : ℕ) → Digits bs → n * 10 ^ length bs + value bs < 10 ^ 15 → s * 10 ^ length bs ≤ 10 ^ 14
    → read_from (reading n s Decimals) bs ≡ reading (n * 10 ^ length bs + value bs) (s * 10 ^ length bs) Decimals
decimals [] n s ds h i =
    let e : n ≡ n * 1 + 0 = omega arith in
    let f : s ≡ s * 1 = omega arith in
    ap (λ (x : ℕ). reading x s Decimals) e ∙ ap (λ (x : ℕ). reading (n * 1 + 0) x Decimals) f
decimals (b ∷ bs) n s ds h i =
    let k = length bs in
    let e = next_place n (b - 0x30) k (value bs) in
    let f : s * 10 ^ suc k ≡ s * 10 * 10 ^ k = ten s k in
    let t : n * 10 ≤ n * 10 ^ suc k = ten_times n k in
    let u : s * 10 ≤ s * 10 ^ suc k = ten_times s k in
    ap (λ (r : Reading). read_from r bs) (decimal_one Decimals n s b (λ r d. unfold digit_in in refl) ds.0 ds.1 (omega arith) (omega arith))
    ∙ decimals bs (n * 10 + (b - 0x30)) (s * 10) ds.2 (omega arith) (omega arith)
    ∙ ap (λ (x : ℕ). reading x (s * 10 * 10 ^ k) Decimals) e
    ∙ ap (λ (x : ℕ). reading (n * 10 ^ suc k + ((b - 0x30) * 10 ^ k + value bs)) x Decimals) (sym f)

from_append : (r : Reading) (fs bs : List ℕ) → read_from r (fs ++ bs) ≡ read_from (read_from r fs) bs
from_append r [] bs = refl
from_append r (f ∷ fs) bs = from_append (read_byte r f) fs bs

pub text_append : (fs bs : List ℕ) → read_text (fs ++ bs) ≡ read_from (read_text fs) bs
unfolding read_text
text_append fs bs = from_append started fs bs

-- ---- what a typed number says

-- one to 15 digits
pub whole_says : (fs : List ℕ) → Digits fs → 0 < length fs → length fs ≤ 15 → read_text fs ≡ reading (value fs) 1 Whole
unfolding read_text
whole_says [] ds h i = absurd (omega arith)
whole_says (f ∷ fs) ds h i =
    let k = length fs in
    let b : value (f ∷ fs) < 10 ^ suc k = value_below (f ∷ fs) ds in
    let m : 10 ^ suc k ≤ 10 ^ 15 = pow-le-pow_right (lit≤ tt) i in
    let e : (0 * 10 + (f - 0x30)) * 10 ^ k + value fs ≡ (f - 0x30) * 10 ^ k + value fs = ap (λ (x : ℕ). x * 10 ^ k + value fs) (first (f - 0x30)) in
    ap (λ (r : Reading). read_from r fs) (whole_one Start 0 1 f (λ r d. unfold digit_in in refl) ds.0 ds.1 (lit≤ tt))
    ∙ wholes fs (0 * 10 + (f - 0x30)) 1 ds.2 (omega arith)
    ∙ ap (λ (x : ℕ). reading x 1 Whole) e
  where
    first : (d : ℕ) → 0 * 10 + d ≡ d
    first d = omega arith

pointed : (n s : ℕ) → read_byte (reading n s Whole) 0x2E ≡ reading n s Point
unfolding read_byte is_digit after_point
pointed n s = refl

up_to_point : (fs bs : List ℕ) → Digits fs → 0 < length fs → length fs ≤ 15 → read_text (fs ++ (0x2E ∷ bs)) ≡ read_from (reading (value fs) 1 Point) bs
up_to_point fs bs ds h l =
    text_append fs (0x2E ∷ bs) ∙ ap (λ (r : Reading). read_from (read_byte r 0x2E) bs) (whole_says fs ds h l) ∙ ap (λ (r : Reading). read_from r bs) (pointed (value fs) 1)

-- digits, a point and digits, 15 in all at most
pub decimals_say : (fs bs : List ℕ) → Digits fs → Digits bs → 0 < length fs → 0 < length bs → length (fs ++ bs) ≤ 15
    → read_text (fs ++ (0x2E ∷ bs)) ≡ reading (value (fs ++ bs)) (10 ^ length bs) Decimals
decimals_say fs [] ds es h i l = absurd (omega arith)
decimals_say fs (b ∷ bs) ds es h i l =
    let k = length bs in
    let d = b - 0x30 in
    let n : length (fs ++ (b ∷ bs)) ≡ length fs + suc k = length-append fs (b ∷ bs) in
    let v : value (fs ++ (b ∷ bs)) < 10 ^ length (fs ++ (b ∷ bs)) = value_below (fs ++ (b ∷ bs)) (digits_append fs (b ∷ bs) ds es) in
    let m : 10 ^ length (fs ++ (b ∷ bs)) ≤ 10 ^ 15 = pow-le-pow_right (lit≤ tt) l in
    let a : value (fs ++ (b ∷ bs)) ≡ value fs * 10 ^ suc k + (d * 10 ^ k + value bs) = value_append fs (b ∷ bs) in
    let e : (value fs * 10 + d) * 10 ^ k + value bs ≡ value fs * 10 ^ suc k + (d * 10 ^ k + value bs) = next_place (value fs) d k (value bs) in
    let t : value fs * 10 ≤ value fs * 10 ^ suc k = ten_times (value fs) k in
    let u : 10 ^ suc k ≤ 10 ^ 14 = let v : suc k ≤ 14 = omega arith in pow-le-pow_right (lit≤ tt) v in
    let w : 1 * 10 * 10 ^ k ≡ 10 ^ suc k = sym (pow-suc 10 k ∙ mul_comm (10 ^ k) 10) in
    up_to_point fs (b ∷ bs) ds h (omega arith)
    ∙ ap (λ (r : Reading). read_from r bs) (decimal_one Point (value fs) 1 b (λ r x. unfold digit_in in refl) es.0 es.1 (omega arith) (lit≤ tt))
    ∙ decimals bs (value fs * 10 + d) (1 * 10) es.2 (omega arith) (omega arith)
    ∙ ap (λ (x : ℕ). reading x (1 * 10 * 10 ^ k) Decimals) (e ∙ sym a)
    ∙ ap (λ (x : ℕ). reading (value (fs ++ (b ∷ bs))) x Decimals) w

-- ---- whatever is typed

kept : (r : Reading) (st : State) → Small r → Small (with_state r st)
kept r st s = record { number = s.number; scale = s.scale }

whole_small : (r : Reading) (d : ℕ) → d ≤ 9 → Small r → Small (whole_digit r d)
unfolding whole_digit
whole_small r d h s =
    cond_both (ltb most r.number) (with_state r TooLong) (reading (r.number * 10 + d) r.scale Whole) Small (λ e. kept r TooLong s)
    (λ e. let l : r.number ≤ most = ltb-false most r.number e in record { number = omega arith; scale = s.scale })

decimal_small : (r : Reading) (d : ℕ) → d ≤ 9 → Small r → Small (decimal_digit r d)
unfolding decimal_digit
decimal_small r d h s =
    cond_both (ltb most r.number) (with_state r TooLong) _ Small (λ e. kept r TooLong s)
    (λ e. cond_both (ltb most r.scale) (with_state r TooLong) (reading (r.number * 10 + d) (r.scale * 10) Decimals) Small (λ f. kept r TooLong s)
    (λ f. let l : r.number ≤ most = ltb-false most r.number e in let m : r.scale ≤ most = ltb-false most r.scale f in record { number = omega arith; scale = omega arith }))

digit_small : (st : State) (r : Reading) (d : ℕ) → d ≤ 9 → Small r → Small (digit_in st r d)
unfolding digit_in
digit_small Start r d h s = whole_small r d h s
digit_small Whole r d h s = whole_small r d h s
digit_small Point r d h s = decimal_small r d h s
digit_small Decimals r d h s = decimal_small r d h s
digit_small NotANumber r d h s = s
digit_small TooLong r d h s = s

byte_small : (r : Reading) (b : ℕ) → Small r → Small (read_byte r b)
unfolding read_byte is_digit
byte_small r b s =
    cond_both (leb 0x30 b && leb b 0x39) _ _ Small
    (λ e. let u : b ≤ 0x39 = leb-true b 0x39 (and_parts (leb 0x30 b) (leb b 0x39) e).1 in digit_small r.state r (b - 0x30) (omega arith) s)
    (λ e. cond_both (eqb b 0x2E) (with_state r (after_point r.state)) (with_state r NotANumber) Small (λ p. kept r _ s) (λ p. kept r _ s))

from_small : (r : Reading) (bs : List ℕ) → Small r → Small (read_from r bs)
from_small r [] s = s
from_small r (b ∷ bs) s = from_small (read_byte r b) bs (byte_small r b s)

pub always_small : (text : List ℕ) → Small (read_text text)
unfolding read_text
always_small text = from_small started text (record { number = lit≤ tt; scale = lit≤ tt })
