-- A number as it is typed: decimal digits, at most one point, a digit on either side of it. What is read is the number without its point, and the power of ten by which to divide it.
use Rattle.std.specs.Prelude.{ℕ, ◌+◌, ◌-◌, ◌*◌, Bool, cond, ◌&&◌, List, [], ◌∷◌, ◌==◌, nat_le, nat_lt}

-- where the reading of a number stands
pub data State : Type 0 where
  Start : State
  Whole : State
  Point : State
  Decimals : State
  NotANumber : State
  TooLong : State

-- a number without its point, the power of ten by which to divide it, and where its reading stands
pub record Reading : Type 0 where
  pub number : ℕ
  pub scale : ℕ
  pub state : State

abbrev pub reading : ℕ → ℕ → State → Reading
reading n s state = record { number = n; scale = s; state = state }

-- nothing is read yet
abbrev pub started : Reading
started = reading 0 1 Start

-- a number over this has 15 digits, and takes no more
abbrev pub most : ℕ
most = 99999999999999

abbrev pub with_state : Reading → State → Reading
with_state r state = reading r.number r.scale state

-- a digit before the point, and one after it
unfoldable pub whole_digit : Reading → ℕ → Reading
whole_digit r d = cond (nat_lt most r.number) (with_state r TooLong) (reading (r.number * 10 + d) r.scale Whole)

unfoldable pub decimal_digit : Reading → ℕ → Reading
decimal_digit r d =
    cond (nat_lt most r.number) (with_state r TooLong)
    (cond (nat_lt most r.scale) (with_state r TooLong) (reading (r.number * 10 + d) (r.scale * 10) Decimals))

unfoldable pub digit_in : State → Reading → ℕ → Reading
digit_in Start r d = whole_digit r d
digit_in Whole r d = whole_digit r d
digit_in Point r d = decimal_digit r d
digit_in Decimals r d = decimal_digit r d
digit_in NotANumber r d = r
digit_in TooLong r d = r

-- where a point leads
unfoldable pub after_point : State → State
after_point Start = NotANumber
after_point Whole = Point
after_point Point = NotANumber
after_point Decimals = NotANumber
after_point NotANumber = NotANumber
after_point TooLong = TooLong

-- the digits 0 to 9 in ASCII
unfoldable pub is_digit : ℕ → Bool
is_digit b = nat_le 0x30 b && nat_le b 0x39

-- one byte more: a digit, a point, or what no number has
unfoldable pub read_byte : Reading → ℕ → Reading
read_byte r b =
    cond (is_digit b) (digit_in r.state r (b - 0x30)) (cond (b == 0x2E) (with_state r (after_point r.state)) (with_state r NotANumber))

abbrev pub read_from : Reading → List ℕ → Reading
read_from r [] = r
read_from r (b ∷ bs) = read_from (read_byte r b) bs

unfoldable pub read_text : List ℕ → Reading
read_text text = read_from started text
