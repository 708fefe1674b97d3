-- A clock in range reaches between 488 and 1,250,000 hertz with any divider, and lies at most 1,250,000 from any listed rate. For `round` keeps the order of fractions:
-- a quotient or a difference is rounded to no more than the whole number that bounds it. So none of these is a NaN, an infinity or negative.
use mathlib.Core.Path.{◌≡◌, refl, sym, ap, ◌∙◌, subst}
use mathlib.Core.Logic.{⊎_elim}
use mathlib.Core.Bool.{Bool, true, false, cond}
use Prim.Native.Nat.{ℕ, ◌+◌, ◌-◌, ◌*◌, ◌^◌, ◌≤◌, ◌<◌}
use native.Mathlib.Nat.{mul_assoc, mul_comm, mul_left_comm, mul-le-mul_right, mul-pos}
use native.Mathlib.Omega.{arith}
use Rattle.std.specs.Float.{NotNan}
use Rattle.std.proofs.lemmas.Bool.{ne_eqb, le-ltb}
use Rattle.std.proofs.lemmas.Float.{le_left, le_of_lt, le_of_not-lt, T_from_true, T_from_false}
use lib.Dec.{T, eqb, ltb→lt, lit≤}
use lib.Ieee.{Float, nan, inf, fin, binary64, up, down, round, sum, sub, div, lt, le, of_int, is_nan}
use lib.Ieee.Exact.{HasValue}
use lib.Ieee.Back.{round_whole}
use lib.Ieee.Order.{round_mono}
use lib.Ieee.Positive.{num, den, positive, den_pos, own_value, value→cross, positive_of_value, value_pos, le→cross, values_of_le, between}
use Rattle.rates.specs.Clocks.{float}
use Rattle.rates.specs.Rates.{reached_at, apart, plan_at, farness}
use Rattle.rates.specs.Answers.{Listed}

-- ---- whole numbers as floats

pub float_value : (n : ℕ) → n ≤ 2 ^ 53 → HasValue (float n) false n 1
unfolding float of_int
float_value n h = round_whole binary64 false n h

float_positive : (n : ℕ) → 0 < n → n ≤ 2 ^ 53 → T (positive (float n))
float_positive n p h = positive_of_value (float n) n 1 (float_value n h) p

-- a fraction that is at most c, or at least c, stays so when it is rounded
rounded_most : (a b c : ℕ) → 0 < b → a ≤ c * b → T (le (round binary64 false a b) (float c))
unfolding float of_int
rounded_most a b c p h = round_mono binary64 a b c 1 p (lit≤ tt) (omega arith)

rounded_least : (a b c : ℕ) → 0 < b → c * b ≤ a → T (le (float c) (round binary64 false a b))
unfolding float of_int
rounded_least a b c p h = round_mono binary64 c 1 a b (lit≤ tt) p (omega arith)

-- ---- a float between two whole numbers

pub record Within (lo hi : ℕ) (x : Float) : Type 0 where
  above_zero : T (positive x)
  least : lo * den x ≤ num x
  most : num x ≤ hi * den x

pub within : (lo hi : ℕ) (x : Float) → 0 < lo → lo ≤ hi → hi ≤ 2 ^ 53 → T (le (float lo) x) → T (le x (float hi)) → Within lo hi x
within lo hi x p q h a b =
    let l : T (positive (float lo)) = float_positive lo p (omega arith) in
    let u : T (positive (float hi)) = float_positive hi (omega arith) h in
    let m : T (positive x) = between (float lo) x (float hi) l u a b in
    let s : lo * den x ≤ num x * 1 = values_of_le (float lo) x lo 1 (num x) (den x) l m (float_value lo (omega arith)) (own_value x m) a in
    let t : num x * 1 ≤ hi * den x = values_of_le x (float hi) (num x) (den x) hi 1 m u (own_value x m) (float_value hi h) b in
    record { above_zero = m; least = omega arith; most = omega arith }

-- ---- quotients

num_above : (x : Float) → T (positive x) → 0 < num x
num_above x p = value_pos x (num x) (den x) p (den_pos x) (own_value x p)

div_is : (x y : Float) → T (positive x) → T (positive y) → div binary64 x y ≡ round binary64 false (num x * den y) (num y * den x)
unfolding div
div_is nan y p q = absurd p
div_is (inf s) y p q = absurd p
div_is (fin true m e) y p q = absurd p
div_is (fin false m e) nan p q = absurd q
div_is (fin false m e) (inf t) p q = absurd q
div_is (fin false m e) (fin true n d) p q = absurd q
div_is (fin false m e) (fin false n d) p q = let z : eqb n 0 ≡ false = ne_eqb n 0 (λ e. let h : 0 < n = ltb→lt 0 n q in omega arith) in rw z

-- x / n lies between lo / n and hi / n
module _ (lo hi : ℕ) (x : Float) (w : Within lo hi x) (n : ℕ) (p : 0 < n) (h : n ≤ 2 ^ 53) where
  whole : T (positive (float n))
  whole = float_positive n p h

  whole_is : num (float n) ≡ n * den (float n)
  whole_is = let e : num (float n) * 1 ≡ n * den (float n) = value→cross (float n) n 1 (float_value n h) in omega arith

  divisor_above : 0 < num (float n) * den x
  divisor_above = mul-pos (num_above (float n) whole) (den_pos x)

  -- c, over the quotient's own divisor
  scaled : (c : ℕ) → c * (num (float n) * den x) ≡ c * n * (den x * den (float n))
  scaled c = ap (λ (z : ℕ). c * (z * den x)) whole_is ∙ simp (mul_assoc, mul_comm, mul_left_comm)

  div_most : (c : ℕ) → hi ≤ c * n → T (le (div binary64 x (float n)) (float c))
  div_most c k =
      let d = den x in
      let e = den (float n) in
      let a : num x * e ≤ hi * d * e = mul-le-mul_right e w.most in
      let b : hi * (d * e) ≤ c * n * (d * e) = mul-le-mul_right (d * e) k in
      let f : hi * d * e ≡ hi * (d * e) = mul_assoc hi d e in
      let g : c * (num (float n) * d) ≡ c * n * (d * e) = scaled c in
      subst (λ (z : Float). T (le z (float c))) (sym (div_is x (float n) w.above_zero whole))
      (rounded_most (num x * e) (num (float n) * d) c divisor_above (omega arith))

  div_least : (c : ℕ) → c * n ≤ lo → T (le (float c) (div binary64 x (float n)))
  div_least c k =
      let d = den x in
      let e = den (float n) in
      let a : lo * d * e ≤ num x * e = mul-le-mul_right e w.least in
      let b : c * n * (d * e) ≤ lo * (d * e) = mul-le-mul_right (d * e) k in
      let f : lo * d * e ≡ lo * (d * e) = mul_assoc lo d e in
      let g : c * (num (float n) * d) ≡ c * n * (d * e) = scaled c in
      subst (λ (z : Float). T (le (float c) z)) (sym (div_is x (float n) w.above_zero whole))
      (rounded_least (num x * e) (num (float n) * d) c divisor_above (omega arith))

-- ---- differences

-- a fraction that is not negative, rounded once
pub record Rounds (x : Float) : Type 0 where
  pub above : ℕ
  pub below : ℕ
  pub is : x ≡ round binary64 false above below

positive_number : (x : Float) → T (positive x) → NotNan x
positive_number nan p = absurd p
positive_number (inf s) p = absurd p
positive_number (fin s m e) p = unfold is_nan in tt

sub_is : (x y : Float) → T (positive x) → T (positive y) → T (le y x) → sub binary64 x y ≡ round binary64 false (num x * den y - num y * den x) (den x * den y)
sub_is nan y p q h = absurd p
sub_is (inf s) y p q h = absurd p
sub_is (fin true m e) y p q h = absurd p
sub_is (fin false m e) nan p q h = absurd q
sub_is (fin false m e) (inf t) p q h = absurd q
sub_is (fin false m e) (fin true n d) p q h = absurd q
sub_is (fin false m e) (fin false n d) p q h =
    opened ∙ less (m * up e * down d) (n * up d * down e) (down e * down d) (le→cross (fin false n d) (fin false m e) q p h)
  where
    opened : sub binary64 (fin false m e) (fin false n d) ≡ sum binary64 false (m * up e * down d) true (n * up d * down e) (down e * down d)
    opened = unfold sub in refl

    less : (a b c : ℕ) → b ≤ a → sum binary64 false a true b c ≡ round binary64 false (a - b) c
    less a b c h = unfold sum in rw (le-ltb a b h)

-- x - y, for 0 < y ≤ x, is a fraction that is rounded, and is at most what x is
module _ (x y : Float) (p : T (positive x)) (q : T (positive y)) (h : T (le y x)) where
  sub_most : (c : ℕ) → num x ≤ c * den x → T (le (sub binary64 x y) (float c))
  sub_most c k =
      let a : num x * den y ≤ c * den x * den y = mul-le-mul_right (den y) k in
      let b : c * den x * den y ≡ c * (den x * den y) = mul_assoc c (den x) (den y) in
      subst (λ (z : Float). T (le z (float c))) (sym (sub_is x y p q h))
      (rounded_most (num x * den y - num y * den x) (den x * den y) c (mul-pos (den_pos x) (den_pos y)) (omega arith))

  sub_rounds : Rounds (sub binary64 x y)
  sub_rounds = record { above = num x * den y - num y * den x; below = den x * den y; is = sub_is x y p q h }

-- ---- the planner's floats

abbrev pub ClockWithin : Float → Type 0
ClockWithin = Within 2000000 20000000

sixteenth : (f : Float) → ClockWithin f → Within 125000 1250000 (div binary64 f (float 16))
sixteenth f w =
    within 125000 1250000 (div binary64 f (float 16)) (lit≤ tt) (lit≤ tt) (lit≤ tt)
    (div_least 2000000 20000000 f w 16 (lit≤ tt) (lit≤ tt) 125000 (lit≤ tt))
    (div_most 2000000 20000000 f w 16 (lit≤ tt) (lit≤ tt) 1250000 (lit≤ tt))

rate_within : (rate : ℕ) → Listed rate → Within 9600 115200 (float rate)
rate_within rate l =
    let b : (9600 ≤ rate) × (rate ≤ 115200) = bounds l in
    let v : HasValue (float rate) false rate 1 = float_value rate (let u : rate ≤ 115200 = b.1 in omega arith) in
    let e : num (float rate) * 1 ≡ rate * den (float rate) = value→cross (float rate) rate 1 v in
    let m : 9600 * den (float rate) ≤ rate * den (float rate) = mul-le-mul_right (den (float rate)) b.0 in
    let n : rate * den (float rate) ≤ 115200 * den (float rate) = mul-le-mul_right (den (float rate)) b.1 in
    record { above_zero = positive_of_value (float rate) rate 1 v (let d : 9600 ≤ rate = b.0 in omega arith); least = omega arith; most = omega arith }
  where
    bounds : Listed rate → (9600 ≤ rate) × (rate ≤ 115200)
    bounds = ⊎_elim (λ e. (omega arith, omega arith)) (⊎_elim (λ e. (omega arith, omega arith)) (⊎_elim (λ e. (omega arith, omega arith)) (⊎_elim (λ e. (omega arith, omega arith)) (λ e. (omega arith, omega arith)))))

pub reached_least : (f : Float) (k : ℕ) → ClockWithin f → k ≤ 255 → T (le (float 488) (reached_at f k))
unfolding reached_at
reached_least f k w h = div_least 125000 1250000 (div binary64 f (float 16)) (sixteenth f w) (k + 1) (omega arith) (omega arith) 488 (omega arith)

pub reached_most : (f : Float) (k : ℕ) → ClockWithin f → k ≤ 255 → T (le (reached_at f k) (float 1250000))
unfolding reached_at
reached_most f k w h = div_most 125000 1250000 (div binary64 f (float 16)) (sixteenth f w) (k + 1) (omega arith) (omega arith) 1250000 (omega arith)

pub reached_rounds : (f : Float) (k : ℕ) → ClockWithin f → k ≤ 255 → Rounds (reached_at f k)
unfolding reached_at
reached_rounds f k w h =
    let n = float (k + 1) in
    let x = div binary64 f (float 16) in
    record { above = num x * den n; below = num n * den x; is = div_is x n (sixteenth f w).above_zero (float_positive (k + 1) (omega arith) (omega arith)) }

-- the distance, by which of the two rates is the greater
module _ (f : Float) (rate k : ℕ) (w : ClockWithin f) (l : Listed rate) (h : k ≤ 255) where
  reached_within : Within 488 1250000 (reached_at f k)
  reached_within = within 488 1250000 (reached_at f k) (lit≤ tt) (lit≤ tt) (lit≤ tt) (reached_least f k w h) (reached_most f k w h)

  wanted_within : Within 9600 115200 (float rate)
  wanted_within = rate_within rate l

  distance_is : (P : Float → Type 0)
      → (T (le (reached_at f k) (float rate)) → P (sub binary64 (float rate) (reached_at f k)))
      → (T (le (float rate) (reached_at f k)) → P (sub binary64 (reached_at f k) (float rate)))
      → P (farness f rate k)
  unfolding plan_at apart
  distance_is P under over = go (lt (reached_at f k) (float rate)) refl
    where
      go : (b : Bool) → lt (reached_at f k) (float rate) ≡ b → P (cond b (sub binary64 (float rate) (reached_at f k)) (sub binary64 (reached_at f k) (float rate)))
      go true e = under (le_of_lt (reached_at f k) (float rate) (T_from_true _ e))
      go false e =
          over (le_of_not-lt (reached_at f k) (float rate) (positive_number (reached_at f k) reached_within.above_zero) (positive_number (float rate) wanted_within.above_zero) (T_from_false _ e))

  pub distance_most : T (le (farness f rate k) (float 1250000))
  distance_most =
      distance_is (λ (x : Float). T (le x (float 1250000)))
      (λ g. sub_most (float rate) (reached_at f k) wanted_within.above_zero reached_within.above_zero g 1250000 (let m : num (float rate) ≤ 115200 * den (float rate) = wanted_within.most in omega arith))
      (λ g. sub_most (reached_at f k) (float rate) reached_within.above_zero wanted_within.above_zero g 1250000 reached_within.most)

  pub distance_number : NotNan (farness f rate k)
  distance_number = le_left (farness f rate k) (float 1250000) distance_most

  pub distance_rounds : Rounds (farness f rate k)
  distance_rounds =
      distance_is Rounds
      (sub_rounds (float rate) (reached_at f k) wanted_within.above_zero reached_within.above_zero)
      (sub_rounds (reached_at f k) (float rate) reached_within.above_zero wanted_within.above_zero)
