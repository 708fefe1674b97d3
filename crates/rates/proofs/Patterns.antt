-- Every float of an answer is finite, not negative and the value of exactly one bit pattern: it is +0, or one of `Bounds`, and what an operation rounds is a value of the format.
use mathlib.Core.Path.{◌≡◌, refl, sym, ap, ◌∙◌, subst}
use mathlib.Core.Bool.{Bool, true, false, cond}
use Prim.Native.Nat.{ℕ, ◌+◌, ◌-◌, ◌*◌, ◌/◌, ◌%◌, ◌^◌, ◌≤◌, compare}
use lib.Dec.{T, ltb, lit≤}
use lib.Ieee.{Float, nan, inf, fin, binary64, prec, low, size, nearest, odd, units, round, sub, div, lt, le, fits, of_int, to_bits}
use lib.Ieee.Bits.{is_true, of_bits-to_bits, to_bits-lt, to_bits-of_bits}
use lib.Ieee.Exact.{HasValue, odd_sign}
use lib.Ieee.Fits.{cond-fits, sub-fits, div-fits}
use Rattle.std.specs.Float.{NotNan}
use Rattle.std.proofs.lemmas.Float.{le_left, T_from_true}
use Rattle.rates.specs.declared.Clock.{Clock}
use Rattle.rates.specs.declared.Plan.{Plan}
use Rattle.rates.specs.declared.Planned.{Planned}
use Rattle.rates.specs.Clocks.{float, hertz}
use Rattle.rates.specs.Rates.{reached_at, apart, plan_at, farness}
use Rattle.rates.specs.Plans.{plus_zero, planned}
use Rattle.rates.specs.Answers.{Listed, Answer, plan_made, clock_refused, rate_refused}
use Rattle.rates.specs.Floats.{Plain}
use Rattle.rates.proofs.Bounds.{ClockWithin, float_value, Rounds, reached_most, reached_rounds, distance_most, distance_rounds}
use Rattle.rates.proofs.Answers.{refused_is, plans_exactly, clock_within, taken_back}

-- plus, or a plus infinity
abbrev Plus : Float → Type 0
Plus nan = ⊥
Plus (inf s) = s ≡ false
Plus (fin s m e) = s ≡ false

plus_value : (x : Float) (a c : ℕ) → HasValue x false a c → Plus x
plus_value nan a c h = h
plus_value (inf s) a c h = absurd h
plus_value (fin s m e) a c h = h.0

units_plus : (q k : ℕ) → Plus (units binary64 false q k)
unfolding units
units_plus q k = go (ltb (q * 2 ^ k) (2 ^ (low binary64 + 1024)))
  where
    go : (b : Bool) → Plus (cond b (odd 54 false q k (low binary64)) (inf false))
    go true = plus_value (odd 54 false q k (low binary64)) (q * 2 ^ k) (2 ^ low binary64) (odd_sign 54 false q k (low binary64))
    go false = refl

round_plus : (a b : ℕ) → Plus (round binary64 false a b)
unfolding round
round_plus a b =
    let m = a * 2 ^ low binary64 in
    let k = size (m / b) - prec binary64 in
    let u = b * 2 ^ k in
    units_plus (nearest (m / u) (compare (m % u * 2) u)) k

no_infinity : (y : Float) (a c : ℕ) → HasValue y false a c → T (le (inf false) y) → ⊥
unfolding le
no_infinity nan a c h t = h
no_infinity (inf s) a c h t = h
no_infinity (fin s m e) a c h t = t

-- ---- what makes a float plain

plain : (x : Float) → T (fits binary64 x) → Plus x → T (le x (float 1250000)) → Plain x
plain nan f p h = absurd p
plain (inf s) f p h = absurd (no_infinity (float 1250000) 1250000 1 (float_value 1250000 (lit≤ tt)) (subst (λ (s : Bool). T (le (inf s) (float 1250000))) p h))
plain (fin s m e) f p h =
    record {
      digits = m;
      exponent = e;
      plus = ap (λ (s : Bool). fin s m e) p;
      most = is_true _ h;
      pattern_fits = to_bits-lt binary64 (fin s m e) f;
      pattern_reads = of_bits-to_bits binary64 (fin s m e) f;
      pattern_only = λ b i r.
          sym (to_bits-of_bits binary64 b i (subst NotNan (sym r) (le_left (fin s m e) (float 1250000) h))) ∙ ap (to_bits binary64) r;
    }

zero_plain : Plain plus_zero
zero_plain = plain plus_zero (unfold fits in tt) refl (unfold float of_int le in tt)

rounds_plus : (x : Float) → Rounds x → Plus x
rounds_plus x r = subst Plus (sym r.is) (round_plus r.above r.below)

reached_fits : (f : Float) (k : ℕ) → T (fits binary64 (reached_at f k))
unfolding reached_at
reached_fits f k = div-fits binary64 (div binary64 f (float 16)) (float (k + 1))

distance_fits : (f : Float) (rate k : ℕ) → T (fits binary64 (farness f rate k))
unfolding plan_at apart
distance_fits f rate k =
    cond-fits binary64 (lt (reached_at f k) (float rate)) (sub binary64 (float rate) (reached_at f k)) (sub binary64 (reached_at f k) (float rate))
    (sub-fits binary64 (float rate) (reached_at f k)) (sub-fits binary64 (reached_at f k) (float rate))

module _ (f : Float) (rate k : ℕ) (w : ClockWithin f) (l : Listed rate) (h : k ≤ 255) where
  at_plain : Plain (plan_at f rate k).reached × Plain (plan_at f rate k).distance
  unfolding plan_at
  at_plain = (
    plain (reached_at f k) (reached_fits f k) (rounds_plus _ (reached_rounds f k w h)) (reached_most f k w h),
    plain (farness f rate k) (distance_fits f rate k) (rounds_plus _ (distance_rounds f rate k w l h)) (distance_most f rate k w l h),
  )

-- both floats of every answer
pub answer_plain : (c : Clock) (rate : ℕ) → Plain (planned c rate).plan.reached × Plain (planned c rate).plan.distance
answer_plain c rate = go (planned c rate) ((plans_exactly c rate (planned c rate)).0 refl)
  where
    both : (p q : Plan) → p ≡ q → Plain q.reached × Plain q.distance → Plain p.reached × Plain p.distance
    both p q e = subst (λ (x : Plan). Plain x.reached × Plain x.distance) (sym e)

    go : (a : Planned) → Answer c rate a → Plain a.plan.reached × Plain a.plan.distance
    go a (plan_made t l r n) = both _ _ n.own (at_plain (hertz c) rate a.plan.divider (clock_within c (taken_back c t)) l n.divides)
    go a (clock_refused t r) = both _ _ (ap (λ (x : Planned). x.plan) (refused_is 9 a r)) (zero_plain, zero_plain)
    go a (rate_refused t l r) = both _ _ (ap (λ (x : Planned). x.plan) (refused_is 10 a r)) (zero_plain, zero_plain)

pub plain_number : (x : Float) → Plain x → NotNan x
plain_number x p = le_left x (float 1250000) (T_from_true _ p.most)
