-- The answer to any clock and any rate is what Item 7's words ask, and nothing else is: the two tests are those words, and where both hold the plan is the one nearest.
use mathlib.Core.Path.{◌≡◌, refl, sym, ap, ◌∙◌, subst}
use mathlib.Core.Logic.{◌⊎◌, inl, inr, ⊎_elim, ◌↔◌}
use mathlib.Core.Bool.{Bool, true, false, ◌||◌, cond}
use Prim.Native.Nat.{ℕ, ◌≤◌}
use lib.Dec.{eqb, lit≤}
use lib.Ieee.{Float, le, of_int}
use lib.Ieee.Bits.{is_true}
use lib.Ieee.Fits.{and_i, and_l, and_r}
use Rattle.std.specs.Float.{NotNan}
use Rattle.std.proofs.lemmas.Bool.{both_ways, eqb-true, false_from_ne_true, or_cases}
use Rattle.std.proofs.lemmas.Float.{T_from_true}
use Rattle.rates.specs.declared.Clock.{Clock}
use Rattle.rates.specs.declared.Clock.TheVariants.{Fixed8, Fixed7, External}
use Rattle.rates.specs.declared.Plan.{Plan}
use Rattle.rates.specs.declared.Planned.{Planned}
use Rattle.rates.specs.Clocks.{float, hertz, in_range, is_taken}
use Rattle.rates.specs.Rates.{is_listed, plan_at, farness}
use Rattle.rates.specs.Plans.{best_divider, plus_zero, made_plan, refused_with, answer_with, planned}
use Rattle.rates.specs.Search.{best_up_to, searched}
use Rattle.rates.specs.Nearest.{Nearest}
use Rattle.rates.specs.Answers.{Taken, Listed, Refused, Answer, plan_made, clock_refused, rate_refused}
use Rattle.rates.proofs.Bounds.{ClockWithin, within, distance_number}
use Rattle.rates.proofs.Chosen.{nearest_is, search_finds, chosen_nearest}

-- ---- the clock

-- a fixed clock is in range
pub taken_in_range : (c : Clock) → in_range (hertz c) ≡ is_taken c
unfolding is_taken in_range hertz float le of_int
taken_in_range Fixed8 = refl
taken_in_range Fixed7 = refl
taken_in_range (External f) = refl

in_range_lem : (f : Float) → in_range f ≡ true → Taken (External f)
unfolding in_range
in_range_lem f e =
    (is_true _ (and_l (le (float 2000000) f) (le f (float 20000000)) (T_from_true _ e)), is_true _ (and_r (le (float 2000000) f) (le f (float 20000000)) (T_from_true _ e)))

taken : (c : Clock) → is_taken c ≡ true → Taken c
unfolding is_taken
taken Fixed8 e = tt
taken Fixed7 e = tt
taken (External f) e = in_range_lem f e

pub taken_back : (c : Clock) → Taken c → is_taken c ≡ true
unfolding is_taken in_range
taken_back Fixed8 h = refl
taken_back Fixed7 h = refl
taken_back (External f) h = is_true _ (and_i (le (float 2000000) f) (le f (float 20000000)) (T_from_true _ h.0) (T_from_true _ h.1))

pub clock_within : (c : Clock) → is_taken c ≡ true → ClockWithin (hertz c)
clock_within c e =
    let b = in_range_lem (hertz c) (taken_in_range c ∙ e) in
    within 2000000 20000000 (hertz c) (lit≤ tt) (lit≤ tt) (lit≤ tt) (T_from_true _ b.0) (T_from_true _ b.1)

-- ---- the rate

one_more : (rate n : ℕ) (b : Bool) {R : Type 0} → (b ≡ true → R) → eqb rate n || b ≡ true → (rate ≡ n) ⊎ R
one_more rate n b k e = ⊎_elim (λ i. inl (eqb-true rate n i)) (λ i. inr (k i)) (or_cases (eqb rate n) b e)

last : (rate n : ℕ) → eqb rate n || false ≡ true → rate ≡ n
last rate n e = ⊎_elim (λ i. i) (λ i. absurd i) (one_more rate n false (λ j. both_ways _ refl j) e)

listed : (rate : ℕ) → is_listed rate ≡ true → Listed rate
unfolding is_listed
listed rate e = one_more rate 9600 _ (one_more rate 19200 _ (one_more rate 38400 _ (one_more rate 57600 _ (last rate 115200)))) e

listed_back : (rate : ℕ) → Listed rate → is_listed rate ≡ true
unfolding is_listed
listed_back rate h = ⊎_elim (at 9600 refl) (⊎_elim (at 19200 refl) (⊎_elim (at 38400 refl) (⊎_elim (at 57600 refl) (at 115200 refl)))) h
  where
    at : (n : ℕ) → is_listed n ≡ true → rate ≡ n → is_listed rate ≡ true
    at n y e = ap is_listed e ∙ y

-- ---- the refused plan

refused_so : (n : ℕ) → Refused n (refused_with n)
refused_so n = record { number = refl; no_rate = refl; no_distance = refl; no_divider = refl }

pub refused_is : (n : ℕ) (a : Planned) → Refused n a → a ≡ refused_with n
refused_is n a r =
    ap (λ (k : ℕ). answer k a.plan.reached a.plan.distance a.plan.divider) r.number
    ∙ ap (λ (x : Float). answer n x a.plan.distance a.plan.divider) r.no_rate
    ∙ ap (λ (x : Float). answer n plus_zero x a.plan.divider) r.no_distance
    ∙ ap (answer n plus_zero plus_zero) r.no_divider
  where
    answer : ℕ → Float → Float → ℕ → Planned
    answer n x y k = record { refusal = n; plan = record { reached = x; distance = y; divider = k } }

-- ---- the answer

module _ (c : Clock) (rate : ℕ) where
  module _ (t : is_taken c ≡ true) (l : is_listed rate ≡ true) where
    all_real : (j : ℕ) → j ≤ 255 → NotNan (farness (hertz c) rate j)
    all_real j h = distance_number (hertz c) rate j (clock_within c t) (listed rate l) h

    is_made : planned c rate ≡ made_plan (plan_at (hertz c) rate (best_divider (hertz c) rate))
    unfolding planned answer_with
    is_made = rw (t, l)

    -- what the code's search finds is answered
    pub made : (p : Plan) → p ≡ best_up_to (hertz c) rate 255 → made_plan p ≡ planned c rate
    made p e = ap made_plan (e ∙ search_finds (hertz c) rate all_real) ∙ sym is_made

    made_is : (p : Plan) → Nearest (hertz c) rate 255 p → made_plan p ≡ planned c rate
    made_is p n = ap made_plan (nearest_is (hertz c) rate p n) ∙ sym is_made

    made_nearest : Nearest (hertz c) rate 255 (planned c rate).plan
    made_nearest = subst (λ (a : Planned). Nearest (hertz c) rate 255 a.plan) (sym is_made) (chosen_nearest (hertz c) rate all_real)

  pub not_listed : is_taken c ≡ true → is_listed rate ≡ false → refused_with 10 ≡ planned c rate
  unfolding planned answer_with
  not_listed t l = rw (t, l)

  pub not_taken : is_taken c ≡ false → refused_with 9 ≡ planned c rate
  unfolding planned answer_with
  not_taken t = rw t

  pub searched_is : searched c rate ≡ planned c rate
  unfolding searched answer_with
  searched_is = go (is_taken c) (is_listed rate) refl refl
    where
      go : (t l : Bool) → is_taken c ≡ t → is_listed rate ≡ l
          → cond t (cond l (made_plan (best_up_to (hertz c) rate 255)) (refused_with 10)) (refused_with 9) ≡ planned c rate
      go true true t l = made t l (best_up_to (hertz c) rate 255) refl
      go true false t l = not_listed t l
      go false l t _ = not_taken t

  -- a fixed clock and an external one of the same frequency have the same answer
  pub as_external : planned c rate ≡ planned (External (hertz c)) rate
  unfolding planned answer_with is_taken hertz
  as_external = rw (taken_in_range c)

  rebuilt : (a : Planned) → a.refusal ≡ 0 → a ≡ made_plan a.plan
  rebuilt a e = ap (λ (n : ℕ). record { refusal = n; plan = a.plan }) e

  answered : Answer c rate (planned c rate)
  answered = go (is_taken c) (is_listed rate) refl refl
    where
      go : (t l : Bool) → is_taken c ≡ t → is_listed rate ≡ l → Answer c rate (planned c rate)
      go true true t l = plan_made (taken c t) (listed rate l) (ap (λ (a : Planned). a.refusal) (is_made t l)) (made_nearest t l)
      go true false t l = rate_refused (taken c t) (λ h. both_ways _ l (listed_back rate h)) (subst (Refused 10) (not_listed t l) (refused_so 10))
      go false l t _ = clock_refused (λ h. both_ways _ t (taken_back c h)) (subst (Refused 9) (not_taken t) (refused_so 9))

  no_other : (a : Planned) → Answer c rate a → a ≡ planned c rate
  no_other a (plan_made t l r n) = rebuilt a r ∙ made_is (taken_back c t) (listed_back rate l) a.plan n
  no_other a (clock_refused t r) = refused_is 9 a r ∙ not_taken (false_from_ne_true (is_taken c) (λ e. t (taken c e)))
  no_other a (rate_refused t l r) = refused_is 10 a r ∙ not_listed (taken_back c t) (false_from_ne_true (is_listed rate) (λ e. l (listed rate e)))

  -- Item 7, whole: what is planned is the answer that its words ask for, and no other is
  pub plans_exactly : (a : Planned) → (a ≡ planned c rate) ↔ Answer c rate a
  plans_exactly a = (λ e. subst (Answer c rate) (sym e) answered, no_other a)
