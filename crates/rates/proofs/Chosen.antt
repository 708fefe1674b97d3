-- The nearest plan is the one with the divider that document 02's words name: that divider's distance is at most each other's, and a smaller one's is not, being above it. So no second plan is nearest.
use mathlib.Core.Path.{◌≡◌, refl, sym, ap, ◌∙◌, subst}
use mathlib.Core.Bool.{Bool, true, false, cond}
use Prim.Native.Nat.{ℕ, zero, suc, ◌+◌, ◌≤◌, ◌<◌}
use native.Mathlib.Omega.{arith}
use borrow.Author.Tests.{leb-true, leb-false}
use lib.Dec.{T, leb, lit≤}
use lib.Ieee.{Float, lt, le}
use lib.Ieee.Bits.{is_true}
use lib.Ieee.Fits.{and_i, and_l, and_r}
use Rattle.std.specs.Float.{NotNan}
use Rattle.std.proofs.lemmas.Bool.{false_from_ne_true}
use Rattle.std.proofs.lemmas.Float.{lt_irrefl, lt_of_lt_of_le, T_from_true}
use Rattle.rates.specs.declared.Plan.{Plan}
use Rattle.rates.specs.Rates.{plan_at, farness}
use Rattle.rates.specs.Plans.{max_divider, at_most_all, is_least, first_least, best_divider}
use Rattle.rates.specs.Search.{best_up_to}
use Rattle.rates.specs.Nearest.{Nearest}
use Rattle.rates.proofs.Least.{up_to, search_nearest}

module _ (f : Float) (rate : ℕ) where
  all_at_most : (d : Float) (k : ℕ) → ((j : ℕ) → j ≤ k → le d (farness f rate j) ≡ true) → T (at_most_all f rate d k)
  unfolding at_most_all
  all_at_most d zero h = T_from_true _ (h zero (lit≤ tt))
  all_at_most d (suc k) h = and_i (at_most_all f rate d k) (le d (farness f rate (suc k))) (all_at_most d k (λ j i. h j (omega arith))) (T_from_true _ (h (suc k) (omega arith)))

  each_at_most : (d : Float) (k : ℕ) → T (at_most_all f rate d k) → (j : ℕ) → j ≤ k → T (le d (farness f rate j))
  unfolding at_most_all
  each_at_most d zero t j h = let z : 0 ≡ j = omega arith in subst (λ (j : ℕ). T (le d (farness f rate j))) z t
  each_at_most d (suc k) t j h =
      up_to (λ (j : ℕ). T (le d (farness f rate j))) k (each_at_most d k (and_l (at_most_all f rate d k) (le d (farness f rate (suc k))) t))
      (and_r (at_most_all f rate d k) (le d (farness f rate (suc k))) t) j h

  -- the first from k on, of n more
  first_is : (d n k : ℕ) → is_least f rate d ≡ true → ((j : ℕ) → j < d → is_least f rate j ≡ false) → k ≤ d → d ≤ k + n → first_least f rate n k ≡ d
  unfolding first_least
  first_is d zero k is not_before a b = omega arith
  first_is d (suc n) k is not_before a b = go (leb d k) refl (λ g. first_is d n (suc k) is not_before g (omega arith))
    where
      go : (t : Bool) → leb d k ≡ t → (suc k ≤ d → first_least f rate n (suc k) ≡ d) → cond (is_least f rate k) k (first_least f rate n (suc k)) ≡ d
      go true e later =
          let g : d ≤ k = leb-true d k e in
          let s : k ≡ d = omega arith in
          let y : is_least f rate k ≡ true = ap (is_least f rate) s ∙ is in
          rw (y, s)
      go false e later =
          let g : k < d = leb-false d k e in
          rw (not_before k g, later g)

  module _ (p : Plan) (n : Nearest f rate 255 p) where
    own_distance : farness f rate p.divider ≡ p.distance
    own_distance = ap (λ (x : Plan). x.distance) (sym n.own)

    is_least_lem : is_least f rate p.divider ≡ true
    unfolding is_least
    is_least_lem = is_true _ (all_at_most (farness f rate p.divider) max_divider (λ j h. ap (λ (d : Float). le d (farness f rate j)) own_distance ∙ n.least j h))

    no_smaller : (j : ℕ) → j < p.divider → is_least f rate j ≡ false
    unfolding is_least
    no_smaller j h =
        false_from_ne_true (is_least f rate j) (λ e.
        let nearer = T_from_true _ (ap (λ (d : Float). lt d (farness f rate j)) own_distance ∙ n.smallest j h) in
        lt_irrefl (farness f rate p.divider)
        (lt_of_lt_of_le (farness f rate p.divider) (farness f rate j) (farness f rate p.divider) nearer
        (each_at_most (farness f rate j) max_divider (T_from_true _ e) p.divider n.divides)))

    best_divider_lem : best_divider f rate ≡ p.divider
    unfolding best_divider
    best_divider_lem = first_is p.divider 255 zero is_least_lem no_smaller (omega arith) n.divides

  pub nearest_is : (p : Plan) → Nearest f rate 255 p → p ≡ plan_at f rate (best_divider f rate)
  nearest_is p n = n.own ∙ ap (plan_at f rate) (sym (best_divider_lem p n))

  -- no second plan is nearest
  pub only : (p q : Plan) → Nearest f rate 255 p → Nearest f rate 255 q → p ≡ q
  only p q m n = nearest_is p m ∙ sym (nearest_is q n)

  module _ (real : (j : ℕ) → j ≤ 255 → NotNan (farness f rate j)) where
    pub search_finds : best_up_to f rate 255 ≡ plan_at f rate (best_divider f rate)
    search_finds = nearest_is (best_up_to f rate 255) (search_nearest f rate 255 real)

    pub chosen_nearest : Nearest f rate 255 (plan_at f rate (best_divider f rate))
    chosen_nearest = subst (Nearest f rate 255) search_finds (search_nearest f rate 255 real)
