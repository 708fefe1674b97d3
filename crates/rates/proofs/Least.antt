-- The search finds a nearest plan: what is best up to k stays so at k + 1, or gives way to a plan that is nearer than all before it.
use mathlib.Core.Path.{◌≡◌, refl, sym, ap, subst}
use mathlib.Core.Bool.{Bool, true, false, cond}
use Prim.Native.Nat.{ℕ, zero, suc, ◌≤◌, ◌<◌}
use native.Mathlib.Omega.{arith}
use borrow.Author.Tests.{leb-true, leb-false}
use lib.Dec.{leb, lit≤}
use lib.Ieee.{Float, lt, le}
use lib.Ieee.Bits.{is_true}
use Rattle.std.specs.Float.{NotNan}
use Rattle.std.proofs.lemmas.Float.{le_refl, le_of_lt, lt_of_lt_of_le, le_of_not-lt, T_from_true, T_from_false}
use Rattle.rates.specs.declared.Plan.{Plan}
use Rattle.rates.specs.Rates.{plan_at, farness}
use Rattle.rates.specs.Search.{nearer, best_up_to}
use Rattle.rates.specs.Nearest.{Nearest}

-- what holds up to k and at k + 1 holds up to k + 1
pub up_to : (P : ℕ → Type 0) (k : ℕ) → ((j : ℕ) → j ≤ k → P j) → P (suc k) → (j : ℕ) → j ≤ suc k → P j
up_to P k f l j h = go (leb j k) refl
  where
    go : (b : Bool) → leb j k ≡ b → P j
    go true e = f j (leb-true j k e)
    go false e =
        let g : k < j = leb-false j k e in
        let s : suc k ≡ j = omega arith in
        subst P s l

module _ (f : Float) (rate : ℕ) where
  own_divider : (k : ℕ) → (plan_at f rate k).divider ≡ k
  unfolding plan_at
  own_divider k = refl

  -- the plan with the divider k is nearest up to k where it is nearer than each before it
  newest : (k : ℕ) → NotNan (farness f rate k) → ((j : ℕ) → j < k → lt (farness f rate k) (farness f rate j) ≡ true) → Nearest f rate k (plan_at f rate k)
  newest k r h =
      record {
        own = ap (plan_at f rate) (sym (own_divider k));
        divides = subst (λ (d : ℕ). d ≤ k) (sym (own_divider k)) (omega arith);
        least = λ j i. at_most j (leb k j) refl i;
        smallest = λ j i. let e : (plan_at f rate k).divider ≡ k = own_divider k in h j (omega arith);
      }
    where
      at_most : (j : ℕ) (b : Bool) → leb k j ≡ b → j ≤ k → le (farness f rate k) (farness f rate j) ≡ true
      at_most j true e i =
          let g : k ≤ j = leb-true k j e in
          let s : k ≡ j = omega arith in
          subst (λ (j : ℕ). le (farness f rate k) (farness f rate j) ≡ true) s (is_true _ (le_refl (farness f rate k) r))
      at_most j false e i =
          is_true _ (le_of_lt (farness f rate k) (farness f rate j) (T_from_true _ (h j (leb-false k j e))))

  step : (k : ℕ) (p : Plan) → NotNan p.distance → NotNan (farness f rate (suc k)) → Nearest f rate k p → Nearest f rate (suc k) (nearer p (plan_at f rate (suc k)))
  unfolding nearer
  step k p s r n = go (lt (farness f rate (suc k)) p.distance) refl
    where
      go : (b : Bool) → lt (farness f rate (suc k)) p.distance ≡ b → Nearest f rate (suc k) (cond b (plan_at f rate (suc k)) p)
      go true e = newest (suc k) r (λ j h. is_true _ (lt_of_lt_of_le _ p.distance _ (T_from_true _ e) (T_from_true _ (n.least j (omega arith)))))
      go false e =
          record {
            own = n.own;
            divides = let h : p.divider ≤ k = n.divides in omega arith;
            least = up_to (λ (j : ℕ). le p.distance (farness f rate j) ≡ true) k n.least (is_true _ (le_of_not-lt (farness f rate (suc k)) p.distance r s (T_from_false _ e)));
            smallest = n.smallest;
          }

  pub search_nearest : (k : ℕ) → ((j : ℕ) → j ≤ k → NotNan (farness f rate j)) → Nearest f rate k (best_up_to f rate k)
  unfolding best_up_to
  search_nearest zero real = newest zero (real zero (lit≤ tt)) (λ j h. absurd (omega arith))
  search_nearest (suc k) real =
      let n = search_nearest k (λ j h. real j (omega arith)) in
      let d : (best_up_to f rate k).divider ≤ k = n.divides in
      step k (best_up_to f rate k) (subst (λ (p : Plan). NotNan p.distance) (sym n.own) (real (best_up_to f rate k).divider (omega arith))) (real (suc k) (omega arith)) n
