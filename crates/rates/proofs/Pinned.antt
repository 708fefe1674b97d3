-- "Show that no second outcome satisfies the same statement": each clause is an equation with all that the call leaves. That of a plan is read in numbers,
-- as `Planned::of` makes them, and no two answers read alike: a plan stands in its record whole, and a refusal's number tells it from a plan and from the other refusal.
use mathlib.Core.Path.{◌≡◌, refl, sym, ap, ◌∙◌}
use Prim.Native.Nat.{ℕ}
use Rattle.std.proofs.Common.{Result, Ok, Err, arith}
use Rattle.rates.specs.declared.Clock.{Clock}
use Rattle.rates.specs.declared.Plan.{Plan}
use Rattle.rates.specs.declared.Refusal.{Refusal}
use Rattle.rates.specs.declared.Refusal.TheVariants as refusal
use Rattle.rates.specs.declared.Planned.{Planned}
use Rattle.rates.specs.Plans.{number, numbered, planned}

same_refusal : (d e : Refusal) → number d ≡ number e → d ≡ e
same_refusal refusal.Clock refusal.Clock i = refl
same_refusal refusal.Clock refusal.Rate i = absurd (omega arith)
same_refusal refusal.Rate refusal.Clock i = absurd (omega arith)
same_refusal refusal.Rate refusal.Rate i = refl

not_made : (e : Refusal) → 0 ≡ number e → ⊥
not_made refusal.Clock i = omega arith
not_made refusal.Rate i = omega arith

pub same_numbered : (x y : Result Plan Refusal) → numbered x ≡ numbered y → x ≡ y
same_numbered (Ok p) (Ok q) i = ap (λ (a : Planned). Ok a.plan) i
same_numbered (Ok p) (Err e) i = absurd (not_made e (ap (λ (a : Planned). a.refusal) i))
same_numbered (Err e) (Ok p) i = absurd (not_made e (sym (ap (λ (a : Planned). a.refusal) i)))
same_numbered (Err d) (Err e) i = ap Err (same_refusal d e (ap (λ (a : Planned). a.refusal) i))

pub rates_plan_for_pinned : (c : Clock) (rate : ℕ) (x y : Result Plan Refusal) → numbered x ≡ planned c rate → numbered y ≡ planned c rate → x ≡ y
rates_plan_for_pinned c rate x y p q = same_numbered x y (p ∙ sym q)

-- the numbers themselves
pub rates_planned_pinned : (c : Clock) (rate : ℕ) (x y : Planned) → x ≡ planned c rate → y ≡ planned c rate → x ≡ y
rates_planned_pinned c rate x y p q = p ∙ sym q

pub rates_planned_of_pinned : (answered : Result Plan Refusal) (x y : Planned) → x ≡ numbered answered → y ≡ numbered answered → x ≡ y
rates_planned_of_pinned answered x y p q = p ∙ sym q

pub rates_refusal_number_pinned : (e : Refusal) (x y : ℕ) → x ≡ number e → y ≡ number e → x ≡ y
rates_refusal_number_pinned e x y p q = p ∙ sym q
