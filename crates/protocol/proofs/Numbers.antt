-- A result has no other with its number and values: each refusal has a number of its own and none has 0, and a success is told by its fields.
use native.Mathlib.Omega.{arith}
use mathlib.Core.Bool.{cond}
use mathlib.Core.Path.{◌≡◌, refl, ap, ap₂, sym, ◌∙◌}
use Prim.Native.Nat.{ℕ}
use lib.Dec.{eqb}
use Rattle.std.specs.Prelude.{Result, Ok, Err}
use Rattle.unit.specs.declared.Unit.{Unit as Port}
use Rattle.protocol.specs.declared.Answer.{Answer}
use Rattle.protocol.specs.declared.Refused.{Refused}
use Rattle.protocol.specs.declared.Refusal.{Refusal}
use Rattle.protocol.specs.declared.Refusal.TheVariants.{Image, Protection, Area, Unit}
use Rattle.protocol.specs.declared.Started.{Started}
use Rattle.protocol.specs.declared.Numbered.{Numbered}
use Rattle.protocol.specs.Calls.{number_of, started, numbered}

-- the refusal of a number
refusal_with : ℕ → Refusal
refusal_with n = cond (eqb n 1) Image (cond (eqb n 2) Protection (cond (eqb n 3) Area Unit))

number_tells : (e : Refusal) → refusal_with (number_of e) ≡ e
unfolding refusal_with
number_tells Image = refl
number_tells Protection = refl
number_tells Area = refl
number_tells Unit = refl

same_refusal : (e f : Refusal) → number_of e ≡ number_of f → e ≡ f
same_refusal e f p = sym (number_tells e) ∙ (ap refusal_with p ∙ number_tells f)

pub not_none : (e : Refusal) → 0 ≡ number_of e → ⊥
not_none Image p = omega arith
not_none Protection p = omega arith
not_none Area p = omega arith
not_none Unit p = omega arith

same_refused : (e f : Refused) → number_of e.refusal ≡ number_of f.refusal → e.unit ≡ f.unit → e ≡ f
same_refused e f p q = ap₂ (λ (r : Refusal) (u : Port). record { refusal = r; unit = u }) (same_refusal e.refusal f.refusal p) q

pub started_alone : (x y : Result Port Refused) → started x ≡ started y → x ≡ y
started_alone (Ok u) (Ok v) p = ap (λ (s : Started). Ok s.unit) p
started_alone (Ok u) (Err f) p = absurd (not_none f.refusal (ap (λ (s : Started). s.refusal) p))
started_alone (Err e) (Ok v) p = absurd (not_none e.refusal (ap (λ (s : Started). s.refusal) (sym p)))
started_alone (Err e) (Err f) p = ap Err (same_refused e f (ap (λ (s : Started). s.refusal) p) (ap (λ (s : Started). s.unit) p))

pub numbered_alone : (x y : Result Answer Refused) → numbered x ≡ numbered y → x ≡ y
numbered_alone (Ok a) (Ok b) p = ap (λ (n : Numbered). Ok (record { unit = n.unit; taken = n.taken; reply_len = n.reply_len })) p
numbered_alone (Ok a) (Err f) p = absurd (not_none f.refusal (ap (λ (n : Numbered). n.refusal) p))
numbered_alone (Err e) (Ok b) p = absurd (not_none e.refusal (ap (λ (n : Numbered). n.refusal) (sym p)))
numbered_alone (Err e) (Err f) p = ap Err (same_refused e f (ap (λ (n : Numbered). n.refusal) p) (ap (λ (n : Numbered). n.unit) p))
