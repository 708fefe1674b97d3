-- The calls refuse exactly where document 01's table says so: the tests are made in the table's order, so each number has its reason and each reason its number.
use Prim.Native.Nat.{ℕ, ◌≤◌}
use native.Mathlib.Omega.{arith}
use mathlib.Core.Bool.{Bool, true, false, cond, not}
use mathlib.Core.Path.{◌≡◌, refl, sym, ◌∙◌}
use mathlib.Core.List.{List}
use lib.ListN.{length}
use lib.Dec.{ltb, eqb}
use borrow.Author.Tests.{eqb-true, eqb-false, ne_eqb, ltb-true, ltb-false, lt-ltb, le-ltb}
use Rattle.flash.specs.Blocks.{part, sized}
use Rattle.slices.proofs.Lists.{cond_elim}
use Rattle.flash.proofs.Outcomes.{true_sized, not_sized}
use Rattle.unit.specs.declared.Unit.{Unit as Port}
use Rattle.unit.specs.declared.Inputs.{Inputs}
use Rattle.unit.specs.Model.{fresh, idle}
use Rattle.unit.specs.Range.{in_range}
use Rattle.protocol.specs.Step.{step}
use Rattle.protocol.specs.declared.Started.{Started}
use Rattle.protocol.specs.Calls.{start_refusal, start_call, refusal, Left, refused, answered, byte_call, walked, run_call}
use Rattle.protocol.proofs.Reasons.{StartReason, Reason}
use Rattle.protocol.proofs.Reasons.StartReason.{fine as start_fine, image as start_image, protection}
use Rattle.protocol.proofs.Reasons.Reason.{fine, image, room, range}

-- a call's answer has the number that was found
number : {A : Type 0} (f : A → ℕ) (n : ℕ) (x y : A) → f x ≡ 0 → f y ≡ n → f (cond (eqb n 0) x y) ≡ n
number f n x y p q = cond_elim (λ a. f a ≡ n) (eqb n 0) x y (λ e. p ∙ sym (eqb-true n 0 e)) (λ e. q)

-- a start
module _ (img : List ℕ) (inputs : Inputs) where
  pub start_reason : StartReason img inputs (start_refusal img inputs)
  unfolding start_refusal sized
  start_reason = go (eqb (length img) 20480) refl (ltb 15 inputs.protection) refl
    where
      go : (s : Bool) → eqb (length img) 20480 ≡ s → (p : Bool) → ltb 15 inputs.protection ≡ p → StartReason img inputs (cond (not s) 1 (cond p 2 0))
      go false s p t = start_image (eqb-false (length img) 20480 s)
      go true s true t = protection (eqb-true (length img) 20480 s) (ltb-true 15 inputs.protection t)
      go true s false t = start_fine (eqb-true (length img) 20480 s) (ltb-false 15 inputs.protection t)

  pub start_exactly : {n : ℕ} → StartReason img inputs n → start_refusal img inputs ≡ n
  unfolding start_refusal
  start_exactly (start_fine s h) = rw (true_sized part img s, le-ltb 15 inputs.protection h)
  start_exactly (start_image s) = rw (not_sized part img s)
  start_exactly (protection s h) = rw (true_sized part img s, lt-ltb 15 inputs.protection h)

  pub start_number : (start_call img inputs).refusal ≡ start_refusal img inputs
  unfolding start_call
  start_number = number (λ (r : Started). r.refusal) (start_refusal img inputs) _ _ refl refl

  pub start_done : start_refusal img inputs ≡ 0 → start_call img inputs ≡ record { refusal = 0; unit = fresh img inputs }
  unfolding start_call
  start_done e = rw e

  pub start_refused : (start_refusal img inputs ≡ 0 → ⊥) → start_call img inputs ≡ record { refusal = start_refusal img inputs; unit = idle }
  unfolding start_call
  start_refused e = rw (ne_eqb (start_refusal img inputs) 0 e)

-- a byte or a run
module _ (u : Port) (img area : List ℕ) where
  pub reason : Reason u img area (refusal u img area)
  unfolding refusal sized
  reason = go (eqb (length img) 20480) refl (ltb (length area) 256) refl (in_range u) refl
    where
      go : (s : Bool) → eqb (length img) 20480 ≡ s → (a : Bool) → ltb (length area) 256 ≡ a → (r : Bool) → in_range u ≡ r → Reason u img area (cond (not s) 1 (cond a 3 (cond (not r) 4 0)))
      go false s a t r e = image (eqb-false (length img) 20480 s)
      go true s true t r e = room (eqb-true (length img) 20480 s) (ltb-true (length area) 256 t)
      go true s false t false e = range (eqb-true (length img) 20480 s) (ltb-false (length area) 256 t) e
      go true s false t true e = fine (eqb-true (length img) 20480 s) (ltb-false (length area) 256 t) e

  pub exactly : {n : ℕ} → Reason u img area n → refusal u img area ≡ n
  unfolding refusal
  exactly (fine s h e) = rw (true_sized part img s, le-ltb (length area) 256 h, e)
  exactly (image s) = rw (not_sized part img s)
  exactly (room s h) = rw (true_sized part img s, lt-ltb (length area) 256 h)
  exactly (range s h e) = rw (true_sized part img s, le-ltb (length area) 256 h, e)

  pub not_refused : refusal u img area ≡ 0 → (length img ≡ 20480) × (256 ≤ length area) × (in_range u ≡ true)
  not_refused = go reason
    where
      go : {n : ℕ} → Reason u img area n → n ≡ 0 → (length img ≡ 20480) × (256 ≤ length area) × (in_range u ≡ true)
      go (fine s h r) e = (s, h, r)
      go (image s) e = absurd (omega arith)
      go (room s h) e = absurd (omega arith)
      go (range s h r) e = absurd (omega arith)

  pub all_right : length img ≡ 20480 → 256 ≤ length area → in_range u ≡ true → refusal u img area ≡ 0
  all_right s h e = exactly (fine s h e)

  pub byte_number : (b : ℕ) → (byte_call u img area b).answer.refusal ≡ refusal u img area
  unfolding byte_call
  byte_number b = number (λ (l : Left). l.answer.refusal) (refusal u img area) _ _ refl refl

  pub run_number : (bytes : List ℕ) → (run_call u img bytes area).answer.refusal ≡ refusal u img area
  unfolding run_call
  run_number bytes = number (λ (l : Left). l.answer.refusal) (refusal u img area) _ _ refl refl

  pub byte_done : (b : ℕ) → refusal u img area ≡ 0 → byte_call u img area b ≡ answered (step u img b) 1 area
  unfolding byte_call
  byte_done b e = rw e

  pub byte_refused : (b : ℕ) → (refusal u img area ≡ 0 → ⊥) → byte_call u img area b ≡ refused (refusal u img area) u img area
  unfolding byte_call
  byte_refused b e = rw (ne_eqb (refusal u img area) 0 e)

  pub run_done : (bytes : List ℕ) → refusal u img area ≡ 0 → let w = walked (length area) u img bytes in run_call u img bytes area ≡ answered w.outcome w.taken area
  unfolding run_call
  run_done bytes e = rw e

  pub run_refused : (bytes : List ℕ) → (refusal u img area ≡ 0 → ⊥) → run_call u img bytes area ≡ refused (refusal u img area) u img area
  unfolding run_call
  run_refused bytes e = rw (ne_eqb (refusal u img area) 0 e)
