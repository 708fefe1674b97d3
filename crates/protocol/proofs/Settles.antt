-- From any awake state at most 259 further bytes bring the unit to a command position: inside a packet each byte ends it or is one more of fewer than 259.
use Prim.Native.Nat.{ℕ, zero, suc, ◌+◌, ◌≤◌}
use native.Mathlib.Omega.{arith}
use mathlib.Core.Bool.{Bool, true, false}
use mathlib.Core.Path.{◌≡◌, refl, ap, ◌∙◌}
use mathlib.Core.List.{List, [], ◌∷◌}
use lib.ListN.{length, take}
use lib.Dec.{eqb}
use borrow.Author.Tests.{eqb-true, eqb-false}
use Rattle.slices.specs.Lists.{Bytes}
use Rattle.unit.specs.declared.Unit.{Unit as Port}
use Rattle.unit.specs.declared.Phase.TheVariants.{Awake}
use Rattle.unit.specs.declared.Place.{Place}
use Rattle.unit.specs.declared.Place.TheVariants.{Command}
use Rattle.unit.specs.Phases.{Kind, need, Position, position_of}
use Rattle.unit.specs.Phases.Position.{sleeping, commanding, within}
use Rattle.unit.specs.Model.{with_srd}
use Rattle.unit.proofs.Positions.{position_inside, phase_commanding, phase_sleeping}
use Rattle.unit.proofs.Ranged.{Sound}
use Rattle.unit.proofs.Builders.{ended_phase}
use Rattle.unit.proofs.Inside.{longer_phase, few_collected}
use Rattle.protocol.specs.Outcome.{Outcome}
use Rattle.protocol.specs.Step.{body, step, run}
use Rattle.protocol.proofs.Steps.{step_inside, packet_last, packet_more}
use Rattle.protocol.proofs.Cases.{Ending, packet_ends}
use Rattle.protocol.proofs.Cases.Ending.{says_and_ends, writes_and_ends}
use Rattle.protocol.proofs.Sound.{sound_step}

-- some of the first m bytes bring the unit to a command position
AtCommand : Port → List ℕ → List ℕ → ℕ → Type 0
AtCommand u img bs m = (j : ℕ) × (j ≤ m) × ((run u img (take j bs)).unit.phase ≡ Awake Command)

ends_at_command : {u : Port} {img : List ℕ} {b : ℕ} {o : Outcome} → Ending u img b o → o.unit.phase ≡ Awake Command
ends_at_command {u} (says_and_ends r said l h) = ended_phase u r
ends_at_command {u} (writes_and_ends s new h d) = ended_phase u (with_srd u.registers s)

-- one byte inside a packet
module _ (u : Port) (img : List ℕ) (b : ℕ) {k : Kind} {n : ℕ} (e : position_of u.phase ≡ within k n) where
  last_byte : suc n ≡ need k (body n u b) → (step u img b).unit.phase ≡ Awake Command
  last_byte h =
      ap (λ (o : Outcome). o.unit.phase) (step_inside u img b e ∙ packet_last k n u img b h) ∙ ends_at_command (packet_ends u img b k n e h)

  other_byte : (suc n ≡ need k (body n u b) → ⊥) → position_of (step u img b).unit.phase ≡ within k (suc n)
  other_byte h =
      ap (λ (o : Outcome). position_of o.unit.phase) (step_inside u img b e ∙ packet_more k n u img b h)
      ∙ (ap position_of (longer_phase u k n b) ∙ position_inside k (suc n))

from_inside : (m : ℕ) {u : Port} → Sound u → {k : Kind} {n : ℕ} → position_of u.phase ≡ within k n → 259 ≤ n + m → (img bs : List ℕ) → m ≤ length bs → Bytes bs → AtCommand u img bs m
unfolding AtCommand
from_inside zero s e h img bs l y = absurd (omega (arith, few_collected s e))
from_inside (suc m) s e h img [] l y = absurd (omega arith)
from_inside (suc m) {u} s {k} {n} e h img (b ∷ bs) l y =
    go (eqb (suc n) (need k (body n u b))) refl
    (λ q. from_inside m (sound_step s img b y.0) q (omega arith) (step u img b).image bs (omega arith) y.1)
  where
    go : (t : Bool) → eqb (suc n) (need k (body n u b)) ≡ t
        → (position_of (step u img b).unit.phase ≡ within k (suc n) → AtCommand (step u img b).unit (step u img b).image bs m) → AtCommand u img (b ∷ bs) (suc m)
    go true t later = (1, omega arith, last_byte u img b e (eqb-true (suc n) (need k (body n u b)) t))
    go false t later =
        let w = later (other_byte u img b e (eqb-false (suc n) (need k (body n u b)) t)) in
        (suc w.0, omega (arith, w.1), w.2)

pub settles : {u : Port} → Sound u → {p : Place} → u.phase ≡ Awake p → (img bs : List ℕ) → 259 ≤ length bs → Bytes bs
    → (j : ℕ) × (j ≤ 259) × ((run u img (take j bs)).unit.phase ≡ Awake Command)
unfolding AtCommand
settles {u} s {p} awake img bs l y = go (position_of u.phase) refl
  where
    go : (q : Position) → position_of u.phase ≡ q → AtCommand u img bs 259
    go (sleeping n) e = let asleep = phase_sleeping u.phase e in let z : ◌≡◌ {A = ℕ} 0 1 = cc in absurd (omega arith)
    go commanding e = (0, omega arith, phase_commanding u.phase e)
    go (within k n) e = from_inside 259 s e (omega arith) img bs l y
