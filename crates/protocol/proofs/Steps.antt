-- A step goes by the unit's position alone, and a run goes on from what its bytes so far have led to: the equations that other laws cite, so that none rewrites a field of a unit.
use Prim.Native.Nat.{ℕ, suc, ◌<◌}
use mathlib.Core.Bool.{Bool, cond}
use mathlib.Core.Path.{◌≡◌, refl, ap, sym, ◌∙◌}
use mathlib.Core.List.{List, [], ◌∷◌, ◌++◌, append-nil, append_assoc}
use lib.ListN.{length, take, set}
use lib.Seq.{take-suc-set}
use borrow.Author.Tests.{eq-eqb, ne_eqb}
use Rattle.unit.specs.declared.Unit.{Unit as Port}
use Rattle.unit.specs.declared.Phase.TheVariants.{Asleep, Awake}
use Rattle.unit.specs.declared.Place.TheVariants.{Command}
use Rattle.unit.specs.Phases.{Kind, need, inside, Position, position_of}
use Rattle.unit.specs.Phases.Position.{within}
use Rattle.unit.specs.Model.{longer}
use Rattle.unit.proofs.Positions.{position_inside}
use Rattle.protocol.specs.Outcome.{Outcome, says, quiet}
use Rattle.protocol.specs.Commands.{meaning, commanded}
use Rattle.protocol.specs.Endings.{finished}
use Rattle.protocol.specs.Step.{asleep, body, completes, in_packet, step_at, step, run}

-- one byte, by the position
module _ (u : Port) (img : List ℕ) (b : ℕ) where
  pub step_at_lem : {p : Position} → position_of u.phase ≡ p → step u img b ≡ step_at p u img b
  unfolding step
  step_at_lem e = ap (λ (p : Position). step_at p u img b) e

  pub step_sleeping : {n : ℕ} → u.phase ≡ Asleep n → step u img b ≡ asleep n u img b
  unfolding step_at
  step_sleeping e = step_at_lem (ap position_of e)

  pub step_commanding : u.phase ≡ Awake Command → step u img b ≡ commanded (meaning b) u img b
  unfolding step_at
  step_commanding e = step_at_lem (ap position_of e)

  pub step_inside : {k : Kind} {n : ℕ} → position_of u.phase ≡ within k n → step u img b ≡ in_packet k n u img b
  unfolding step_at
  step_inside e = step_at_lem e

  pub step_inside_phase : (k : Kind) (n : ℕ) → u.phase ≡ Awake (inside k n) → step u img b ≡ in_packet k n u img b
  step_inside_phase k n e = step_inside (ap position_of e ∙ position_inside k n)

-- inside a packet: its last byte, and any other
module _ (k : Kind) (n : ℕ) (u : Port) (img : List ℕ) (b : ℕ) where
  pub packet_last : suc n ≡ need k (body n u b) → in_packet k n u img b ≡ finished k u img (body n u b)
  unfolding in_packet completes
  packet_last e = ap (λ (t : Bool). cond t (finished k u img (body n u b)) (quiet (longer u k n b) img)) (eq-eqb (suc n) (need k (body n u b)) e)

  pub packet_more : (suc n ≡ need k (body n u b) → ⊥) → in_packet k n u img b ≡ quiet (longer u k n b) img
  unfolding in_packet completes
  packet_more e = ap (λ (t : Bool). cond t (finished k u img (body n u b)) (quiet (longer u k n b) img)) (ne_eqb (suc n) (need k (body n u b)) e)

-- what has followed the command is the front of the collected bytes, once this byte is stored
pub body_stored : (n : ℕ) (u : Port) (b : ℕ) → n < length u.collected → body n u b ≡ take (suc n) (set u.collected n b)
unfolding body
body_stored n u b h = sym (take-suc-set u.collected n b h)

-- what more bytes lead to, after an outcome
abbrev pub onward : Outcome → List ℕ → Outcome
onward o bs = let r = run o.unit o.image bs in says r.unit r.image (o.reply ++ r.reply)

pub onward_none : (o : Outcome) → onward o [] ≡ o
onward_none o = ap (says o.unit o.image) (append-nil o.reply)

pub run_one : (u : Port) (img : List ℕ) (b : ℕ) → run u img (b ∷ []) ≡ step u img b
run_one u img b = onward_none (step u img b)

pub run_append : (u : Port) (img xs ys : List ℕ) → run u img (xs ++ ys) ≡ onward (run u img xs) ys
run_append u img [] ys = refl
run_append u img (x ∷ xs) ys =
    let o : Outcome = step u img x in
    ap (λ (r : Outcome). says r.unit r.image (o.reply ++ r.reply)) (run_append o.unit o.image xs ys)
    ∙ ap (says _ _) (sym (append_assoc o.reply _ _))
