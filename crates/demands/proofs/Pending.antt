-- A packet in progress began at a command position, and what was taken since is its command byte and the collected bytes: a step enters a packet only at its command byte, and goes on only by storing a byte.
use Prim.Native.Nat.{ℕ, zero, suc, ◌+◌, ◌≤◌, ◌<◌}
use native.Mathlib.Omega.{arith}
use mathlib.Core.Path.{◌≡◌, refl, ap, sym, ◌∙◌, subst, subst⁻¹}
use mathlib.Core.List.{List, [], ◌∷◌, ◌++◌}
use lib.ListN.{length, get_or, take, drop, length-drop}
use lib.Seq.{take-suc, drop-cons, get_or-drop, take-suc-set}
use lib.Dec.{eqb}
use borrow.Author.Tests.{eqb-true}
use Rattle.slices.specs.Lists.{Each}
use Rattle.slices.proofs.Lists.{cond_elim}
use Rattle.unit.specs.declared.Unit.{Unit as Port}
use Rattle.unit.specs.declared.Phase.{Phase}
use Rattle.unit.specs.declared.Phase.TheVariants.{Asleep, Awake}
use Rattle.unit.specs.declared.Place.TheVariants.{Command as AtCommand}
use Rattle.unit.specs.Phases.{Kind, command_of, need, inside, Position, position_of}
use Rattle.unit.specs.Phases.Position.{sleeping, commanding, within}
use Rattle.unit.specs.Model.{phased, longer}
use Rattle.unit.proofs.Positions.{position_inside, phase_commanding}
use Rattle.unit.proofs.Ranged.{Sound}
use Rattle.unit.proofs.Builders.{phased_phase, phased_registers, ended_phase}
use Rattle.unit.proofs.Inside.{longer_phase, longer_registers, longer_collected, few_collected}
use Rattle.protocol.specs.Outcome.{Outcome}
use Rattle.protocol.specs.Commands.{Command as Meaning, commands, lookup, meaning, effect, dropped, commanded}
use Rattle.protocol.specs.Commands.Command.{begin, clear, status, version, time, unknown, rate}
use Rattle.protocol.specs.Step.{wakes, asleep, body, completes, in_packet, step_at, step}
use Rattle.protocol.proofs.Cases.{Ending, packet_ends}
use Rattle.protocol.proofs.Cases.Ending.{says_and_ends, writes_and_ends}
use Rattle.demands.specs.Histories.{Entry, unit_after, image_after, taken, At}
use Rattle.demands.proofs.Traces.{Stepped, at_under, at_position, taken_long, byte_taken, unit_next, entry_steps, sound_after}

-- a byte that begins a packet is that packet's command byte
first_byte : Meaning → ℕ → ℕ
first_byte (begin k) b = command_of k
first_byte clear b = b
first_byte status b = b
first_byte version b = b
first_byte time b = b
first_byte unknown b = b
first_byte (rate n) b = b

looked_up : (b : ℕ) (rs : List (ℕ × Meaning)) → Each (λ (r : ℕ × Meaning). first_byte r.1 r.0 ≡ r.0) rs → first_byte (lookup b rs) b ≡ b
unfolding first_byte
looked_up b [] y = refl
looked_up b (r ∷ rs) y =
    cond_elim (λ (c : Meaning). first_byte c b ≡ b) (eqb b r.0) r.1 (lookup b rs)
    (λ t. subst⁻¹ (λ (x : ℕ). first_byte r.1 x ≡ x) (eqb-true b r.0 t) y.0)
    (λ t. looked_up b rs y.1)

begins_by : (b : ℕ) (k : Kind) → meaning b ≡ begin k → b ≡ command_of k
unfolding meaning commands command_of first_byte
begins_by b k e =
    sym (looked_up b commands (refl, (refl, (refl, (refl, (refl, (refl, (refl, (refl, (refl, (refl, (refl, (refl, (refl, (refl, (refl, tt))))))))))))))))
    ∙ ap (λ (c : Meaning). first_byte c b) e

-- how a byte can lead inside a packet: it is the packet's first, or one more
data Enters (u : Port) (b : ℕ) (o : Outcome) : Type 0 where
  elsewhere : ((k : Kind) (n : ℕ) → position_of o.unit.phase ≡ within k n → ⊥) → Enters u b o
  first : (k : Kind) → u.phase ≡ Awake AtCommand → b ≡ command_of k → o.unit ≡ phased u (Awake (inside k 0)) → Enters u b o
  further : (k : Kind) (n : ℕ) → position_of u.phase ≡ within k n → o.unit ≡ longer u k n b → Enters u b o

no_number : ◌≡◌ {A = ℕ} 0 1 → ⊥
no_number e = omega arith

pub not_asleep : {f : Phase} {m : ℕ} → f ≡ Asleep m → (k : Kind) (n : ℕ) → position_of f ≡ within k n → ⊥
not_asleep e k n q = let z = sym (ap position_of e) ∙ q in no_number (cc)

not_command : {f : Phase} → f ≡ Awake AtCommand → (k : Kind) (n : ℕ) → position_of f ≡ within k n → ⊥
not_command e k n q = let z = sym (ap position_of e) ∙ q in no_number (cc)

module _ (u : Port) (img : List ℕ) (b : ℕ) where
  ending_enters : {o : Outcome} → Ending u img b o → Enters u b o
  ending_enters (says_and_ends r said l h) = elsewhere (not_command (ended_phase u r))
  ending_enters (writes_and_ends v new h d) = elsewhere (not_command (ended_phase u _))

  effect_enters : u.phase ≡ Awake AtCommand → (c : Meaning) → meaning b ≡ c → Enters u b (effect c u img b)
  unfolding effect
  effect_enters q (begin k) e = first k q (begins_by b k e) refl
  effect_enters q clear e = elsewhere (not_command (ended_phase u _))
  effect_enters q status e = elsewhere (not_command (ended_phase u _))
  effect_enters q version e = elsewhere (not_command (ended_phase u _))
  effect_enters q (rate n) e = elsewhere (not_command (ended_phase u _))
  effect_enters q time e = elsewhere (not_command (ended_phase u _))
  effect_enters q unknown e = elsewhere (not_command q)

  enters_at : (p : Position) → position_of u.phase ≡ p → Enters u b (step_at p u img b)
  unfolding step_at asleep commanded in_packet completes
  enters_at (sleeping n) e =
      cond_elim (Enters u b) (eqb b 0x00) _ _ (λ t. elsewhere (not_asleep (phased_phase u _)))
      (λ t. cond_elim (Enters u b) (wakes n b) _ _ (λ s. elsewhere (not_command (phased_phase u _))) (λ s. elsewhere (not_asleep (phased_phase u _))))
  enters_at commanding e =
      cond_elim (Enters u b) (dropped (meaning b) u) _ _ (λ t. elsewhere (not_command (phase_commanding u.phase e)))
      (λ t. effect_enters (phase_commanding u.phase e) (meaning b) refl)
  enters_at (within k n) e =
      cond_elim (Enters u b) (completes k n u b) _ _
      (λ t. ending_enters (packet_ends u img b k n e (eqb-true (suc n) (need k (body n u b)) t)))
      (λ t. further k n e refl)

  enters : Enters u b (step u img b)
  unfolding step
  enters = enters_at (position_of u.phase) refl

-- after k bytes the unit is inside a packet, n bytes after its command: that was taken at a command position
pub record Pending (u : Port) (es : List Entry) (k : ℕ) (q : Kind) (n : ℕ) : Type 0 where
  pub from : ℕ
  pub long : from + suc n ≡ k
  pub at_a_command : (unit_after u es from).phase ≡ Awake AtCommand
  pub registers : (unit_after u es k).registers ≡ (unit_after u es from).registers
  pub bytes : take (suc n) (drop from (taken es)) ≡ command_of q ∷ take n (unit_after u es k).collected

-- and with the next byte
pub pending_next : {u : Port} {es : List Entry} {k : ℕ} {q : Kind} {n : ℕ} {e : Entry} (p : Pending u es k q n) → At es k e
    → take (suc (suc n)) (drop p.from (taken es)) ≡ command_of q ∷ (take n (unit_after u es k).collected ++ e.byte ∷ [])
pending_next {u} {es} {k} {q} {n} {e} p a =
    let l : List ℕ = drop p.from (taken es) in
    let h : suc n < length l = omega (arith, length-drop p.from (taken es), taken_long es, at_under a, p.long) in
    let b : get_or l (suc n) 0 ≡ e.byte = get_or-drop p.from (taken es) (suc n) 0 ∙ (ap (λ (i : ℕ). get_or (taken es) i 0) p.long ∙ byte_taken a) in
    take-suc l (suc n) 0 h
    ∙ (ap (λ (x : ℕ). take (suc n) l ++ x ∷ []) b ∙ ap (λ (xs : List ℕ). xs ++ e.byte ∷ []) p.bytes)

module _ {u : Port} {img : List ℕ} {es : List Entry} (t : Stepped u img es) (s : Sound u) where
  -- a packet's first byte
  starts : {k : ℕ} {e : Entry} → At es k e → (q : Kind) → (unit_after u es k).phase ≡ Awake AtCommand → e.byte ≡ command_of q
      → unit_after u es (suc k) ≡ phased (unit_after u es k) (Awake (inside q 0)) → Pending u es (suc k) q 0
  starts {k} {e} a q c b v =
      let h : k < length (taken es) = omega (arith, taken_long es, at_under a) in
      record {
        from = k;
        long = omega arith;
        at_a_command = c;
        registers = ap (λ (x : Port). x.registers) v ∙ phased_registers (unit_after u es k) (Awake (inside q 0));
        bytes = ap (take 1) (drop-cons (taken es) k 0 h) ∙ ap (λ (x : ℕ). x ∷ []) (byte_taken a ∙ b);
      }

  -- one byte more
  goes_on : {k : ℕ} {e : Entry} → At es k e → (q : Kind) (n : ℕ) → position_of (unit_after u es k).phase ≡ within q n → Pending u es k q n
      → unit_after u es (suc k) ≡ longer (unit_after u es k) q n e.byte → Pending u es (suc k) q (suc n)
  goes_on {k} {e} a q n f p v =
      let x : Port = unit_after u es k in
      let sx : Sound x = sound_after s t k in
      let h : n < length x.collected = omega (arith, sx.room, few_collected sx f) in
      record {
        from = p.from;
        long = omega (arith, p.long);
        at_a_command = p.at_a_command;
        registers = ap (λ (y : Port). y.registers) v ∙ (longer_registers x q n e.byte ∙ p.registers);
        bytes =
            pending_next p a
            ∙ ap (λ (xs : List ℕ). command_of q ∷ xs)
            (sym (take-suc-set x.collected n e.byte h)
            ∙ ap (take (suc n)) (sym (ap (λ (y : Port). y.collected) v ∙ longer_collected x q n e.byte)));
      }

  same_place : {q r : Kind} {m n : ℕ} {k : ℕ} → within q m ≡ within r n → Pending u es k q m → Pending u es k r n
  same_place {q} {r} {m} {n} {k} e p =
      let x : q ≡ r = cc in
      let y : m ≡ n = cc in
      subst (λ (z : Kind). Pending u es k z n) x (subst (Pending u es k q) y p)

  pub pending : ((q : Kind) (n : ℕ) → position_of u.phase ≡ within q n → ⊥) → (k : ℕ) → k ≤ length es → (q : Kind) (n : ℕ) → position_of (unit_after u es k).phase ≡ within q n → Pending u es k q n
  pending z zero h q n f = absurd (z q n f)
  pending z (suc k) h q n f =
      let w = at_position es k h in
      let st = entry_steps t w.1 in
      let v : unit_after u es (suc k) ≡ (step (unit_after u es k) (image_after img es k) w.0.byte).unit =
      unit_next u w.1 ∙ ap (λ (o : Outcome). o.unit) (sym st.leads) in
      go w.0 w.1 v (enters (unit_after u es k) (image_after img es k) w.0.byte) (λ r m g. pending z k (omega arith) r m g)
    where
      go : (e : Entry) → At es k e → {o : Outcome} → unit_after u es (suc k) ≡ o.unit → Enters (unit_after u es k) e.byte o
          → ((r : Kind) (m : ℕ) → position_of (unit_after u es k).phase ≡ within r m → Pending u es k r m) → Pending u es (suc k) q n
      go e a v (elsewhere never) ih = absurd (never q n (ap (λ (x : Port). position_of x.phase) (sym v) ∙ f))
      go e a v (first r c b o) ih =
          let i : within r 0 ≡ within q n = sym (position_inside r 0) ∙ (ap position_of (sym (phased_phase (unit_after u es k) (Awake (inside r 0)))) ∙ (ap (λ (x : Port). position_of x.phase) (sym (v ∙ o)) ∙ f)) in
          same_place i (starts a r c b (v ∙ o))
      go e a v (further r m g o) ih =
          let i : within r (suc m) ≡ within q n = sym (position_inside r (suc m)) ∙ (ap position_of (sym (longer_phase (unit_after u es k) r m e.byte)) ∙ (ap (λ (x : Port). position_of x.phase) (sym (v ∙ o)) ∙ f)) in
          same_place i (goes_on a r m g (ih r m g) (v ∙ o))
