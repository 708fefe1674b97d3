-- A locked unit stays locked: SRD1 becomes 0C at the end of an ID packet alone, and there, three wrong ones counted, it becomes 04 whatever the packet is.
-- So what a byte makes of it depends on its phase, its registers and its collected bytes alone, and the image stays: what only an open unit takes is dropped.
use Prim.Native.Nat.{ℕ, suc, min}
use native.Mathlib.Omega.{arith}
use mathlib.Core.Bool.{Bool, true, false, cond, false≢true}
use mathlib.Core.Path.{◌≡◌, refl, ap, sym, ◌∙◌, subst⁻¹, subst₂}
use mathlib.Core.List.{List, [], ◌∷◌}
use lib.Dec.{eqb}
use borrow.Author.Tests.{ne_eqb}
use Rattle.packets.proofs.Decisions.{no_number}
use Rattle.unit.specs.declared.Unit.{Unit as Port}
use Rattle.unit.specs.declared.Registers.{Registers}
use Rattle.unit.specs.declared.Settings.{Settings}
use Rattle.unit.specs.declared.State.{State}
use Rattle.unit.specs.declared.Phase.{Phase}
use Rattle.unit.specs.Phases.{Kind, Position, position_of}
use Rattle.unit.specs.Phases.Kind.{page_read, page_program, unit_program, block_erase, all_erase, id_check}
use Rattle.unit.specs.Phases.Position.{sleeping, commanding, within}
use Rattle.unit.specs.Model.{no_bytes, begun, inputs, whole, state, at_command, with_srd1, with_mismatches, phased, longer, ended, is_open}
use Rattle.unit.proofs.Ranged.{Sound, closed_filled}
use Rattle.unit.proofs.Inside.{open_inside}
use Rattle.protocol.specs.Outcome.{Outcome, says}
use Rattle.protocol.specs.Commands.{Command as Meaning, meaning, effect, dropped, commanded}
use Rattle.protocol.specs.Commands.Command.{begin, clear, status, version, time, unknown, rate}
use Rattle.protocol.specs.Endings.{is_right, after_check, finished}
use Rattle.protocol.specs.Step.{wakes, asleep, body, completes, in_packet, step_at, step}
use Rattle.protocol.proofs.Mismatches.{wrong_checked, locked_checked}
use Rattle.protocol.proofs.Cases.{Leaves, Leads, leads, registers_lead}
use Rattle.protocol.proofs.Cases.Leaves.{as_were, srd_set, checks, rate_set}
use Rattle.demands.specs.Locking.{Locked}
use Rattle.demands.specs.Record.{lock_after}
use Rattle.demands.proofs.Calm.{View, Seen, Alike, After, Comes, none, one, then}

-- any ID check gives 04, right or not, and the count stays
check_same : {r : Registers} → Locked r → (blank right : Bool) → blank ≡ false → after_check blank r right ≡ with_srd1 r 0x04
check_same {r} k blank right n = ap (λ (b : Bool). after_check b r right) n ∙ go right
  where
    go : (right : Bool) → after_check false r right ≡ with_srd1 r 0x04
    go true = locked_checked r (omega (arith, k.full))
    go false =
        let e : min lock_after (suc r.mismatches) ≡ r.mismatches = omega (arith, k.full) in
        wrong_checked r ∙ ap (with_mismatches (with_srd1 r 0x04)) e

-- a packet leaves a unit that did not start blank locked, and so does a byte
left_locked : {t : Settings} {r v : Registers} → t.blank ≡ false → Locked r → Leaves t r v → Locked v
left_locked n k as_were = k
left_locked n k (srd_set s h) = record { closed = k.closed; full = k.full }
left_locked n k (rate_set m h) = record { closed = k.closed; full = k.full }
left_locked {t} n k (checks right) =
    subst⁻¹ Locked (check_same k t.blank right n) (record { closed = λ o. omega arith; full = k.full })

leads_locked : {u : Port} {img : List ℕ} {b : ℕ} {o : Outcome} → u.settings.blank ≡ false → Locked u.registers → Leads u img b o → Locked o.unit.registers
leads_locked n k l = registers_lead Locked k (λ r m. left_locked n k m) l

-- an outcome shows what another shows, and leaves the image
record Blind (img : List ℕ) (o o' : Outcome) : Type 0 where
  alike : Alike o o'
  image : o.image ≡ img

blind_cond : {img : List ℕ} {a b a' b' : Outcome} (t : Bool) → Blind img a a' → Blind img b b' → Blind img (cond t a b) (cond t a' b')
blind_cond true p q = p
blind_cond false p q = q

-- two units that differ in their settings alone, neither of which started blank, on any two images
module _ (t t' : Settings) (n : t.blank ≡ false) (n' : t'.blank ≡ false) (img img' : List ℕ) where
  -- the settings and the image show in nothing else
  unsettled : (s : State) (got said : List ℕ) → Blind img (says (whole s t got) img said) (says (whole s t' got) img' said)
  unsettled s got said = record { alike = record { reply = refl; phase = refl; registers = refl; collected = refl }; image = refl }

  module _ (f : Phase) (r : Registers) (got : List ℕ) (k : Locked r) (b : ℕ) where
    abbrev u : Port
    u = whole (state f r) t got

    abbrev u' : Port
    u' = whole (state f r) t' got

    effects : (c : Meaning) → Blind img (effect c u img b) (effect c u' img' b)
    unfolding effect phased ended
    effects (begin q) = unsettled _ got []
    effects clear = unsettled _ no_bytes []
    effects status = unsettled _ no_bytes _
    effects version = unsettled _ no_bytes _
    effects (rate m) = unsettled _ no_bytes _
    effects time = unsettled _ no_bytes []
    effects unknown = unsettled _ got []

    -- the end of an ID packet
    check_blind : (xs : List ℕ) → Blind img (finished id_check u img xs) (finished id_check u' img' xs)
    unfolding finished ended
    check_blind xs =
        subst₂ (λ (x x' : Registers). Blind img (says (whole (at_command x) t no_bytes) img []) (says (whole (at_command x') t' no_bytes) img' []))
        (sym (check_same k t.blank (is_right img xs) n)) (sym (check_same k t'.blank (is_right img' xs) n')) (unsettled (at_command (with_srd1 r 0x04)) no_bytes [])

    blind_at : (p : Position) → ((q : Kind) (m : ℕ) → p ≡ within q m → q ≡ id_check) → Blind img (step_at p u img b) (step_at p u' img' b)
    unfolding step_at asleep commanded dropped in_packet completes body phased longer
    blind_at (sleeping m) only =
        blind_cond (eqb b 0x00) (unsettled _ got []) (blind_cond (wakes m b) (unsettled _ got _) (unsettled _ got []))
    blind_at commanding only = blind_cond (dropped (meaning b) u) (unsettled _ got []) (effects (meaning b))
    blind_at (within q m) only =
        subst⁻¹ (λ (q : Kind). Blind img (in_packet q m u img b) (in_packet q m u' img' b)) (only q m refl)
        (blind_cond (completes id_check m u b) (check_blind (body m u b)) (unsettled _ _ []))

    blind_step : ((q : Kind) (m : ℕ) → position_of f ≡ within q m → q ≡ id_check) → Blind img (step u img b) (step u' img' b)
    unfolding step
    blind_step only = blind_at (position_of f) only

-- a view of a locked unit, and a unit with that view
abbrev pub LockedView : View → Type 0
LockedView v = Locked v.registers

abbrev sample : View → Port
sample v = whole (state v.phase v.registers) (begun false (inputs 0)).settings v.collected

abbrev pub view_of : Port → View
view_of u = record { phase = u.phase; registers = u.registers; collected = u.collected }

after_blind : {img : List ℕ} {o o' : Outcome} → Blind img o o' → After img (view_of o'.unit) o'.reply o
after_blind b =
    record {
      image = b.image;
      reply = b.alike.reply;
      seen = record { phase = b.alike.phase; registers = b.alike.registers; collected = b.alike.collected };
    }

-- a locked unit in range did not start blank, and is inside no packet but an ID check
module _ {u : Port} (s : Sound u) (k : Locked u.registers) where
  locked_closed : is_open u.registers ≡ false
  unfolding is_open
  locked_closed = ne_eqb u.registers.srd1 0x0C k.closed

  pub locked_filled : u.settings.blank ≡ false
  locked_filled = closed_filled u.settings u.registers s.settings locked_closed

  locked_inside : (q : Kind) (m : ℕ) → position_of u.phase ≡ within q m → q ≡ id_check
  locked_inside q m e = go q refl
    where
      not_other : (q ≡ id_check → ⊥) → q ≡ id_check
      not_other f = absurd (false≢true (sym locked_closed ∙ open_inside s e f))

      go : (k : Kind) → q ≡ k → q ≡ id_check
      go page_read h = not_other (λ z. no_number (cc))
      go page_program h = not_other (λ z. no_number (cc))
      go unit_program h = not_other (λ z. no_number (cc))
      go block_erase h = not_other (λ z. no_number (cc))
      go all_erase h = not_other (λ z. no_number (cc))
      go id_check h = h

module _ {i : List ℕ} where
  locked_byte : {v : View} → LockedView v → (b : ℕ) → Comes i v LockedView (b ∷ [])
  unfolding begun
  locked_byte {v} k b =
      let o : Outcome = step (sample v) [] b in
      one (view_of o.unit) o.reply (leads_locked refl k (leads (sample v) [] b)) k.closed
      (λ u img size sound seen.
      let w : Locked u.registers = subst⁻¹ Locked seen.registers k in
      after_blind (subst⁻¹ (λ (x : Port). Blind img (step x img b) o) (seen_is seen)
      (blind_step u.settings _ (locked_filled sound w) refl img [] v.phase v.registers v.collected k b
      (λ q m e. locked_inside sound w q m (ap position_of seen.phase ∙ e)))))
    where
      seen_is : {u : Port} → Seen v u → u ≡ whole (state v.phase v.registers) u.settings v.collected
      seen_is s = rw (sym s.phase, sym s.registers, sym s.collected)

  -- bytes leave it locked, and lead to one view and one reply
  pub locked_bytes : {v : View} → LockedView v → (bs : List ℕ) → Comes i v LockedView bs
  locked_bytes k [] = none k
  locked_bytes k (b ∷ bs) = then (locked_byte k b) (λ w l. locked_bytes l bs)
