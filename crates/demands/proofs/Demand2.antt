-- The trace of calls on a unit in range is the run of their bytes, so what the specification says of a run, of a packet's row and of a byte that changes the image holds at each position of the trace.
use Prim.Native.Nat.{ℕ, zero, suc, ◌+◌, ◌-◌, ◌≤◌, ◌<◌}
use native.Mathlib.Omega.{arith}
use mathlib.Core.Path.{◌≡◌, refl, ap, sym, ◌∙◌, subst, subst⁻¹}
use mathlib.Core.Logic.{inr}
use mathlib.Core.List.{List, [], ◌∷◌, ◌++◌}
use lib.ListN.{length, get_or, take}
use Rattle.unit.specs.declared.Unit.{Unit as Port}
use Rattle.unit.specs.declared.Registers.{Registers}
use Rattle.unit.specs.Phases.{Kind, command_of, position_of}
use Rattle.unit.specs.Phases.Kind.{id_check}
use Rattle.unit.specs.Phases.Position.{within}
use Rattle.unit.specs.Model.{is_open}
use Rattle.unit.proofs.Positions.{position_inside}
use Rattle.unit.proofs.Ranged.{Sound, in_range_lem}
use Rattle.unit.proofs.Inside.{open_inside}
use Rattle.protocol.specs.Outcome.{Outcome}
use Rattle.protocol.specs.Step.{step, run}
use Rattle.protocol.proofs.Carried.{Carried, Done, Change as Changed}
use Rattle.protocol.proofs.Carried.Carried.{page, bytes, block, all}
use Rattle.protocol.proofs.Carried.Change.{none as no_change, last as last_byte}
use Rattle.protocol.proofs.RowsMay.{bit_set}
use Rattle.protocol.proofs.Protected.{protected_run}
use Rattle.protocol.proofs.Changes.{changes}
use Rattle.demands.specs.Record.{InRange}
use Rattle.demands.specs.Flash.{InBlock, Protected}
use Rattle.demands.specs.Histories.{Call, Entry, Calls, Fit, unit_after, image_after, taken, At, bytes_to}
use Rattle.demands.specs.Changes.{Begins, Carries, Permitted, FullEffect, Change}
use Rattle.demands.specs.Table.{Between}
use Rattle.demands.specs.Changes.Change.{none, last}
use Rattle.demands.proofs.Traces.{at_under, image_next, image_onward}
use Rattle.demands.proofs.Bridge.{stepped, image_is, sound_at, size_at, protection_at, entry_is}
use Rattle.demands.proofs.Records.{open_is, in_range_lem as range_is, block_is, within_inside}
use Rattle.demands.proofs.Effects.{permitted_row, packet_effect, carried_permitted}
use Rattle.demands.proofs.InHistory.{part_way, Completed, completed}

-- a packet that writes is no ID check
writes : {p : ℕ} {img xs new : List ℕ} {k : Kind} → Carried p img xs k new → k ≡ id_check → ⊥
writes (page m) e = let z : ◌≡◌ {A = ℕ} 0 1 = cc in omega arith
writes (bytes m) e = let z : ◌≡◌ {A = ℕ} 0 1 = cc in omega arith
writes (block c m) e = let z : ◌≡◌ {A = ℕ} 0 1 = cc in omega arith
writes (all c) e = let z : ◌≡◌ {A = ℕ} 0 1 = cc in omega arith

module _ {u : Port} {img : List ℕ} {cs : List Call} (f : Fit u img) (c : Calls u img cs) where
  abbrev es : List Entry
  es = c.trace

  abbrev p : ℕ
  p = u.settings.protection

  -- every unit is in range: the first one, and the one after each byte
  pub always_in_range : (k : ℕ) → InRange (unit_after u c.trace k)
  always_in_range k = (range_is (unit_after u es k)).1 (in_range_lem (sound_at f c k))

  -- "no stream changes a protected block"
  pub protected_kept : {i x : ℕ} → Protected u.settings.protection i → InBlock i x → (k : ℕ) → get_or (image_after img c.trace k) x 0 ≡ get_or img x 0
  protected_kept {i} {x} g b k =
      let w = (block_is i x).0 b in
      let s = bit_set u.settings.protection i (subst⁻¹ (λ (q : ℕ). Protected q i) (protection_at f c 0) g) in
      ap (λ (l : List ℕ). get_or l x 0) (image_is f c k) ∙ (protected_run i x w.0 w.1 u s img (take k (taken es))).byte

  -- "Every permitted program or erase takes its full effect at its packet's last byte."
  module _ (j k : ℕ) (after : j ≤ k) (under : k < length c.trace) (b : Begins (unit_after u c.trace j)) (m : Permitted u.settings.protection (bytes_to c.trace j k)) where
    -- i of its bytes but the last have come
    kept : (i : ℕ) → i < suc k - j → image_after img es (j + i) ≡ image_after img es j
    kept zero l = let e : j + 0 ≡ j = omega arith in ap (image_after img es) e
    kept (suc i) l =
        let r = permitted_row m in
        image_onward (stepped f c) j (suc i) (j + suc i) refl
        ∙ (part_way f c j k under b.at_a_command r.row (inr ((open_is (unit_after u es j)).0 b.opened)) r.whole i l).image

    pub full_effect : FullEffect u.settings.protection img c.trace j k
    full_effect =
        record {
          before = λ i l q. let e : j + (i - j) ≡ i = omega arith in ap (image_after img es) (sym e) ∙ kept (i - j) (omega arith);
          at_last =
              subst⁻¹ (Carries p (image_after img es j) (bytes_to es j k)) (image_onward (stepped f c) j (suc k - j) (suc k) (omega arith))
              (subst (λ (q : ℕ). Carries q (image_after img es j) (bytes_to es j k) (run (unit_after u es j) (image_after img es j) (bytes_to es j k)).image) (protection_at f c j)
              (packet_effect b (sound_at f c j) (image_after img es j) (size_at f c j) (subst⁻¹ (λ (q : ℕ). Permitted q (bytes_to es j k)) (protection_at f c j) m)));
        }

  -- a byte at which the specification carries a packet out ends a permitted packet
  ends_packet : Between u → (k : ℕ) (e : Entry) → At es k e → {new : List ℕ} → Done (unit_after u es k) (image_after img es k) e.byte new → Change p u img es k e.image
  ends_packet between k e a d =
      let v : Port = unit_after u es k in
      let q : Kind = d.kind in
      let n : ℕ = d.received in
      let xs : List ℕ = take n v.collected ++ e.byte ∷ [] in
      let s : Sound v = sound_at f c k in
      let g : position_of v.phase ≡ within q n = ap position_of d.place ∙ position_inside q n in
      let w : Completed u es k q xs = completed f c (λ r i z. between (command_of r) i (within_inside z)) a q n g d.last in
      let m : Permitted p (bytes_to es w.from k) =
      subst⁻¹ (Permitted p) w.bytes (subst (λ (z : ℕ). Permitted z (command_of q ∷ xs)) (protection_at f c k) (carried_permitted d.carried w.row)) in
      let b : Begins (unit_after u es w.from) =
      record {
        at_a_command = w.at_a_command;
        opened = (open_is (unit_after u es w.from)).1 (ap is_open (sym w.registers) ∙ open_inside s g (writes d.carried));
        ready = ap (λ (r : Registers). r.srd) (sym w.registers) ∙ d.ready;
      } in
      let full = full_effect w.from k w.under (at_under a) b m in
      last w.from w.under b
      (subst⁻¹ (λ (l : List ℕ). Carries p l (bytes_to es w.from k) e.image) (full.before k w.under (omega arith))
      (subst (Carries p (image_after img es w.from) (bytes_to es w.from k)) (image_next img a) full.at_last))

  -- "Nothing else changes the image": a byte leaves it as it was, or is the last of a permitted program or erase, which has its effect
  pub nothing_else : Between u → (k : ℕ) (e : Entry) → At c.trace k e → Change u.settings.protection u img c.trace k e.image
  nothing_else between k e a = go (changes (unit_after u es k) (image_after img es k) e.byte)
    where
      left : (step (unit_after u es k) (image_after img es k) e.byte).image ≡ e.image
      left = ap (λ (o : Outcome). o.image) (entry_is f c a).leads

      go : Changed (unit_after u es k) (image_after img es k) e.byte (step (unit_after u es k) (image_after img es k) e.byte).image → Change p u img es k e.image
      go (no_change q) = none (sym left ∙ q)
      go (last_byte d) = ends_packet between k e a d
