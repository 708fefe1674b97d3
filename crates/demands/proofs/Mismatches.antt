-- Document 02's Item 5, at any moment of a history. The table's row of an ID packet says what it leaves;
-- a byte that is not the last of an ID packet sets SRD or the rate, or no register; and a locked unit stays locked by the step.
use Prim.Native.Nat.{ℕ, suc, ◌+◌, ◌-◌, ◌≤◌, ◌<◌}
use native.Mathlib.Omega.{arith}
use mathlib.Core.Bool.{false, not, false≢true}
use mathlib.Core.Logic.{◌⊎◌, inl, inr}
use mathlib.Core.Path.{◌≡◌, refl, ap, sym, ◌∙◌, subst, subst⁻¹}
use mathlib.Core.List.{List, ◌∷◌}
use lib.ListN.{length, take, drop}
use lib.Dec.{eqb}
use borrow.Author.Tests.{eqb-true}
use Rattle.packets.specs.Pieces.{check, packet_bytes}
use Rattle.slices.specs.Lists.{Bytes}
use Rattle.slices.proofs.Lists.{cond_elim, bytes_take, bytes_drop}
use Rattle.flash.specs.Image.{Written}
use Rattle.unit.specs.declared.Unit.{Unit as Port}
use Rattle.unit.specs.declared.Registers.{Registers}
use Rattle.unit.specs.declared.Settings.{Settings}
use Rattle.unit.specs.declared.Inputs.{Inputs}
use Rattle.unit.specs.declared.Phase.TheVariants.{Awake}
use Rattle.unit.specs.declared.Place.TheVariants.{Command}
use Rattle.unit.specs.Phases.{Kind, command_of, need, Position, position_of}
use Rattle.unit.specs.Phases.Kind.{page_read, page_program, unit_program, block_erase, all_erase, id_check}
use Rattle.unit.specs.Phases.Position.{sleeping, commanding, within}
use Rattle.unit.specs.Model.{phased, longer, ended, standing}
use Rattle.unit.proofs.Ranged.{Sound}
use Rattle.unit.proofs.Builders.{fresh_blank, fresh_phase}
use Rattle.protocol.specs.Outcome.{Outcome}
use Rattle.protocol.specs.Commands.{Command as Meaning, meaning, effect, dropped, commanded}
use Rattle.protocol.specs.Commands.Command.{begin, clear, status, version, time, unknown, rate}
use Rattle.protocol.specs.Endings.{programs, erases, finished}
use Rattle.protocol.specs.Step.{wakes, asleep, body, completes, in_packet, step_at, step, run}
use Rattle.protocol.specs.Rows.{Row}
use Rattle.protocol.specs.Rows.Row.{after_f5 as row_f5}
use Rattle.demands.specs.Locking.{Locked, IdPacket, Counting}
use Rattle.demands.specs.Flash.{ids, Blank}
use Rattle.demands.specs.Histories.{Call, Entry, Calls, History, Fit, unit_after, image_after, taken, At, bytes_to}
use Rattle.demands.specs.Mismatches.{Checked}
use Rattle.demands.specs.Locking.IdPacket.{whole}
use Rattle.demands.specs.Table.{Whole, IdChecked, Ends}
use Rattle.demands.specs.Table.Whole.{takes_f5}
use Rattle.demands.specs.Table.IdChecked.{stays_open, judged as not_blank}
use Rattle.demands.specs.Locking.Counting.{none, last}
use Rattle.demands.proofs.Traces.{at_under, at_position, unit_next, unit_run, image_run, unit_onward, image_onward}
use Rattle.demands.proofs.Bridge.{fit_sound, start_fresh, start_fit, stepped, sound_at, size_at, settings_at, entry_is, bytes_are}
use Rattle.demands.proofs.Records.{filled_is}
use Rattle.demands.proofs.Pending.{not_asleep}
use Rattle.demands.proofs.InHistory.{bytes_long, part_way, completed}
use Rattle.demands.proofs.Table.{demand_2_table}
use Rattle.demands.proofs.Locked.{view_of, locked_bytes}

-- a byte leaves the count as it was, or completes an ID packet
abbrev Keeps : Port → ℕ → Outcome → Type 0
Keeps u b o = (o.unit.registers.mismatches ≡ u.registers.mismatches) ⊎ ((n : ℕ) × (position_of u.phase ≡ within id_check n) × (suc n ≡ need id_check (body n u b)))

module _ (u : Port) (img : List ℕ) (b : ℕ) where
  abbrev Same : Outcome → Type 0
  Same o = o.unit.registers.mismatches ≡ u.registers.mismatches

  programs_same : (w : Written) → Same (programs u img w)
  unfolding programs ended
  programs_same w = cond_elim Same (standing u.registers) _ _ (λ t. refl) (λ t. refl)

  erases_same : (confirm : ℕ) (w : Written) → Same (erases u img confirm w)
  unfolding erases ended
  erases_same confirm w =
      cond_elim Same (eqb confirm 0xFF) _ _ (λ t. refl)
      (λ t. cond_elim Same (standing u.registers) _ _ (λ t. refl) (λ t. cond_elim Same (not (eqb confirm 0xD0)) _ _ (λ t. refl) (λ t. refl)))

  -- the end of a packet that is no ID check
  ends_same : (k : Kind) (xs : List ℕ) → (k ≡ id_check) ⊎ Same (finished k u img xs)
  unfolding finished ended
  ends_same page_read xs = inr refl
  ends_same page_program xs = inr (programs_same _)
  ends_same unit_program xs = inr (programs_same _)
  ends_same block_erase xs = inr (erases_same _ _)
  ends_same all_erase xs = inr (erases_same _ _)
  ends_same id_check xs = inl refl

  effect_same : (c : Meaning) → Same (effect c u img b)
  unfolding effect phased ended
  effect_same (begin k) = refl
  effect_same clear = refl
  effect_same status = refl
  effect_same version = refl
  effect_same (rate n) = refl
  effect_same time = refl
  effect_same unknown = refl

  keeps_at : (p : Position) → position_of u.phase ≡ p → Keeps u b (step_at p u img b)
  unfolding step_at asleep commanded in_packet completes phased longer
  keeps_at (sleeping n) e = inl (cond_elim Same (eqb b 0x00) _ _ (λ t. refl) (λ t. cond_elim Same (wakes n b) _ _ (λ s. refl) (λ s. refl)))
  keeps_at commanding e = inl (cond_elim Same (dropped (meaning b) u) _ _ (λ t. refl) (λ t. effect_same (meaning b)))
  keeps_at (within k n) e =
      cond_elim (Keeps u b) (completes k n u b) _ _ (λ t. go (ends_same k (body n u b)) (eqb-true (suc n) (need k (body n u b)) t)) (λ t. inl refl)
    where
      go : (k ≡ id_check) ⊎ Same (finished k u img (body n u b)) → suc n ≡ need k (body n u b) → Keeps u b (finished k u img (body n u b))
      go (inr s) l = inl s
      go (inl q) l = inr (n, e ∙ ap (λ (k : Kind). within k n) q, l ∙ ap (λ (k : Kind). need k (body n u b)) q)

  keeps : Keeps u b (step u img b)
  unfolding step
  keeps = keeps_at (position_of u.phase) refl

-- a run of a locked unit
module _ {u : Port} (s : Sound u) (k : Locked u.registers) (img : List ℕ) (size : length img ≡ 20480) (bs : List ℕ) (bytes : Bytes bs) where
  locked_run : Locked (run u img bs).unit.registers × ((run u img bs).image ≡ img)
  locked_run =
      let c = locked_bytes {i = ids img} {v = view_of u} k bs in
      let a = (c.leads u img size refl s bytes (record { phase = refl; registers = refl; collected = refl })).after in
      (subst⁻¹ Locked a.seen.registers c.is, a.image)

-- once as many wrong ID checks are counted as lock a unit and it is closed, no calls open it, and none change the image: of any unit in range, reached or not, and any calls
pub locked_calls : {u : Port} {img : List ℕ} {cs : List Call} → Fit u img → (c : Calls u img cs)
    → Locked u.registers → (k : ℕ) → Locked (unit_after u c.trace k).registers × (image_after img c.trace k ≡ img)
locked_calls {img = img} f c l k =
    let t = stepped f c in
    let w = locked_run (fit_sound f) l img f.size (take k (taken c.trace)) (bytes_take k (taken c.trace) (bytes_are f c)) in
    (subst⁻¹ (λ (x : Port). Locked x.registers) (unit_run t k) w.0, image_run t k ∙ w.1)

module _ {img : List ℕ} {inputs : Inputs} {cs : List Call} (h : History img inputs cs) where
  abbrev u₀ : Port
  u₀ = h.started.unit

  abbrev es : List Entry
  es = h.calls.trace

  -- and so inside a history, from the byte on that locks the unit, before its first opening or after it
  pub locked_for_good : (j k : ℕ) → j ≤ k → Locked (unit_after h.started.unit h.calls.trace j).registers
      → Locked (unit_after h.started.unit h.calls.trace k).registers × (image_after img h.calls.trace k ≡ image_after img h.calls.trace j)
  locked_for_good j k after l =
      let bs : List ℕ = take (k - j) (drop j (taken es)) in
      let w = locked_run (sound_at (start_fit h) h.calls j) l (image_after img es j) (size_at (start_fit h) h.calls j) bs (bytes_take (k - j) (drop j (taken es)) (bytes_drop j (taken es) (bytes_are (start_fit h) h.calls))) in
      (subst⁻¹ (λ (x : Port). Locked x.registers) (unit_onward (stepped (start_fit h) h.calls) j (k - j) k (omega arith)) w.0, image_onward (stepped (start_fit h) h.calls) j (k - j) k (omega arith) ∙ w.1)

  -- what a complete ID packet makes of SRD1 and of the count, before the first opening or after it
  module _ (n : Blank img → ⊥) (j k : ℕ) (after : j ≤ k) (under : k < length h.calls.trace) (at_a_command : (unit_after h.started.unit h.calls.trace j).phase ≡ Awake Command) where
    filled : (unit_after u₀ es j).settings.blank ≡ false
    filled =
        ap (λ (t : Settings). t.blank) (settings_at (start_fit h) h.calls j)
        ∙ (ap (λ (u : Port). u.settings.blank) (start_fresh h) ∙ (fresh_blank img inputs ∙ filled_is img h.size n))

    abbrev u : Port
    u = unit_after u₀ es j

    abbrev now : List ℕ
    now = image_after img es j

    -- up to its last byte nothing has changed but the phase and the collected bytes
    inside : IdPacket (bytes_to es j k) → ((unit_after u₀ es k).registers ≡ u.registers) × (image_after img es k ≡ now)
    inside p = go refl p
      where
        go : {packet : List ℕ} → bytes_to es j k ≡ packet → IdPacket packet → ((unit_after u₀ es k).registers ≡ u.registers) × (image_after img es k ≡ now)
        go q (whole {ds = ds} small) =
            let i : ℕ = k - j - 1 in
            let count : j + suc i ≡ k = omega (arith, bytes_long es j k under, ap length q) in
            let w = part_way (start_fit h) h.calls j k under at_a_command (row_f5 {ds = ds} small) (inl refl) q i (omega arith) in
            (ap (λ (x : Port). x.registers) (unit_onward (stepped (start_fit h) h.calls) j (suc i) k count) ∙ w.registers, image_onward (stepped (start_fit h) h.calls) j (suc i) k count ∙ w.image)

    -- the table's row of an ID packet; a unit that did not start blank is judged
    judged : {packet : List ℕ} → bytes_to es j k ≡ packet → IdPacket packet → Checked now packet u.registers (unit_after u₀ es (suc k)).registers
    judged q (whole {low} {mid} {high} {ds} small) =
        let (e, a) = at_position es k under in
        let last = subst (λ (p : List ℕ). (w : Whole u p) → Ends w now e) q (λ w. (demand_2_table (start_fit h) h.calls).ends j k e after a at_a_command w) in
        let (said, r, kept) = (last (takes_f5 {low = low} {mid = mid} {high = high} {ds = ds} small)).effect in
        subst⁻¹ (λ (v : Port). Checked now (packet_bytes (check low mid high ds)) u.registers v.registers) (unit_next u₀ a) (go r)
      where
        go : {packet : List ℕ} {r : Registers} → IdChecked u now packet r → Checked now packet u.registers r
        go (stays_open b o e) = absurd (false≢true (sym filled ∙ b))
        go (not_blank b c) = c

    pub each_check : IdPacket (bytes_to h.calls.trace j k)
        → Checked (image_after img h.calls.trace k) (bytes_to h.calls.trace j k) (unit_after h.started.unit h.calls.trace k).registers (unit_after h.started.unit h.calls.trace (suc k)).registers
    each_check p =
        let w = inside p in
        subst⁻¹ (λ (l : List ℕ). Checked l (bytes_to es j k) (unit_after u₀ es k).registers (unit_after u₀ es (suc k)).registers) w.1
        (subst⁻¹ (λ (r : Registers). Checked now (bytes_to es j k) r (unit_after u₀ es (suc k)).registers) w.0 (judged refl p))

  -- nothing else changes the count: a byte leaves it as it was, or is the last of a complete ID packet, which has its effect
  pub count_kept : (Blank img → ⊥) → (k : ℕ) (e : Entry) → At h.calls.trace k e → Counting h.started.unit img h.calls.trace k
  unfolding body command_of
  count_kept n k e a = go (keeps (unit_after u₀ es k) (image_after img es k) e.byte)
    where
      now : (step (unit_after u₀ es k) (image_after img es k) e.byte).unit ≡ unit_after u₀ es (suc k)
      now = ap (λ (o : Outcome). o.unit) (entry_is (start_fit h) h.calls a).leads ∙ sym (unit_next u₀ a)

      packet : {c : ℕ} {xs : List ℕ} → Row id_check c xs → IdPacket (c ∷ xs)
      packet (row_f5 {ds = ds} small) = whole {ds = ds} small

      go : Keeps (unit_after u₀ es k) e.byte (step (unit_after u₀ es k) (image_after img es k) e.byte) → Counting u₀ img es k
      go (inl q) = none (ap (λ (u : Port). u.registers.mismatches) (sym now) ∙ q)
      go (inr (m, f, l)) =
          let w = completed (start_fit h) h.calls (λ q n z. not_asleep (ap (λ (u : Port). u.phase) (start_fresh h) ∙ fresh_phase img inputs) q n z) a id_check m f l in
          let p : IdPacket (bytes_to es w.from k) = subst⁻¹ IdPacket w.bytes (packet w.row) in
          last w.from w.under w.at_a_command p (each_check n w.from k w.under (at_under a) w.at_a_command p)
