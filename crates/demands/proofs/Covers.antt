-- Each byte of calls is one that the table speaks of: to a sleeping unit; at a command, where it begins a packet or is ignored; or inside a packet, which began at a command and is the front of a whole one.
use Prim.Native.Nat.{ℕ, suc, ◌+◌, ◌-◌, ◌≤◌, ◌<◌}
use native.Mathlib.Omega.{arith}
use native.Mathlib.Decide.{ℕ_discrete}
use mathlib.Core.Path.{◌≡◌, refl, ap, sym, ◌∙◌, subst⁻¹}
use mathlib.Core.Logic.{◌⊎◌, inl, inr}
use mathlib.Core.List.{List, [], ◌∷◌, ◌++◌}
use lib.ListN.{length, take, drop, replicate, length-append}
use lib.Seq.{length-take-le, drop-cons}
use Rattle.slices.proofs.Lists.{bytes_take, bytes_append}
use Rattle.unit.specs.declared.Unit.{Unit as Port}
use Rattle.unit.specs.declared.Phase.TheVariants.{Awake}
use Rattle.unit.specs.declared.Place.TheVariants.{Command}
use Rattle.unit.specs.Phases.{Kind, command_of, need, Position, position_of}
use Rattle.unit.specs.Phases.Kind.{page_read, page_program, unit_program, block_erase, all_erase, id_check}
use Rattle.unit.specs.Phases.Position.{sleeping, commanding, within}
use Rattle.unit.specs.Model.{is_open}
use Rattle.unit.proofs.Positions.{phase_sleeping, phase_commanding}
use Rattle.unit.proofs.Ranged.{Sound}
use Rattle.unit.proofs.Lengths.{need_next}
use Rattle.unit.proofs.Inside.{open_inside, few, few_collected}
use Rattle.protocol.specs.Rows.{Row, Taken}
use Rattle.protocol.specs.Rows.Row.{after_ff, after_41, after_49, after_20, after_a7, after_f5}
use Rattle.demands.specs.Record.{Open}
use Rattle.demands.specs.Histories.{Call, Entry, Calls, Fit, unit_after, taken, At, bytes_to}
use Rattle.demands.specs.Changes.Programs.{page, bytes}
use Rattle.demands.specs.Table.{Whole, Ignored, Covered, Between}
use Rattle.demands.specs.Table.Whole.{takes_ff, takes_41_or_49, takes_20, takes_a7, takes_f5}
use Rattle.demands.specs.Table.Covered.{asleep, ignored, of_packet}
use Rattle.demands.proofs.Traces.{at_under, taken_long, byte_taken}
use Rattle.demands.proofs.Records.{open_is, within_inside}
use Rattle.demands.proofs.Bridge.{fit_sound, stepped, sound_at, entry_is}
use Rattle.demands.proofs.Pending.{Pending, pending, pending_next}
use Rattle.demands.proofs.Filled.{filled, filled_row}
use Rattle.demands.proofs.FirstBytes.{begins?}

-- a row that the unit takes is a whole packet
no_kind : ◌≡◌ {A = ℕ} 0 1 → ⊥
no_kind e = omega arith

opened : (u : Port) {q : Kind} → Taken u q → (q ≡ id_check → ⊥) → Open u
opened u (inl e) n = absurd (n e)
opened u (inr o) n = (open_is u).1 o

pub whole_row : (u : Port) {q : Kind} {b : ℕ} {xs : List ℕ} → Row q b xs → Taken u q → Whole u (b ∷ xs)
whole_row u after_ff t = takes_ff (opened u t (λ e. no_kind (cc)))
whole_row u (after_41 {ds = ds} l) t = takes_41_or_49 (opened u t (λ e. no_kind (cc))) (page {ds = ds} l)
whole_row u (after_49 {ds = ds} l) t = takes_41_or_49 (opened u t (λ e. no_kind (cc))) (bytes {ds = ds} l)
whole_row u after_20 t = takes_20 (opened u t (λ e. no_kind (cc)))
whole_row u after_a7 t = takes_a7 (opened u t (λ e. no_kind (cc)))
whole_row u (after_f5 {ds = ds} l) t = takes_f5 {ds = ds} l

-- a packet in progress is an ID check, or the unit is open
pub takes_inside : {u : Port} → Sound u → (q : Kind) {n : ℕ} → position_of u.phase ≡ within q n → Taken u q
takes_inside s page_read e = inr (open_inside s e (λ z. no_kind (cc)))
takes_inside s page_program e = inr (open_inside s e (λ z. no_kind (cc)))
takes_inside s unit_program e = inr (open_inside s e (λ z. no_kind (cc)))
takes_inside s block_erase e = inr (open_inside s e (λ z. no_kind (cc)))
takes_inside s all_erase e = inr (open_inside s e (λ z. no_kind (cc)))
takes_inside s id_check e = inl refl

-- a byte more of a packet that was short does not make it too long
fits : (q : Kind) (xs : List ℕ) (b : ℕ) → length xs < need q xs → length (xs ++ b ∷ []) ≤ need q (xs ++ b ∷ [])
fits q xs b h = go (ℕ_discrete (suc (length xs)) (need q (xs ++ b ∷ [])))
  where
    go : Dec (suc (length xs) ≡ need q (xs ++ b ∷ [])) → length (xs ++ b ∷ []) ≤ need q (xs ++ b ∷ [])
    go (yes e) = omega (arith, length-append xs (b ∷ []))
    go (no n) = omega (arith, length-append xs (b ∷ []), need_next q xs b h n)

module _ {u : Port} {img : List ℕ} {cs : List Call} (f : Fit u img) (between : Between u) (c : Calls u img cs) (k : ℕ) (e : Entry) (a : At c.trace k e) where
  abbrev es : List Entry
  es = c.trace

  abbrev v : Port
  v = unit_after u es k

  -- this byte alone
  alone : bytes_to es k k ≡ e.byte ∷ []
  alone =
      let n : suc k - k ≡ 1 = omega arith in
      ap (λ (m : ℕ). take m (drop k (taken es))) n
      ∙ (ap (take 1) (drop-cons (taken es) k 0 (omega (arith, taken_long es, at_under a))) ∙ ap (λ (b : ℕ). b ∷ []) (byte_taken a))

  at_a_command : v.phase ≡ Awake Command → ((rest : List ℕ) × Whole v (e.byte ∷ rest)) ⊎ Ignored v e.byte → Covered u es k e.byte
  at_a_command p (inl (rest, w)) = of_packet k (omega arith) p rest (subst⁻¹ (λ (l : List ℕ). Whole v (l ++ rest)) alone w)
  at_a_command p (inr n) = ignored p n

  in_packet_lem : (q : Kind) (n : ℕ) → position_of v.phase ≡ within q n → Covered u es k e.byte
  in_packet_lem q n p =
      let s : Sound v = sound_at f c k in
      let w : Pending u es k q n = pending (stepped f c) (fit_sound f) (λ r i z. between (command_of r) i (within_inside z)) k (omega (arith, at_under a)) q n p in
      let xs : List ℕ = take n v.collected ++ e.byte ∷ [] in
      let long : length (take n v.collected) ≡ n = length-take-le n v.collected (omega (arith, s.room, few_collected s p)) in
      let most : length xs ≤ need q xs = fits q (take n v.collected) e.byte (omega (arith, few s p)) in
      let row : Row q (command_of q) (filled q xs) =
      filled_row q xs (bytes_append (take n v.collected) (e.byte ∷ []) (bytes_take n v.collected s.bytes) ((entry_is f c a).small, tt)) most in
      let count : suc k - w.from ≡ suc (suc n) = omega (arith, w.long) in
      let whole : Whole (unit_after u es w.from) (command_of q ∷ filled q xs) = whole_row (unit_after u es w.from) row (from_there w (takes_inside s q p)) in
      of_packet w.from (omega (arith, w.long)) w.at_a_command (replicate (need q xs - length xs) 0x00)
      (subst⁻¹ (λ (l : List ℕ). Whole (unit_after u es w.from) (l ++ replicate (need q xs - length xs) 0x00))
      (ap (λ (i : ℕ). take i (drop w.from (taken es))) count ∙ pending_next w a) whole)
    where
      from_there : (w : Pending u es k q n) → Taken v q → Taken (unit_after u es w.from) q
      from_there w (inl z) = inl z
      from_there w (inr o) = inr (ap is_open (sym w.registers) ∙ o)

  pub covers : Covered u c.trace k e.byte
  covers = go (position_of v.phase) refl
    where
      go : (p : Position) → position_of v.phase ≡ p → Covered u es k e.byte
      go (sleeping n) q = asleep n (phase_sleeping v.phase q)
      go commanding q = at_a_command (phase_commanding v.phase q) (begins? v e.byte)
      go (within k n) q = in_packet_lem k n q
