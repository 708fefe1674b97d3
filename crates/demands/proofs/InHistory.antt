-- A packet among the bytes of calls: from its command byte on it is partway, as the rows say; and the byte that completes it is the last of what was taken since its command.
use Prim.Native.Nat.{ℕ, suc, ◌+◌, ◌-◌, ◌≤◌, ◌<◌}
use native.Mathlib.Omega.{arith}
use mathlib.Core.Path.{◌≡◌, ap, sym, ◌∙◌, subst}
use mathlib.Core.List.{List, [], ◌∷◌, ◌++◌}
use lib.ListN.{length, take, drop, length-append, length-drop}
use lib.Seq.{length-take-le, take-take}
use Rattle.slices.proofs.Lists.{bytes_take, bytes_append}
use Rattle.unit.specs.declared.Unit.{Unit as Port}
use Rattle.unit.specs.declared.Phase.TheVariants.{Awake}
use Rattle.unit.specs.declared.Place.TheVariants.{Command}
use Rattle.unit.specs.Phases.{Kind, command_of, need, position_of}
use Rattle.unit.specs.Phases.Position.{within}
use Rattle.unit.proofs.Ranged.{Sound}
use Rattle.unit.proofs.Inside.{few_collected}
use Rattle.protocol.specs.Step.{run}
use Rattle.protocol.specs.Rows.{Partway, Row, Taken}
use Rattle.protocol.proofs.RowsFront.{front, every_packet}
use Rattle.demands.specs.Histories.{Call, Entry, Calls, Fit, unit_after, image_after, taken, At, bytes_to}
use Rattle.demands.proofs.Traces.{at_under, taken_long}
use Rattle.demands.proofs.Bridge.{fit_sound, stepped, sound_at, entry_is}
use Rattle.demands.proofs.Effects.{command_ready}
use Rattle.demands.proofs.Pending.{Pending, pending, pending_next}

-- the k-th byte completed a packet, with xs after its command
pub record Completed (u : Port) (es : List Entry) (k : ℕ) (q : Kind) (xs : List ℕ) : Type 0 where
  pub from : ℕ
  pub under : from ≤ k
  pub at_a_command : (unit_after u es from).phase ≡ Awake Command
  pub registers : (unit_after u es k).registers ≡ (unit_after u es from).registers
  pub bytes : bytes_to es from k ≡ command_of q ∷ xs
  pub row : Row q (command_of q) xs

-- as many bytes as there are from the j-th to the k-th
pub bytes_long : (es : List Entry) (j k : ℕ) → k < length es → length (bytes_to es j k) ≡ suc k - j
bytes_long es j k under = length-take-le (suc k - j) (drop j (taken es)) (omega (arith, length-drop j (taken es), taken_long es))

module _ {u : Port} {img : List ℕ} {cs : List Call} (f : Fit u img) (c : Calls u img cs) where
  abbrev es : List Entry
  es = c.trace

  -- the bytes from the j-th to the k-th are a packet that the unit takes, and i bytes have come since its command
  pub part_way : (j k : ℕ) → k < length c.trace → (unit_after u c.trace j).phase ≡ Awake Command
      → {q : Kind} {b : ℕ} {xs : List ℕ} → Row q b xs → Taken (unit_after u c.trace j) q → bytes_to c.trace j k ≡ b ∷ xs → (i : ℕ) → suc i < suc k - j
      → Partway (unit_after u c.trace j) (image_after img c.trace j) q xs i
      (run (unit_after u c.trace j) (image_after img c.trace j) (take (suc i) (drop j (taken c.trace))))
  part_way j k under at_a_command {q} {b} {xs} row open_or_check e i l =
      let n : length (bytes_to es j k) ≡ suc (length xs) = ap length e in
      let front_of : b ∷ take i xs ≡ take (suc i) (drop j (taken es)) =
      ap (take (suc i)) (sym e) ∙ take-take (suc i) (suc k - j) (drop j (taken es)) (omega arith) in
      subst (λ (l : List ℕ). Partway (unit_after u es j) (image_after img es j) q xs i (run (unit_after u es j) (image_after img es j) l)) front_of
      (front (command_ready at_a_command (sound_at f c j)) (image_after img es j) row open_or_check i (omega (arith, bytes_long es j k under)))

  -- a byte that completes a packet, where the first unit was not inside one
  pub completed : ((q : Kind) (n : ℕ) → position_of u.phase ≡ within q n → ⊥) → {k : ℕ} {e : Entry} → At c.trace k e → (q : Kind) (n : ℕ) → position_of (unit_after u c.trace k).phase ≡ within q n
      → suc n ≡ need q (take n (unit_after u c.trace k).collected ++ e.byte ∷ [])
      → Completed u c.trace k q (take n (unit_after u c.trace k).collected ++ e.byte ∷ [])
  completed between {k} {e} a q n p last =
      let v : Port = unit_after u es k in
      let xs : List ℕ = take n v.collected ++ e.byte ∷ [] in
      let s : Sound v = sound_at f c k in
      let w : Pending u es k q n = pending (stepped f c) (fit_sound f) between k (omega (arith, at_under a)) q n p in
      let long : length xs ≡ need q xs =
      length-append (take n v.collected) (e.byte ∷ [])
      ∙ (omega (arith, length-take-le n v.collected (omega (arith, few_collected s p, s.room)), last)) in
      let count : suc k - w.from ≡ suc (suc n) = omega (arith, w.long) in
      record {
        from = w.from;
        under = omega (arith, w.long);
        at_a_command = w.at_a_command;
        registers = w.registers;
        bytes = ap (λ (i : ℕ). take i (drop w.from (taken es))) count ∙ pending_next w a;
        row = every_packet q xs (bytes_append (take n v.collected) (e.byte ∷ []) (bytes_take n v.collected s.bytes) ((entry_is f c a).small, tt)) long;
      }
