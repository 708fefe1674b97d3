-- The trace of calls is the run of their bytes, so that the bytes from a command position on do what their run does: the rows of the packet table hold by positions of the trace, whichever calls brought the bytes.
use Prim.Native.Nat.{ℕ, zero, suc, min, ◌+◌, ◌-◌, ◌≤◌}
use native.Mathlib.Omega.{arith}
use native.Mathlib.Numerals.{add-one}
use native.Mathlib.Decide.{ℕ_discrete}
use mathlib.Core.Path.{◌≡◌, refl, ap, ap₂, sym, ◌∙◌, subst, subst⁻¹}
use mathlib.Core.Logic.{inl, inr}
use mathlib.Core.List.{List, [], ◌∷◌, ◌++◌}
use lib.ListN.{length, get_or, take, drop, length-append, length-drop}
use lib.Seq.{take-append_seam, get_or-drop}
use Rattle.unit.specs.declared.Unit.{Unit as Port}
use Rattle.unit.specs.declared.Phase.{Phase}
use Rattle.unit.specs.declared.Phase.TheVariants.{Asleep, Awake}
use Rattle.unit.specs.declared.Place.TheVariants.{Command}
use Rattle.unit.specs.Phases.{Kind, command_of}
use Rattle.unit.specs.Phases.Kind.{page_read, page_program, unit_program, block_erase, all_erase, id_check}
use Rattle.protocol.specs.Outcome.{Outcome, says}
use Rattle.protocol.specs.Step.{step, run}
use Rattle.protocol.specs.Rows.{Ready, Row, Taken, Partway, Turns, Dropped}
use Rattle.protocol.specs.Rows.Row.{after_ff, after_41, after_49, after_20, after_a7, after_f5}
use Rattle.protocol.proofs.RowsFront.{row_command, front}
use Rattle.protocol.proofs.RowsSleep.{zero_counts, b0_wakes, other_restarts}
use Rattle.demands.specs.Histories.{Call, Entry, Calls, Fit, unit_after, image_after, taken, At, bytes_to}
use Rattle.demands.specs.Changes.Programs.{page, bytes}
use Rattle.demands.specs.Table.{Waking, Sleeps, Whole, Ends, Inside as InPacket, Waits, Ignored, Nothing, Table}
use Rattle.demands.specs.Table.Waking.{counts, wakes, restarts}
use Rattle.demands.specs.Table.Whole.{takes_ff, takes_41_or_49, takes_20, takes_a7, takes_50, takes_70, takes_f5, takes_fb, takes_b0_to_b4, takes_00}
use Rattle.demands.proofs.Traces.{at_under, taken_long, byte_taken, unit_onward, image_onward}
use Rattle.demands.proofs.Entries.{run_suc}
use Rattle.demands.proofs.Records.{open_is, inside_is}
use Rattle.demands.proofs.Bridge.{stepped, sound_at, size_at, entry_is}
use Rattle.demands.proofs.Effects.{command_ready}
use Rattle.demands.proofs.InHistory.{bytes_long, part_way}
use Rattle.demands.proofs.TableRows.{Ended, row}
use Rattle.demands.proofs.FirstBytes.{ignored_drops}

-- a whole packet is one byte, or a row of several
pub data Shape (u : Port) (packet : List ℕ) : Type 0 where
  one : length packet ≡ 1 → Shape u packet
  several : (q : Kind) (b : ℕ) (xs : List ℕ) → packet ≡ b ∷ xs → Row q b xs → Taken u q → Shape u packet

pub shape : {u : Port} {packet : List ℕ} → Whole u packet → Shape u packet
shape {u} (takes_ff o) = several page_read 0xFF _ refl after_ff (inr ((open_is u).0 o))
shape {u} (takes_41_or_49 o (page {ds = ds} l)) = several page_program 0x41 _ refl (after_41 {ds = ds} l) (inr ((open_is u).0 o))
shape {u} (takes_41_or_49 o (bytes {ds = ds} l)) = several unit_program 0x49 _ refl (after_49 {ds = ds} l) (inr ((open_is u).0 o))
shape {u} (takes_20 o) = several block_erase 0x20 _ refl after_20 (inr ((open_is u).0 o))
shape {u} (takes_a7 o) = several all_erase 0xA7 _ refl after_a7 (inr ((open_is u).0 o))
shape (takes_50 o) = one refl
shape takes_70 = one refl
shape (takes_f5 {ds = ds} l) = several id_check 0xF5 _ refl (after_f5 {ds = ds} l) (inl refl)
shape takes_fb = one refl
shape (takes_b0_to_b4 l) = one refl
shape takes_00 = one refl

-- a packet that the unit takes and that has not ended: nothing is replied yet, and the bytes since its command are collected
unfinished : {u : Port} → Ready u → (img : List ℕ) (b x : ℕ) (xs rest : List ℕ) → Whole u (b ∷ (xs ++ x ∷ rest))
    → (q : Kind) × (command_of q ≡ b) × Partway u img q (xs ++ x ∷ rest) (length xs) (run u img (b ∷ xs))
unfinished {u} ready img b x xs rest w = go (shape w)
  where
    go : Shape u (b ∷ (xs ++ x ∷ rest)) → (q : Kind) × (command_of q ≡ b) × Partway u img q (xs ++ x ∷ rest) (length xs) (run u img (b ∷ xs))
    go (one e) = absurd (omega (arith, e, length-append xs (x ∷ rest)))
    go (several q c ys e r t) =
        let p : c ≡ b = cc in
        let s : ys ≡ xs ++ x ∷ rest = cc in
        let r' : Row q b (xs ++ x ∷ rest) = subst (λ (l : List ℕ). Row q b l) s (subst (λ (c : ℕ). Row q c ys) p r) in (
          q,
          row_command r',
          subst (λ (l : List ℕ). Partway u img q (xs ++ x ∷ rest) (length xs) (run u img (b ∷ l))) (take-append_seam xs (x ∷ rest))
              (front ready img r' t (length xs) (omega (arith, length-append xs (x ∷ rest)))),
        )

empty_back : (xs ys : List ℕ) → xs ++ ys ≡ [] → ys ≡ []
empty_back [] ys e = e
empty_back (x ∷ xs) ys e = absurd (let z : suc (length (xs ++ ys)) ≡ 0 = ap length e in omega (arith, z))

module _ {u : Port} {img : List ℕ} {cs : List Call} (f : Fit u img) (c : Calls u img cs) where
  abbrev es : List Entry
  es = c.trace

  -- from the unit and the image after j bytes: the run of the bytes up to the k-th is that of the bytes before it, and then its entry
  run_to : (j i k : ℕ) (e : Entry) → j + i ≡ k → At es k e
      → let v = unit_after u es j in let now = image_after img es j in let bs = drop j (taken es) in
      run v now (take (suc i) bs) ≡ says e.unit e.image ((run v now (take i bs)).reply ++ e.reply)
  run_to j i k e q a =
      let v : Port = unit_after u es j in
      let now : List ℕ = image_after img es j in
      let bs : List ℕ = drop j (taken es) in
      let o : Outcome = run v now (take i bs) in
      let b : get_or bs i 0 ≡ e.byte = get_or-drop j (taken es) i 0 ∙ (ap (λ (n : ℕ). get_or (taken es) n 0) q ∙ byte_taken a) in
      let there : step o.unit o.image (get_or bs i 0) ≡ says e.unit e.image e.reply =
      ap₂ (λ (x : Port) (l : List ℕ). step x l (get_or bs i 0)) (sym (unit_onward (stepped f c) j i k q)) (sym (image_onward (stepped f c) j i k q))
      ∙ (ap (step (unit_after u es k) (image_after img es k)) b ∙ (entry_is f c a).leads) in
      run_suc v now bs i (omega (arith, length-drop j (taken es), taken_long es, at_under a))
      ∙ ap (λ (s : Outcome). says s.unit s.image (o.reply ++ s.reply)) there

  module _ (j k : ℕ) (e : Entry) (after : j ≤ k) (a : At c.trace k e) where
    abbrev v : Port
    v = unit_after u es j

    abbrev now : List ℕ
    now = image_after img es j

    -- what the bytes from the j-th to the k-th come to
    before : List ℕ
    before = (run v now (take (k - j) (drop j (taken es)))).reply

    comes_to : run v now (bytes_to es j k) ≡ says e.unit e.image (before ++ e.reply)
    unfolding before
    comes_to =
        let n : suc k - j ≡ suc (k - j) = omega arith in
        ap (λ (m : ℕ). run v now (take m (drop j (taken es)))) n ∙ run_to j (k - j) k e (omega arith) a

    module _ (at_a_command : (unit_after u c.trace j).phase ≡ Awake Command) where
      ready : Ready v
      ready = command_ready at_a_command (sound_at f c j)

      -- a byte before a packet's last
      told_waits : (b x : ℕ) (xs rest : List ℕ) → bytes_to c.trace j k ≡ b ∷ xs → Whole (unit_after u c.trace j) (b ∷ (xs ++ x ∷ rest))
          → Waits (unit_after u c.trace j) (image_after img c.trace j) b xs e
      told_waits b x xs rest q w =
          let (k, r, p) = unfinished ready now b x xs rest w in
          let t : Partway v now k (xs ++ x ∷ rest) (length xs) (says e.unit e.image (before ++ e.reply)) =
          subst (Partway v now k (xs ++ x ∷ rest) (length xs)) (ap (run v now) (sym q) ∙ comes_to) p in
          record {
            reply = empty_back before e.reply t.reply;
            phase = subst (λ (d : ℕ). InPacket d (length xs) e.unit.phase) r (subst⁻¹ (InPacket (command_of k) (length xs)) t.phase (inside_is k (length xs)));
            registers = t.registers;
            settings = t.settings;
            collected = t.collected ∙ ap (λ (l : List ℕ). l ++ drop (length xs) v.collected) (take-append_seam xs (x ∷ rest));
            image = t.image;
          }

      -- before the last byte of a whole packet nothing was replied
      nothing_before : Whole (unit_after u c.trace j) (bytes_to c.trace j k) → before ≡ []
      unfolding before
      nothing_before w = go (shape w)
        where
          long : length (bytes_to es j k) ≡ suc k - j
          long = bytes_long es j k (at_under a)

          go : Shape v (bytes_to es j k) → (run v now (take (k - j) (drop j (taken es)))).reply ≡ []
          go (one n) = let z : k - j ≡ 0 = omega (arith, long, n) in ap (λ (m : ℕ). (run v now (take m (drop j (taken es)))).reply) z
          go (several q b xs h r t) = earlier (k - j) refl
            where
              earlier : (i : ℕ) → k - j ≡ i → (run v now (take (k - j) (drop j (taken es)))).reply ≡ []
              earlier zero z = ap (λ (m : ℕ). (run v now (take m (drop j (taken es)))).reply) z
              earlier (suc i) z =
                  ap (λ (m : ℕ). (run v now (take m (drop j (taken es)))).reply) z
                  ∙ (part_way f c j k (at_under a) at_a_command r t h i (omega arith)).reply

      -- its last byte
      told_ends : (w : Whole (unit_after u c.trace j) (bytes_to c.trace j k)) → Ends w (image_after img c.trace j) e
      told_ends w =
          let d : Ended v w now (says e.unit e.image e.reply) =
          subst (Ended v w now) (comes_to ∙ ap (λ (l : List ℕ). says e.unit e.image (l ++ e.reply)) (nothing_before w)) (row ready now (size_at f c j) w) in
          record { effect = d.effect; phase = d.phase; settings = d.settings; collected = d.collected }

  -- a byte by itself
  module _ (k : ℕ) (e : Entry) (a : At c.trace k e) where
    abbrev x : Port
    x = unit_after u es k

    abbrev shown : List ℕ
    shown = image_after img es k

    leads : step x shown e.byte ≡ says e.unit e.image e.reply
    leads = (entry_is f c a).leads

    told_ignored : (unit_after u c.trace k).phase ≡ Awake Command → Ignored (unit_after u c.trace k) e.byte
        → Nothing (unit_after u c.trace k) (image_after img c.trace k) e
    told_ignored at_a_command none =
        let d : Dropped x shown (says e.unit e.image e.reply) =
        subst (Dropped x shown) leads (ignored_drops x (command_ready at_a_command (sound_at f c k)) shown e.byte none) in
        (d.reply, d.unit, d.image)

    module _ (n : ℕ) (sleeps : (unit_after u c.trace k).phase ≡ Asleep n) where
      turned : {p : Phase} {said : List ℕ} → Turns x shown p said (step x shown e.byte) → Waking n e.byte p said → Sleeps n x shown e
      turned {p} {said} t w =
          let d : Turns x shown p said (says e.unit e.image e.reply) = subst (Turns x shown p said) leads t in
          record {
            waking = subst⁻¹ (λ (l : List ℕ). Waking n e.byte e.unit.phase l) d.reply (subst⁻¹ (λ (y : Phase). Waking n e.byte y said) d.phase w);
            registers = d.registers;
            settings = d.settings;
            collected = d.collected;
            image = d.image;
          }

      told_asleep : Sleeps n (unit_after u c.trace k) (image_after img c.trace k) e
      told_asleep = go (ℕ_discrete e.byte 0x00) (ℕ_discrete e.byte 0xB0) (ℕ_discrete n 16)
        where
          go : Dec (e.byte ≡ 0x00) → Dec (e.byte ≡ 0xB0) → Dec (n ≡ 16) → Sleeps n x shown e
          go (yes z) y s =
              turned (subst⁻¹ (λ (b : ℕ). Turns x shown (Asleep (min 16 (suc n))) [] (step x shown b)) z (subst (λ (m : ℕ). Turns x shown (Asleep (min 16 m)) [] (step x shown 0x00)) (add-one n) (zero_counts x shown n sleeps)))
              (subst⁻¹ (λ (b : ℕ). Waking n b (Asleep (min 16 (suc n))) []) z counts)
          go (no z) (yes y) (yes s) =
              turned (subst⁻¹ (λ (b : ℕ). Turns x shown (Awake Command) (0xB0 ∷ []) (step x shown b)) y (b0_wakes x shown n sleeps s))
              (subst⁻¹ (λ (b : ℕ). Waking n b (Awake Command) (0xB0 ∷ [])) y (wakes s))
          go (no z) (yes y) (no s) = let g : (e.byte ≡ 0xB0) × (n ≡ 16) → ⊥ = λ w. s w.1 in turned (other_restarts x shown n sleeps e.byte z g) (restarts z g)
          go (no z) (no y) s = let g : (e.byte ≡ 0xB0) × (n ≡ 16) → ⊥ = λ w. y w.0 in turned (other_restarts x shown n sleeps e.byte z g) (restarts z g)

  -- "After each byte, the reply, both status registers, the next unit and the whole image are those of the protocol specification as document 01 fixes it"
  pub demand_2_table : Table c
  demand_2_table =
      record {
        asleep = λ k n e a s. told_asleep k e a n s;
        ignored = λ k e a s none. told_ignored k e a s none;
        waits = λ j k e after a s b x xs rest q w. told_waits j k e after a s b x xs rest q w;
        ends = λ j k e after a s w. told_ends j k e after a s w;
      }
