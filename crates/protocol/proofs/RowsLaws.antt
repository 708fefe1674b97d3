-- A whole packet comes to what its ending makes of all that followed its command: each byte but the last is only stored, by induction on how many have come.
use Prim.Native.Nat.{ℕ, zero, suc, ◌+◌, ◌-◌, ◌≤◌, ◌<◌}
use native.Mathlib.Omega.{arith}
use mathlib.Core.Bool.{Bool, true, false, cond}
use mathlib.Core.Logic.{◌≢◌, inl, inr}
use mathlib.Core.Path.{◌≡◌, refl, ap, ap₂, sym, ◌∙◌, subst}
use mathlib.Core.List.{List, [], ◌∷◌, ◌++◌, append-nil}
use lib.ListN.{length, take, drop, get_or, set}
use lib.Seq.{length-take-le, take_all, take-suc, take_at}
use borrow.Author.Tests.{ne_eqb, eq-eqb, ltb-true, lt-ltb}
use Rattle.slices.proofs.Turns.{copy_one}
use Rattle.unit.specs.declared.Unit.{Unit as Port}
use Rattle.unit.specs.declared.Registers.{Registers}
use Rattle.unit.specs.declared.Settings.{Settings}
use Rattle.unit.specs.declared.Phase.{Phase}
use Rattle.unit.specs.declared.Phase.TheVariants.{Awake}
use Rattle.unit.specs.Phases.{Kind, need, command_of, inside}
use Rattle.unit.specs.Phases.Kind.{page_read, page_program, unit_program, block_erase, all_erase, id_check}
use Rattle.unit.specs.Model.{whole, state, phased, longer, ended, is_open, standing}
use Rattle.unit.proofs.Builders.{phased_phase, phased_registers, phased_settings, phased_collected, ended_phase, ended_registers, ended_settings, ended_collected}
use Rattle.unit.proofs.Inside.{longer_phase, longer_registers, longer_settings, longer_collected}
use Rattle.unit.proofs.Lengths.{few_sized}
use Rattle.protocol.specs.Outcome.{Outcome, says, quiet}
use Rattle.protocol.specs.Commands.{Command, commands, meaning, needs_open, effect, dropped, commanded}
use Rattle.protocol.specs.Commands.Command.{begin}
use Rattle.protocol.specs.Endings.{programs, erases, finished}
use Rattle.protocol.specs.Step.{body, step, run}
use Rattle.protocol.specs.Rows.{Ready, Partway, Taken, Ends}
use Rattle.protocol.proofs.Steps.{step_commanding, step_inside_phase, packet_last, packet_more, onward, run_one, run_append}

-- two answers that are one
pub cond_same : {A : Type 0} (t : Bool) (x : A) → cond t x x ≡ x
cond_same true x = refl
cond_same false x = refl

-- which commands are taken: an open unit takes all, and every unit takes those that need no open one
pub open_takes : (u : Port) (c : Command) → is_open u.registers ≡ true → dropped c u ≡ false
unfolding dropped
open_takes u c e = ap (λ (t : Bool). cond t false (needs_open c)) e

pub all_take : (u : Port) (c : Command) → needs_open c ≡ false → dropped c u ≡ false
unfolding dropped
all_take u c e = rw e (cond_same (is_open u.registers) false)

-- a command byte that is taken has its command's effect
pub step_taken : {u : Port} → Ready u → (img : List ℕ) (b : ℕ) (c : Command) → meaning b ≡ c → dropped c u ≡ false → step u img b ≡ effect c u img b
unfolding commanded
step_taken {u} ready img b c e t =
    step_commanding u img b ready.at_a_command
    ∙ (ap (λ (c : Command). commanded c u img b) e ∙ ap (λ (t : Bool). cond t (quiet u img) (effect c u img b)) t)

-- the first byte of a packet
means : (k : Kind) → meaning (command_of k) ≡ begin k
unfolding meaning commands command_of
means page_read = refl
means page_program = refl
means unit_program = refl
means block_erase = refl
means all_erase = refl
means id_check = refl

taken : (u : Port) (k : Kind) → Taken u k → dropped (begin k) u ≡ false
unfolding needs_open
taken u k (inl e) = all_take u (begin k) (ap (λ (k : Kind). needs_open (begin k)) e)
taken u k (inr e) = open_takes u (begin k) e

begins : {u : Port} → Ready u → (img : List ℕ) (k : Kind) → Taken u k → step u img (command_of k) ≡ quiet (phased u (Awake (inside k 0))) img
unfolding effect
begins {u} ready img k may = step_taken ready img (command_of k) (begin k) (means k) (taken u k may)

-- how long a packet is shows in its front: before the size byte it is long enough
need_front : (k : Kind) (xs : List ℕ) (n : ℕ) → n < need k xs → n < need k (take n xs)
unfolding need
need_front page_read xs n h = h
need_front page_program xs n h = h
need_front unit_program xs n h = ltb-true n _ (sym (few_sized n xs (4 + get_or xs 3 0) refl) ∙ lt-ltb n (4 + get_or xs 3 0) h)
need_front block_erase xs n h = h
need_front all_erase xs n h = h
need_front id_check xs n h = ltb-true n _ (sym (few_sized n xs (4 + get_or xs 3 0) refl) ∙ lt-ltb n (4 + get_or xs 3 0) h)

some_needed : (k : Kind) (xs : List ℕ) → 0 < need k xs
unfolding need
some_needed page_read xs = omega arith
some_needed page_program xs = omega arith
some_needed unit_program xs = omega arith
some_needed block_erase xs = omega arith
some_needed all_erase xs = omega arith
some_needed id_check xs = omega arith

-- an ending reads the unit's registers and settings alone
ends_alike : (k : Kind) (v : Port) (f : Phase) (got img xs : List ℕ) → finished k v img xs ≡ finished k (whole (state f v.registers) v.settings got) img xs
unfolding finished programs erases ended
ends_alike page_read v f got img xs = refl
ends_alike page_program v f got img xs = refl
ends_alike unit_program v f got img xs = refl
ends_alike block_erase v f got img xs = refl
ends_alike all_erase v f got img xs = refl
ends_alike id_check v f got img xs = refl

-- the packet's bytes but the last
module _ {u : Port} (ready : Ready u) (img : List ℕ) (k : Kind) (may : Taken u k) (xs : List ℕ) (fits : length xs ≤ 259) (long : length xs ≡ need k xs) where
  -- what is stored
  stored : {j : ℕ} {o : Outcome} → Partway u img k xs j o → j < length xs → body j o.unit (get_or xs j 0) ≡ take (suc j) xs
  unfolding body
  stored {j} {o} p h =
      ap (λ (l : List ℕ). take j l ++ get_or xs j 0 ∷ []) p.collected
      ∙ (ap (λ (l : List ℕ). l ++ get_or xs j 0 ∷ []) (take_at (take j xs) (drop j u.collected) j (length-take-le j xs (omega arith)))
      ∙ sym (take-suc xs j 0 h))

  -- the run of one byte more
  next : (j : ℕ) → j < length xs → run u img (command_of k ∷ take (suc j) xs) ≡ onward (run u img (command_of k ∷ take j xs)) (get_or xs j 0 ∷ [])
  next j h = ap (λ (l : List ℕ). run u img (command_of k ∷ l)) (take-suc xs j 0 h) ∙ run_append u img (command_of k ∷ take j xs) (get_or xs j 0 ∷ [])

  -- a byte that is not the last, and the last one
  goes_on : {j : ℕ} {o : Outcome} → Partway u img k xs j o → suc j < length xs → Partway u img k xs (suc j) (onward o (get_or xs j 0 ∷ []))
  goes_on {j} {o} p h =
      let b = get_or xs j 0 in
      let v = o.unit in
      let e : run v o.image (b ∷ []) ≡ quiet (longer v k j b) img =
      run_one v o.image b
      ∙ (ap (λ (l : List ℕ). step v l b) p.image
      ∙ (step_inside_phase v img b k j p.phase ∙ packet_more k j v img b (rw (stored p (omega arith)) (λ q. omega (arith, need_front k xs (suc j) (omega arith)))))) in
      subst (λ (r : Outcome). Partway u img k xs (suc j) (says r.unit r.image (o.reply ++ r.reply))) (sym e)
      (record {
        phase = longer_phase v k j b;
        registers = longer_registers v k j b ∙ p.registers;
        settings = longer_settings v k j b ∙ p.settings;
        collected = longer_collected v k j b ∙ (ap (λ (l : List ℕ). set l j b) p.collected ∙ copy_one xs u.collected j (omega arith) (omega (arith, ready.room)));
        image = refl;
        reply = append-nil o.reply ∙ p.reply;
      })

  last : {j : ℕ} {o : Outcome} → Partway u img k xs j o → suc j ≡ length xs → onward o (get_or xs j 0 ∷ []) ≡ finished k u img xs
  last {j} {o} p h =
      let b = get_or xs j 0 in
      let v = o.unit in
      let all : body j v b ≡ xs = stored p (omega arith) ∙ take_all (suc j) xs (omega arith) in
      let e : run v o.image (b ∷ []) ≡ finished k v img xs =
      run_one v o.image b
      ∙ (ap (λ (l : List ℕ). step v l b) p.image
      ∙ (step_inside_phase v img b k j p.phase
      ∙ (packet_last k j v img b (h ∙ (long ∙ ap (need k) (sym all))) ∙ ap (finished k v img) all))) in
      ap₂ (λ (l : List ℕ) (r : Outcome). says r.unit r.image (l ++ r.reply)) p.reply e
      ∙ (ends_alike k v u.phase u.collected img xs
      ∙ ap₂ (λ (r : Registers) (s : Settings). finished k (whole (state u.phase r) s u.collected) img xs) p.registers p.settings)

  -- so each byte but the last is only stored
  pub partway : (j : ℕ) → j < length xs → Partway u img k xs j (run u img (command_of k ∷ take j xs))
  partway zero h =
      subst (Partway u img k xs 0) (sym (run_one u img (command_of k) ∙ begins ready img k may))
      (record {
        phase = phased_phase u (Awake (inside k 0));
        registers = phased_registers u (Awake (inside k 0));
        settings = phased_settings u (Awake (inside k 0));
        collected = phased_collected u (Awake (inside k 0));
        image = refl;
        reply = refl;
      })
  partway (suc j) h = subst (Partway u img k xs (suc j)) (sym (next j (omega arith))) (goes_on (partway j (omega arith)) h)

  -- and the last one ends the packet
  pub comes_to : run u img (command_of k ∷ xs) ≡ finished k u img xs
  comes_to =
      let j : ℕ = length xs - 1 in
      let h : suc j ≡ length xs = omega (arith, some_needed k xs) in
      ap (λ (l : List ℕ). run u img (command_of k ∷ l)) (sym (take_all (suc j) xs (omega arith)))
      ∙ (next j (omega arith) ∙ last (partway j (omega arith)) h)

-- a packet that ends as `ended` says
pub ends : (u : Port) (r : Registers) (P : List ℕ → Type 0) (new said : List ℕ) → P new → Ends u r P said (says (ended u r) new said)
ends u r P new said h =
    record {
      phase = ended_phase u r;
      registers = ended_registers u r;
      settings = ended_settings u r;
      collected = ended_collected u r;
      image = h;
      reply = refl;
    }

-- SR4 or SR5 stands where SRD is not 80, and only there
pub stands : (r : Registers) → r.srd ≢ 0x80 → standing r ≡ true
unfolding standing
stands r h = rw (ne_eqb r.srd 0x80 h)

pub none_stands : (r : Registers) → r.srd ≡ 0x80 → standing r ≡ false
unfolding standing
none_stands r h = rw (eq-eqb r.srd 0x80 h)
