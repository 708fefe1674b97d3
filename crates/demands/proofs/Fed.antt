-- "two units fed the same bytes": whatever calls brought them. Each trace is the run of its bytes, and two units that cannot be told apart answer the same run alike.
use Prim.Native.Nat.{ℕ, zero, suc, ◌≤◌, ◌<◌}
use native.Mathlib.Omega.{arith}
use mathlib.Core.Logic.{◌↔◌}
use mathlib.Core.Path.{◌≡◌, ap, ap₂, sym, ◌∙◌, subst, subst⁻¹}
use mathlib.Core.List.{List, []}
use lib.ListN.{length, get_or, take}
use lib.Seq.{take-take, get_or-take}
use Rattle.slices.proofs.Lists.{bytes_take}
use Rattle.unit.specs.declared.Unit.{Unit as Port}
use Rattle.unit.specs.declared.Inputs.{Inputs}
use Rattle.protocol.specs.Outcome.{Outcome, says}
use Rattle.protocol.specs.Step.{step, run}
use Rattle.demands.specs.Locking.{Locked, FirstLocked}
use Rattle.demands.specs.Record.{Open}
use Rattle.demands.specs.Flash.{ids, Blank}
use Rattle.demands.specs.Histories.{Call, Entry, Calls, History, Fit, unit_after, taken, At}
use Rattle.demands.specs.Opening.{ShutBefore, SameHeard}
use Rattle.demands.proofs.Traces.{at_position, byte_taken, unit_next}
use Rattle.demands.proofs.Bridge.{start_fit, unit_is, image_is, entry_is, bytes_are}
use Rattle.demands.proofs.Twins.{Twin, twin_onward, one_heard, shut_to}
use Rattle.demands.proofs.Demand3.{twin}

-- the k-th entry of calls is the step of its byte after the run of the bytes before it
entry_runs : {u : Port} {img : List ℕ} {cs : List Call} (f : Fit u img) (c : Calls u img cs) {k : ℕ} {e : Entry} → At c.trace k e
    → let o = run u img (take k (taken c.trace)) in step o.unit o.image e.byte ≡ says e.unit e.image e.reply
entry_runs f c {k} {e} a =
    ap₂ (λ (v : Port) (l : List ℕ). step v l e.byte) (sym (unit_is f c k)) (sym (image_is f c k)) ∙ (entry_is f c a).leads

pub fed_the_same : {img img' : List ℕ} {inputs inputs' : Inputs} {cs cs' : List Call} (h : History img inputs cs) (h' : History img' inputs' cs')
    → ids img ≡ ids img' → (Blank img → ⊥) → (Blank img' → ⊥)
    → (k : ℕ) (e f : Entry) → At h.calls.trace k e → At h'.calls.trace k f → take (suc k) (taken h.calls.trace) ≡ take (suc k) (taken h'.calls.trace)
    → ShutBefore h.started.unit h.calls.trace (suc k) → SameHeard e f
fed_the_same {img} {img'} h h' same n n' k e f a a' fed shut =
    let u : Port = h.started.unit in
    let u' : Port = h'.started.unit in
    let bs : List ℕ = taken h.calls.trace in
    let bs' : List ℕ = taken h'.calls.trace in
    let before : take k bs ≡ take k bs' = sym (take-take k (suc k) bs (omega arith)) ∙ (ap (take k) fed ∙ take-take k (suc k) bs' (omega arith)) in
    let byte : e.byte ≡ f.byte =
    sym (byte_taken a)
    ∙ (sym (get_or-take (suc k) bs k 0 (omega arith)) ∙ (ap (λ (l : List ℕ). get_or l k 0) fed ∙ (get_or-take (suc k) bs' k 0 (omega arith) ∙ byte_taken a'))) in
    let closed : (j : ℕ) → j < suc k → Open (run u img (take j bs)).unit → ⊥ = λ j l o. shut j l (ap (λ (v : Port). v.registers.srd1) (unit_is (start_fit h) h.calls j) ∙ o) in
    let o : Outcome = run u img (take k bs) in
    let o' : Outcome = run u' img' (take k bs) in
    let t : Twin o.unit o.image o'.unit o'.image =
    twin_onward {u = u} {u' = u'} {img = img} {img' = img'} (twin h h' same n n') (take k bs) (bytes_take k bs (bytes_are (start_fit h) h.calls))
    (shut_to u img bs k (λ j l. closed j (omega arith))) in
    let w = one_heard t e.byte (entry_is (start_fit h) h.calls a).small (closed k (omega arith)) in
    let x : step o.unit o.image e.byte ≡ says e.unit e.image e.reply = entry_runs (start_fit h) h.calls a in
    let y : step o'.unit o'.image e.byte ≡ says f.unit f.image f.reply =
    ap₂ (λ (l : List ℕ) (b : ℕ). step (run u' img' l).unit (run u' img' l).image b) before byte ∙ entry_runs (start_fit h') h'.calls a' in
    record {
      reply = ap (λ (z : Outcome). z.reply) (sym x) ∙ (w.reply ∙ ap (λ (z : Outcome). z.reply) y);
      phase = ap (λ (z : Outcome). z.unit.phase) (sym x) ∙ (w.phase ∙ ap (λ (z : Outcome). z.unit.phase) y);
      registers = ap (λ (z : Outcome). z.unit.registers) (sym x) ∙ (w.registers ∙ ap (λ (z : Outcome). z.unit.registers) y);
      collected = ap (λ (z : Outcome). z.unit.collected) (sym x) ∙ (w.collected ∙ ap (λ (z : Outcome). z.unit.collected) y);
    }

-- "two units with the same ID bytes lock at the same byte" (document 02, Item 5): whatever calls brought the bytes
module _ {img img' : List ℕ} {inputs inputs' : Inputs} {cs cs' : List Call} (h : History img inputs cs) (h' : History img' inputs' cs')
    (same : ids img ≡ ids img') (n : Blank img → ⊥) (n' : Blank img' → ⊥)
    (k : ℕ) (most : k ≤ length h.calls.trace) (most' : k ≤ length h'.calls.trace) (fed : take k (taken h.calls.trace) ≡ take k (taken h'.calls.trace))
    (shut : ShutBefore h.started.unit h.calls.trace k) where
  abbrev es : List Entry
  es = h.calls.trace

  abbrev es' : List Entry
  es' = h'.calls.trace

  -- after j of these bytes the registers are equal
  registers_alike : (j : ℕ) → j ≤ k → (unit_after h.started.unit es j).registers ≡ (unit_after h'.started.unit es' j).registers
  registers_alike zero l = (twin h h' same n n' [] tt (λ j q. absurd (omega arith))).registers
  registers_alike (suc j) l =
      let (e, a) = at_position es j (omega arith) in
      let (f, b) = at_position es' j (omega arith) in
      let front : take (suc j) (taken es) ≡ take (suc j) (taken es') =
      sym (take-take (suc j) k (taken es) l) ∙ (ap (take (suc j)) fed ∙ take-take (suc j) k (taken es') l) in
      let w = fed_the_same h h' same n n' j e f a b front (λ i q. shut i (omega arith)) in
      ap (λ (u : Port). u.registers) (unit_next h.started.unit a) ∙ (w.registers ∙ ap (λ (u : Port). u.registers) (sym (unit_next h'.started.unit b)))

  locked_alike : (j : ℕ) → j ≤ k → Locked (unit_after h.started.unit es j).registers ↔ Locked (unit_after h'.started.unit es' j).registers
  locked_alike j l = (subst Locked (registers_alike j l), subst⁻¹ Locked (registers_alike j l))

  pub locks_together : FirstLocked h.started.unit h.calls.trace k ↔ FirstLocked h'.started.unit h'.calls.trace k
  locks_together = (
    (λ f. record { locked = (locked_alike k (omega arith)).0 f.locked; before = λ j q p. f.before j q ((locked_alike j (omega arith)).1 p) }),
    (λ f. record { locked = (locked_alike k (omega arith)).1 f.locked; before = λ j q p. f.before j q ((locked_alike j (omega arith)).0 p) }),
  )
