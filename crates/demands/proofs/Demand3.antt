-- A history's trace is the run of the bytes that were taken, so what is proved of runs holds after every byte of every history, whichever calls brought it.
use Prim.Native.Nat.{ℕ, min, ◌≤◌}
use native.Mathlib.Omega.{arith}
use mathlib.Core.Logic.{◌↔◌}
use mathlib.Core.Path.{◌≡◌, ap, sym, ◌∙◌, subst₂}
use mathlib.Core.List.{List}
use lib.ListN.{length, take}
use Rattle.packets.specs.Readings.{Reading}
use Rattle.packets.specs.Counts.{wrong_checks}
use Rattle.slices.proofs.Lists.{bytes_take}
use Rattle.unit.specs.declared.Unit.{Unit as Port}
use Rattle.unit.specs.declared.Inputs.{Inputs}
use Rattle.unit.specs.Model.{fresh}
use Rattle.protocol.specs.Step.{run}
use Rattle.demands.specs.Record.{lock_after}
use Rattle.demands.specs.Flash.{ids, Blank}
use Rattle.demands.specs.Histories.{Call, History, unit_after, image_after, taken}
use Rattle.demands.specs.Opening.{ShutBefore, FirstOpen, OpeningInTime, Unseen}
use Rattle.demands.proofs.Traces.{taken_long}
use Rattle.demands.proofs.Bridge.{start_fresh, start_fit, went, unit_is, image_is, bytes_are}
use Rattle.demands.proofs.Calm.{ShutWithin}
use Rattle.demands.proofs.RunOpens.{run_opens, run_counts, run_unchanged, run_unseen}
use Rattle.demands.proofs.Twins.{Twin, shut_to, shut_from, shown_at, shows_went, same_went}

module _ {img : List ℕ} {inputs : Inputs} {cs : List Call} (h : History img inputs cs) where
  -- the bytes that were taken
  abbrev bytes : List ℕ
  bytes = taken h.calls.trace

  unit_runs : (k : ℕ) → unit_after h.started.unit h.calls.trace k ≡ (run (fresh img inputs) img (take k bytes)).unit
  unit_runs k = unit_is (start_fit h) h.calls k ∙ ap (λ (u : Port). (run u img (take k bytes)).unit) (start_fresh h)

  srd1_runs : (k : ℕ) → (unit_after h.started.unit h.calls.trace k).registers.srd1 ≡ (run (fresh img inputs) img (take k bytes)).unit.registers.srd1
  srd1_runs k = ap (λ (u : Port). u.registers.srd1) (unit_runs k)

  shut_runs : (k : ℕ) → ShutBefore h.started.unit h.calls.trace k → ShutWithin (fresh img inputs) img (take k bytes)
  shut_runs k s = shut_to (fresh img inputs) img bytes k (λ j l o. s j l (srd1_runs j ∙ o))

  module _ (n : Blank img → ⊥) (k : ℕ) where
    -- "Start on an image whose reset vector isn't blank. The unit first opens exactly at the byte that completes the first right ID packet: right address, size seven, the seven stored bytes",
    -- "provided fewer than three complete wrong packets came before it" (document 02, Item 5)
    pub opens_exactly : k ≤ length h.calls.trace → FirstOpen h.started.unit h.calls.trace k ↔ OpeningInTime (ids img) (take k (taken h.calls.trace))
    opens_exactly most =
        let r = run_opens img inputs h.size h.protection n (take k bytes) (bytes_take k bytes (bytes_are (start_fit h) h.calls)) in (
          (λ f. r.0 (sym (srd1_runs k) ∙ f.opens, shut_runs k f.before)),
          (λ o.
              let (opens, shut) = r.1 o in
              record {
                opens = srd1_runs k ∙ opens;
                before = λ j l q. shut_from (fresh img inputs) img bytes k (omega (arith, taken_long h.calls.trace)) shut j l (sym (srd1_runs j) ∙ q);
              }),
        )

    -- "Until then the image stays unchanged": that byte included
    pub unchanged_until : ShutBefore h.started.unit h.calls.trace k → image_after img h.calls.trace k ≡ img
    unchanged_until s =
        image_is (start_fit h) h.calls k ∙ (ap (λ (u : Port). (run u img (take k bytes)).image) (start_fresh h)
        ∙ run_unchanged img inputs h.size h.protection n (take k bytes) (bytes_take k bytes (bytes_are (start_fit h) h.calls)) (shut_runs k s))

    -- up to the first opening, that byte included, the count is the number of complete wrong ID packets of the one reading, 3 at most (Item 5)
    pub counts_until : (r : Reading (ids img) (take k (taken h.calls.trace))) → ShutBefore h.started.unit h.calls.trace k
        → (unit_after h.started.unit h.calls.trace k).registers.mismatches ≡ min lock_after (wrong_checks r.log)
    counts_until r s =
        ap (λ (u : Port). u.registers.mismatches) (unit_runs k)
        ∙ run_counts img inputs h.size h.protection n (take k bytes) (bytes_take k bytes (bytes_are (start_fit h) h.calls)) r (shut_runs k s)

pub twin : {img img' : List ℕ} {inputs inputs' : Inputs} {cs cs' : List Call} (h : History img inputs cs) (h' : History img' inputs' cs')
    → ids img ≡ ids img' → (Blank img → ⊥) → (Blank img' → ⊥) → Twin h.started.unit img h'.started.unit img'
twin {img} {img'} {inputs} {inputs'} h h' same n n' =
    subst₂ (λ (u u' : Port). Twin u img u' img') (sym (start_fresh h)) (sym (start_fresh h'))
    (run_unseen img img' inputs inputs' h.size h'.size h.protection h'.protection n n' same)

-- "[Until then] two units fed the same bytes, on images with the same seven ID bytes and neither blank, give equal replies and registers, whatever else the flash holds."
pub unseen : {img img' : List ℕ} {inputs inputs' : Inputs} {cs : List Call} (h : History img inputs cs) (h' : History img' inputs' cs)
    → ids img ≡ ids img' → (Blank img → ⊥) → (Blank img' → ⊥) → Unseen h h'
unseen h h' same n n' =
    let t = twin h h' same n n' in
    record {
      bytes = shown_at (shows_went (went (start_fit h) h.calls) (went (start_fit h') h'.calls) t);
      calls = same_went (went (start_fit h) h.calls) (went (start_fit h') h'.calls) t;
    }
