-- In a history a full count means a locked unit, and an unchecked unit has counted nothing: SRD1 and the count change together, at the end of an ID packet, and no such end leaves the two so.
use Prim.Native.Nat.{ℕ, zero, suc, ◌<◌}
use native.Mathlib.Omega.{arith}
use native.Mathlib.Decide.{dec_lt}
use mathlib.Core.Bool.{Bool, true, false, false≢true}
use mathlib.Core.Logic.{◌≢◌, inl, inr}
use mathlib.Core.Path.{◌≡◌, refl, ap, sym, ◌∙◌, subst, subst⁻¹}
use mathlib.Core.List.{List}
use Rattle.unit.specs.declared.Unit.{Unit as Port}
use Rattle.unit.specs.declared.Registers.{Registers}
use Rattle.unit.specs.declared.Settings.{Settings}
use Rattle.unit.specs.declared.Inputs.{Inputs}
use Rattle.unit.specs.Model.{with_srd1}
use Rattle.unit.proofs.Ranged.{Sound, BlankRule, settings_blank}
use Rattle.unit.proofs.Builders.{fresh_mismatches}
use Rattle.protocol.specs.Outcome.{Outcome}
use Rattle.protocol.specs.Endings.{after_check}
use Rattle.protocol.specs.Step.{step}
use Rattle.protocol.proofs.Mismatches.{blank_checked, wrong_checked, right_checked, locked_checked}
use Rattle.protocol.proofs.Cases.{Leaves, leads, registers_lead}
use Rattle.protocol.proofs.Cases.Leaves.{as_were, srd_set, checks, rate_set}
use Rattle.protocol.proofs.Sound.{sound_step}
use Rattle.demands.specs.Record.{lock_after}
use Rattle.demands.specs.Locking.{Locked}
use Rattle.demands.specs.Histories.{Call, Entry, History, unit_after}
use Rattle.demands.proofs.Traces.{Stepped}
use Rattle.demands.proofs.Traces.Stepped.{done, next}
use Rattle.demands.proofs.Bridge.{fit_sound, start_fresh, start_fit, stepped}

-- SRD1 and the count as a history leaves them
record Fitting (r : Registers) : Type 0 where
  full : r.mismatches ≡ lock_after → r.srd1 ≢ 0x0C
  unchecked : r.srd1 ≡ 0x00 → r.mismatches ≡ 0

-- a unit that is open with fewer counted, and one that a check has closed
opened : (r : Registers) → r.mismatches < lock_after → Fitting (with_srd1 r 0x0C)
opened r few = record { full = λ f o. omega (arith, f); unchecked = λ o. absurd (omega arith) }

mismatch : {r : Registers} → r.srd1 ≡ 0x04 → Fitting r
mismatch e = record { full = λ f o. omega (arith, e, o); unchecked = λ o. absurd (omega (arith, e, o)) }

check_fitting : (t : Settings) (r : Registers) → BlankRule t r → (right : Bool) → Fitting (after_check t.blank r right)
check_fitting t r rule right = go t.blank refl right (dec_lt r.mismatches lock_after)
  where
    none_counted : BlankRule t r → t.blank ≡ true → r.mismatches ≡ 0
    none_counted (inl n) q = absurd (false≢true (sym n ∙ q))
    none_counted (inr (o, z)) q = z

    go : (b : Bool) → t.blank ≡ b → (right : Bool) → Dec (r.mismatches < lock_after) → Fitting (after_check b r right)
    go true q right d = subst⁻¹ Fitting (blank_checked r right) (opened r (omega (arith, none_counted rule q)))
    go false q true (yes few) = subst⁻¹ Fitting (right_checked r few) (opened r few)
    go false q true (no many) = mismatch (ap (λ (x : Registers). x.srd1) (locked_checked r (omega arith)))
    go false q false d = mismatch (ap (λ (x : Registers). x.srd1) (wrong_checked r))

left_fitting : {t : Settings} {r v : Registers} → BlankRule t r → Fitting r → Leaves t r v → Fitting v
left_fitting rule k as_were = k
left_fitting rule k (srd_set s h) = record { full = k.full; unchecked = k.unchecked }
left_fitting rule k (rate_set n h) = record { full = k.full; unchecked = k.unchecked }
left_fitting {t} {r} rule k (checks right) = check_fitting t r rule right

fitting_after : {u : Port} {img : List ℕ} {es : List Entry} → Sound u → Fitting u.registers → Stepped u img es → (k : ℕ) → Fitting (unit_after u es k).registers
fitting_after s f t zero = f
fitting_after s f done (suc k) = f
fitting_after {u} {img} s f (next {e = e} n t) (suc k) =
    let rule = settings_blank u.settings u.registers s.settings in
    let after : Fitting (step u img e.byte).unit.registers = registers_lead Fitting f (λ r l. left_fitting rule f l) (leads u img e.byte) in
    fitting_after (subst (λ (o : Outcome). Sound o.unit) n.leads (sound_step s img e.byte n.small))
    (subst (λ (o : Outcome). Fitting o.unit.registers) n.leads after) t k

module _ {img : List ℕ} {inputs : Inputs} {cs : List Call} (h : History img inputs cs) (k : ℕ) where
  fitting : Fitting (unit_after h.started.unit h.calls.trace k).registers
  fitting =
      let none : h.started.unit.registers.mismatches ≡ 0 = ap (λ (u : Port). u.registers.mismatches) (start_fresh h) ∙ fresh_mismatches img inputs in
      fitting_after (fit_sound (start_fit h)) (record { full = λ f. absurd (omega (arith, none, f)); unchecked = λ o. none }) (stepped (start_fit h) h.calls) k

  -- as many counted as lock a unit: it is locked, whatever the image was
  pub full_is_locked : (unit_after h.started.unit h.calls.trace k).registers.mismatches ≡ lock_after → Locked (unit_after h.started.unit h.calls.trace k).registers
  full_is_locked f = record { closed = fitting.full f; full = f }

  -- not checked: none is counted
  pub unchecked_none : (unit_after h.started.unit h.calls.trace k).registers.srd1 ≡ 0x00 → (unit_after h.started.unit h.calls.trace k).registers.mismatches ≡ 0
  unchecked_none e = fitting.unchecked e
