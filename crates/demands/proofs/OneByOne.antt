-- What bytes do is settled by the bytes: each entry of a trace is the step of its byte from what the one before it left, whichever call brought the byte.
use Prim.Native.Nat.{ℕ, zero, suc}
use native.Mathlib.Omega.{arith}
use mathlib.Core.Path.{◌≡◌, ap, sym, ◌∙◌, subst⁻¹}
use mathlib.Core.List.{List}
use lib.ListN.{length, take}
use Rattle.unit.specs.declared.Unit.{Unit as Port}
use Rattle.protocol.specs.Outcome.{Outcome, says}
use Rattle.protocol.specs.Step.{step}
use Rattle.demands.specs.Histories.{Call, Entry, Calls, Fit, taken}
use Rattle.demands.specs.Table.{Renumbered}
use Rattle.demands.specs.Table.Renumbered.{none, next as then}
use Rattle.demands.proofs.Traces.{Stepped}
use Rattle.demands.proofs.Traces.Stepped.{done, next}
use Rattle.demands.proofs.Bridge.{stepped}

same_steps : {u : Port} {img : List ℕ} {es fs : List Entry} → Stepped u img es → Stepped u img fs → (k : ℕ) → take k (taken es) ≡ take k (taken fs) → Renumbered (take k es) (take k fs)
same_steps s t zero q = none
same_steps done done (suc k) q = none
same_steps done (next m t) (suc k) q = absurd (let z : 0 ≡ suc _ = ap length q in omega (arith, z))
same_steps (next n s) done (suc k) q = absurd (let z : suc _ ≡ 0 = ap length q in omega (arith, z))
same_steps {u} {img} (next {e = e} {es = es} n s) (next {e = f} {es = fs} m t) (suc k) q =
    let byte : e.byte ≡ f.byte = cc in
    let rest : take k (taken es) ≡ take k (taken fs) = cc in
    let both : says e.unit e.image e.reply ≡ says f.unit f.image f.reply = sym n.leads ∙ (ap (step u img) byte ∙ m.leads) in
    let unit : e.unit ≡ f.unit = ap (λ (o : Outcome). o.unit) both in
    let image : e.image ≡ f.image = ap (λ (o : Outcome). o.image) both in
    then byte (ap (λ (o : Outcome). o.reply) both) unit image
    (same_steps s (subst⁻¹ (λ (v : Port). Stepped v e.image fs) unit (subst⁻¹ (λ (l : List ℕ). Stepped f.unit l fs) image t)) k rest)

-- "A run of bytes equals its bytes one by one": two lists of calls on one unit and image that took the same first k bytes did the same with them
pub one_by_one : {u : Port} {img : List ℕ} {cs ds : List Call} → Fit u img → (c : Calls u img cs) (d : Calls u img ds)
    → (k : ℕ) → take k (taken c.trace) ≡ take k (taken d.trace) → Renumbered (take k c.trace) (take k d.trace)
one_by_one f c d k q = same_steps (stepped f c) (stepped f d) k q
