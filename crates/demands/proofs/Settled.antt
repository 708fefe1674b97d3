-- Document 01: "From any awake state, at most 259 further bytes bring the unit to a command position." The trace from there on is the run of its bytes, and a run settles.
use Prim.Native.Nat.{ℕ, ◌+◌, ◌≤◌}
use native.Mathlib.Omega.{arith}
use mathlib.Core.Path.{◌≡◌, ap, ◌∙◌}
use mathlib.Core.List.{List}
use lib.ListN.{length, drop, length-drop}
use Rattle.slices.proofs.Lists.{bytes_drop}
use Rattle.unit.specs.declared.Unit.{Unit as Port}
use Rattle.unit.specs.declared.Phase.TheVariants.{Awake}
use Rattle.unit.specs.declared.Place.{Place}
use Rattle.unit.specs.declared.Place.TheVariants.{Command}
use Rattle.protocol.proofs.Settles.{settles}
use Rattle.demands.specs.Histories.{Call, Calls, Fit, unit_after, image_after, taken}
use Rattle.demands.proofs.Traces.{taken_long, unit_onward}
use Rattle.demands.proofs.Bridge.{stepped, sound_at, bytes_are}

-- after any j bytes of calls on a unit in range that leave it awake, and 259 more, it was at a command position after at most 259 of these
pub calls_settle : {u : Port} {img : List ℕ} {cs : List Call} → Fit u img → (c : Calls u img cs) → (j : ℕ) {p : Place} → (unit_after u c.trace j).phase ≡ Awake p
    → j + 259 ≤ length c.trace → (i : ℕ) × (i ≤ 259) × ((unit_after u c.trace (j + i)).phase ≡ Awake Command)
calls_settle {u} {img} f c j awake long =
    let bs : List ℕ = drop j (taken c.trace) in
    let (i, most, there) =
    settles (sound_at f c j) awake (image_after img c.trace j) bs (omega (arith, length-drop j (taken c.trace), taken_long c.trace)) (bytes_drop j (taken c.trace) (bytes_are f c)) in
    (i, most, ap (λ (v : Port). v.phase) (unit_onward (stepped f c) j i (j + i) (omega arith)) ∙ there)
