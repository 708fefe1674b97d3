-- Asleep, the byte and the count say which of the three cases it is, and each leaves all but the phase.
use Prim.Native.Nat.{ℕ, suc, ◌+◌, min}
use native.Mathlib.Numerals.{add-one}
use mathlib.Core.Bool.{Bool, true, false}
use mathlib.Core.Logic.{◌≢◌}
use mathlib.Core.Path.{◌≡◌, refl, sym, ◌∙◌, subst}
use mathlib.Core.List.{List, [], ◌∷◌}
use lib.Dec.{eqb}
use borrow.Author.Tests.{ne_eqb, eqb-true}
use Rattle.slices.proofs.Lists.{and_both}
use Rattle.unit.specs.declared.Unit.{Unit as Port}
use Rattle.unit.specs.declared.Phase.{Phase}
use Rattle.unit.specs.declared.Phase.TheVariants.{Asleep, Awake}
use Rattle.unit.specs.declared.Place.TheVariants.{Command}
use Rattle.unit.specs.Model.{phased}
use Rattle.unit.proofs.Builders.{phased_phase, phased_registers, phased_settings, phased_collected}
use Rattle.protocol.specs.Outcome.{Outcome, says}
use Rattle.protocol.specs.Step.{wakes, asleep, step}
use Rattle.protocol.specs.Rows.{Turns}
use Rattle.protocol.proofs.Steps.{step_sleeping}

wakes_both : (n b : ℕ) → wakes n b ≡ true → (b ≡ 0xB0) × (n ≡ 16)
unfolding wakes
wakes_both n b e = let w = and_both (eqb b 0xB0) (eqb n 16) e in (eqb-true b 0xB0 w.0, eqb-true n 16 w.1)

module _ (u : Port) (img : List ℕ) where
  turns : (f : Phase) (said : List ℕ) {o : Outcome} → o ≡ says (phased u f) img said → Turns u img f said o
  turns f said e =
      subst (Turns u img f said) (sym e)
      (record {
        phase = phased_phase u f;
        registers = phased_registers u f;
        settings = phased_settings u f;
        collected = phased_collected u f;
        image = refl;
        reply = refl;
      })

  module _ (n : ℕ) (sleeps : u.phase ≡ Asleep n) where
    -- W1: asleep, 00 raises the count, which stays at 16 once there
    pub zero_counts : Turns u img (Asleep (min 16 (n + 1))) [] (step u img 0x00)
    unfolding asleep
    zero_counts = rw add-one (turns (Asleep (min 16 (suc n))) [] (step_sleeping u img 0x00 sleeps))

    -- W2: B0 at count 16 wakes the unit and replies B0; waking changes no other field
    pub b0_wakes : n ≡ 16 → Turns u img (Awake Command) (0xB0 ∷ []) (step u img 0xB0)
    unfolding asleep wakes
    b0_wakes e = turns (Awake Command) (0xB0 ∷ []) (step_sleeping u img 0xB0 sleeps ∙ rw e)

    -- W3: any other byte, B0 at a lower count included, sets the count to 0. No other reply
    pub other_restarts : (b : ℕ) → b ≢ 0x00 → ((b ≡ 0xB0) × (n ≡ 16) → ⊥) → Turns u img (Asleep 0) [] (step u img b)
    unfolding asleep
    other_restarts b h g = turns (Asleep 0) [] (step_sleeping u img b sleeps ∙ rw (ne_eqb b 0x00 h, dull (wakes n b) refl))
      where
        dull : (t : Bool) → wakes n b ≡ t → wakes n b ≡ false
        dull true e = let w = wakes_both n b e in absurd (g (w.0, w.1))
        dull false e = e
