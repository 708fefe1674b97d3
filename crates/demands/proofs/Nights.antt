-- Asleep, a stretch of zeros raises the count up to 16 and the byte that ends it sets it back, but for B0 at 16, which wakes the unit.
use Prim.Native.Nat.{ℕ, zero, suc, ◌+◌, ◌≤◌, min}
use native.Mathlib.Omega.{arith}
use mathlib.Core.Path.{◌≡◌, refl, ◌∙◌, subst}
use mathlib.Core.List.{List, [], ◌∷◌}
use lib.ListN.{replicate}
use Rattle.packets.specs.Pieces.{Each, joined, Stretch, stretch_bytes, Wakes, Dull}
use Rattle.unit.specs.declared.Unit.{Unit as Port}
use Rattle.unit.specs.declared.Phase.{Phase}
use Rattle.unit.specs.declared.Phase.TheVariants.{Asleep, Awake}
use Rattle.unit.specs.declared.Place.TheVariants.{Command}
use Rattle.protocol.specs.Outcome.{Outcome}
use Rattle.protocol.specs.Step.{step}
use Rattle.protocol.specs.Rows.{Turns}
use Rattle.protocol.proofs.RowsSleep.{zero_counts, b0_wakes, other_restarts}
use Rattle.demands.proofs.Calm.{View, Seen, After, Comes, At, none, one, then}

-- the view in another phase
abbrev turned : View → Phase → View
turned v f = record { phase = f; registers = v.registers; collected = v.collected }

turns : {v : View} {u : Port} {img said : List ℕ} {f : Phase} {o : Outcome} → Seen v u → Turns u img f said o → After img (turned v f) said o
turns s t =
    record {
      image = t.image;
      reply = t.reply;
      seen = record { phase = t.phase; registers = t.registers ∙ s.registers; collected = t.collected ∙ s.collected };
    }

module _ {i : List ℕ} where
  -- a waking byte
  turning : {v : View} {c n b : ℕ} (f : Phase) (said : List ℕ) → At (Asleep n) c v
      → ((u : Port) (img : List ℕ) → u.phase ≡ Asleep n → Turns u img f said (step u img b)) → Comes i v (At f c) (b ∷ [])
  turning {v} f said a law =
      one (turned v f) said (record { phase = refl; collected = a.collected; closed = a.closed; counted = a.counted }) a.closed
      (λ u img size sound seen. turns seen (law u img (seen.phase ∙ a.phase)))

  pub zeros : (m n : ℕ) {c : ℕ} {v : View} → m ≤ 16 → At (Asleep m) c v → Comes i v (At (Asleep (min 16 (m + n))) c) (replicate n 0x00)
  zeros m zero {c} {v} h a =
      let e : m ≡ min 16 (m + 0) = omega arith in
      none (subst (λ (k : ℕ). At (Asleep k) c v) e a)
  zeros m (suc n) {c} {v} h a =
      let e : min 16 (min 16 (m + 1) + n) ≡ min 16 (m + suc n) = omega arith in
      subst (λ (k : ℕ). Comes i v (At (Asleep k) c) (0x00 ∷ replicate n 0x00)) e
      (then (turning (Asleep (min 16 (m + 1))) [] a (λ u img p. zero_counts u img m p)) (λ w b. zeros (min 16 (m + 1)) n (omega arith) b))

  pub dull : {c : ℕ} {v : View} (s : Stretch) → Dull s → At (Asleep 0) c v → Comes i v (At (Asleep 0) c) (stretch_bytes s)
  dull s d a =
      then (zeros 0 s.zeros (omega arith) a)
      (λ w b. turning (Asleep 0) [] b (λ u img p. other_restarts u img (min 16 (0 + s.zeros)) p s.last d.0 (λ e. d.1 (omega arith, e.0))))

  pub dulls : {c : ℕ} {v : View} (ss : List Stretch) → Each Dull ss → At (Asleep 0) c v → Comes i v (At (Asleep 0) c) (joined stretch_bytes ss)
  dulls [] d a = none a
  dulls (s ∷ ss) d a = then (dull s d.0 a) (λ w b. dulls ss d.1 b)

  pub wake : {c : ℕ} {v : View} (s : Stretch) → Wakes s → At (Asleep 0) c v → Comes i v (At (Awake Command) c) (stretch_bytes s)
  wake s k a =
      then (zeros 0 s.zeros (omega arith) a)
      (λ w b. turning (Awake Command) (0xB0 ∷ []) b (λ u img p. rw k.1 (b0_wakes u img (min 16 (0 + s.zeros)) p (omega arith))))
