-- Document 01, "Waking" and "Packets, once awake": what one byte does, and a run of bytes.
use Rattle.std.specs.Prelude.{ℕ, suc, min, Bool, cond, ◌&&◌, List, [], ◌∷◌, ◌++◌, take, eqb}
use Rattle.unit.specs.declared.Unit.{Unit as Port}
use Rattle.unit.specs.declared.Phase.TheVariants.{Asleep, Awake}
use Rattle.unit.specs.declared.Place.TheVariants.{Command}
use Rattle.unit.specs.Phases.{Kind, need, Position, position_of}
use Rattle.unit.specs.Phases.Position.{sleeping, commanding, within}
use Rattle.unit.specs.Model.{phased, longer}
use Rattle.protocol.specs.Outcome.{Outcome, says, quiet}
use Rattle.protocol.specs.Commands.{meaning, commanded}
use Rattle.protocol.specs.Endings.{finished}

-- B0 after sixteen zeros or more
unfoldable pub wakes : ℕ → ℕ → Bool
wakes count b = eqb b 0xB0 && eqb count 16

-- asleep: 00 raises the count, which stays at 16 once there; B0 at 16 wakes; any other byte sets the count to 0
unfoldable pub asleep : ℕ → Port → List ℕ → ℕ → Outcome
asleep count u img b =
    cond (eqb b 0x00) (quiet (phased u (Asleep (min 16 (suc count)))) img)
    (cond (wakes count b) (says (phased u (Awake Command)) img (0xB0 ∷ []))
    (quiet (phased u (Asleep 0)) img))

-- all that has followed the command, with this byte, n bytes after it
unfoldable pub body : ℕ → Port → ℕ → List ℕ
body n u b = take n u.collected ++ b ∷ []

-- this byte is the packet's last
unfoldable pub completes : Kind → ℕ → Port → ℕ → Bool
completes k n u b = eqb (suc n) (need k (body n u b))

-- inside a packet, n bytes after its command: it acts at its last byte only
unfoldable pub in_packet : Kind → ℕ → Port → List ℕ → ℕ → Outcome
in_packet k n u img b = cond (completes k n u b) (finished k u img (body n u b)) (quiet (longer u k n b) img)

unfoldable pub step_at : Position → Port → List ℕ → ℕ → Outcome
step_at (sleeping count) u img b = asleep count u img b
step_at commanding u img b = commanded (meaning b) u img b
step_at (within k n) u img b = in_packet k n u img b

-- one byte
unfoldable pub step : Port → List ℕ → ℕ → Outcome
step u img b = step_at (position_of u.phase) u img b

-- a run of bytes: one by one, replies joined
abbrev pub run : Port → List ℕ → List ℕ → Outcome
run u img [] = quiet u img
run u img (b ∷ bs) =
    let o = step u img b in
    let r = run o.unit o.image bs in
    says r.unit r.image (o.reply ++ r.reply)
