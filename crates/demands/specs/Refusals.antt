-- Demand 1: "A call refuses a wrong image size, a protection number out of range, too little reply room, a unit record out of its ranges, [..] and only then.
-- A refusal hands back the unit as given (at start, the fixed idle unit), no reply, and image and reply area unchanged."
use Rattle.std.specs.Prelude.{ℕ, ◌≤◌, ◌<◌, ◌≡◌, ◌≢◌, ◌⊎◌, ◌↔◌, List, length}
use Rattle.unit.specs.declared.Unit.{Unit as Port}
use Rattle.unit.specs.declared.Inputs.{Inputs}
use Rattle.protocol.specs.declared.Started.{Started}
use Rattle.protocol.specs.Calls.{Left}
use Rattle.demands.specs.Record.{InRange, Idle, Fresh}
use Rattle.demands.specs.Flash.{Blank}

-- a refusal hands everything back as it was given
pub record HandsBack (u : Port) (img area : List ℕ) (l : Left) : Type 0 where
  pub unit : l.answer.unit ≡ u
  pub taken : l.answer.taken ≡ 0
  pub reply : l.answer.reply_len ≡ 0
  pub image : l.image ≡ img
  pub area_kept : l.area ≡ area

-- a start's number: 1 for a wrong image size, 2 for a protection over 15, the lower first, 0 exactly where neither holds
pub record StartExact (img : List ℕ) (inputs : Inputs) (r : Started) : Type 0 where
  pub none : (r.refusal ≡ 0) ↔ ((length img ≡ 20480) × (inputs.protection ≤ 15))
  pub image : (r.refusal ≡ 1) ↔ (length img ≢ 20480)
  pub protection : (r.refusal ≡ 2) ↔ ((length img ≡ 20480) × (15 < inputs.protection))
  pub answer : ((r.refusal ≡ 0) × Fresh (Blank img) inputs.protection r.unit) ⊎ (((r.refusal ≡ 1) ⊎ (r.refusal ≡ 2)) × Idle r.unit)

-- a byte's or a run's number: 1 for a wrong image size, 3 for a reply area under 256 bytes, 4 for a unit out of range, the lowest first, 0 exactly where none holds
pub record Exact (u : Port) (img area : List ℕ) (l : Left) : Type 0 where
  pub none : (l.answer.refusal ≡ 0) ↔ ((length img ≡ 20480) × (256 ≤ length area) × InRange u)
  pub image : (l.answer.refusal ≡ 1) ↔ (length img ≢ 20480)
  pub room : (l.answer.refusal ≡ 3) ↔ ((length img ≡ 20480) × (length area < 256))
  pub range : (l.answer.refusal ≡ 4) ↔ ((length img ≡ 20480) × (256 ≤ length area) × (InRange u → ⊥))
  pub answer : (l.answer.refusal ≡ 0) ⊎ (((l.answer.refusal ≡ 1) ⊎ (l.answer.refusal ≡ 3) ⊎ (l.answer.refusal ≡ 4)) × HandsBack u img area l)
