-- Document 02, Item 5, beside the demands: what a complete ID packet makes of the count at any moment of a history, that nothing else changes it, and where a unit locks.
use Rattle.std.specs.Prelude.{ℕ, suc, ◌≤◌, ◌<◌, ◌≡◌, ◌≢◌, List, ◌∷◌, length}
use Rattle.unit.specs.declared.Unit.{Unit as Port}
use Rattle.unit.specs.declared.Registers.{Registers}
use Rattle.unit.specs.declared.Phase.TheVariants.{Awake}
use Rattle.unit.specs.declared.Place.TheVariants.{Command}
use Rattle.demands.specs.Record.{lock_after}
use Rattle.demands.specs.Histories.{Entry, unit_after, image_after, bytes_to}
use Rattle.demands.specs.Mismatches.{Checked}

-- the registers of a locked unit: it is closed, and so many have been counted
pub record Locked (r : Registers) : Type 0 where
  pub closed : r.srd1 ≢ 0x0C
  pub full : r.mismatches ≡ lock_after

-- the unit is locked after k bytes, and after no fewer
pub record FirstLocked (u : Port) (es : List Entry) (k : ℕ) : Type 0 where
  pub locked : Locked (unit_after u es k).registers
  pub before : (j : ℕ) → j < k → Locked (unit_after u es j).registers → ⊥

-- the bytes of a complete ID packet
pub data IdPacket : List ℕ → Type 0 where
  whole : {low mid high : ℕ} {ds : List ℕ} → length ds < 256 → IdPacket (0xF5 ∷ low ∷ mid ∷ high ∷ length ds ∷ ds)

-- what the k-th byte does to the count: nothing, or it is the last of a complete ID packet, which began at the j-th
pub data Counting (u : Port) (img : List ℕ) (es : List Entry) (k : ℕ) : Type 0 where
  none : (unit_after u es (suc k)).registers.mismatches ≡ (unit_after u es k).registers.mismatches → Counting u img es k
  last : (j : ℕ) → j ≤ k → (unit_after u es j).phase ≡ Awake Command → IdPacket (bytes_to es j k)
      → Checked (image_after img es k) (bytes_to es j k) (unit_after u es k).registers (unit_after u es (suc k)).registers → Counting u img es k
