-- Document 01, "ID check, at the end", with document 02's Item 5: what a complete ID packet makes of SRD1 and of the count of wrong ones.
use Rattle.std.specs.Prelude.{ℕ, suc, min, ◌<◌, ◌≡◌, List, ◌∷◌}
use Rattle.unit.specs.declared.Registers.{Registers}
use Rattle.demands.specs.Record.{lock_after, check_becomes}
use Rattle.demands.specs.Flash.{ids}

-- the right ID packet of an image: F5, address 00FFDF, size seven, the seven stored bytes
abbrev pub Right : List ℕ → List ℕ → Type 0
Right img packet = packet ≡ 0xF5 ∷ 0xDF ∷ 0xFF ∷ 0x00 ∷ 0x07 ∷ ids img

-- the registers before an ID packet's last byte and after it, of a unit that did not start blank: the right one opens it where fewer than three wrong ones were counted;
-- where three were, the right one gives 04, also to a unit that was open; any other gives 04 too, and is counted, up to three. A right one does not set the count back; no other register changes
pub data Checked (img packet : List ℕ) (before after : Registers) : Type 0 where
  opens : Right img packet → before.mismatches < lock_after → after ≡ check_becomes 0x0C before.mismatches before → Checked img packet before after
  too_late : Right img packet → before.mismatches ≡ lock_after → after ≡ check_becomes 0x04 lock_after before → Checked img packet before after
  counts : (Right img packet → ⊥) → after ≡ check_becomes 0x04 (min lock_after (suc before.mismatches)) before → Checked img packet before after
