-- A reading of a log: it ends before the port wakes, or while it is awake and closed, or it has the right ID packet, and what follows that is left unread.
use Rattle.std.specs.Prelude.{ℕ, ◌<◌, ◌≡◌, ◌≢◌, List, [], ◌++◌, replicate}
use Rattle.packets.specs.Pieces.{Each, joined, Stretch, stretch_bytes, Wakes, Dull, Packet, packet_bytes, Formed, Unfinished, right}

-- a list of bytes
abbrev pub Bytes : List ℕ → Type 0
Bytes = Each (λ (b : ℕ). b < 256)

pub data Log : Type 0 where
  -- dull stretches, and zeros to the end
  slept : List Stretch → ℕ → Log
  -- dull stretches, the one that wakes, packets that are not the right one, and an unfinished rest
  stayed_shut : List Stretch → Stretch → List Packet → List ℕ → Log
  -- dull stretches, the one that wakes, packets that are not the right one, the right one, and what follows
  opened : List Stretch → Stretch → List Packet → List ℕ → Log

-- the bytes of a log: those of its pieces, joined
abbrev pub log_bytes : List ℕ → Log → List ℕ
log_bytes ids (slept dull zeros) = joined stretch_bytes dull ++ replicate zeros 0x00
log_bytes ids (stayed_shut dull wake packets rest) =
    joined stretch_bytes dull ++ (stretch_bytes wake ++ (joined packet_bytes packets ++ rest))
log_bytes ids (opened dull wake packets unread) =
    joined stretch_bytes dull ++ (stretch_bytes wake ++ (joined packet_bytes packets ++ (packet_bytes (right ids) ++ unread)))

-- a packet of a port that stays closed
abbrev pub Wrong : List ℕ → Packet → Type 0
Wrong ids p = Formed p × (p ≢ right ids)

-- each piece is what it is taken for
abbrev pub Reads : List ℕ → Log → Type 0
Reads ids (slept dull _) = Each Dull dull
Reads ids (stayed_shut dull wake packets rest) = Each Dull dull × Wakes wake × Each (Wrong ids) packets × Unfinished rest
Reads ids (opened dull wake packets unread) = Each Dull dull × Wakes wake × Each (Wrong ids) packets

-- a reading of these bytes
pub record Reading (ids bs : List ℕ) : Type 0 where
  pub log : Log
  pub reads : Reads ids log
  pub whole : bs ≡ log_bytes ids log

-- the bytes end with the first right ID packet
pub record Opening (ids bs : List ℕ) : Type 0 where
  pub dull : List Stretch
  pub wake : Stretch
  pub packets : List Packet
  pub reads : Reads ids (opened dull wake packets [])
  pub whole : bs ≡ log_bytes ids (opened dull wake packets [])
