-- Document 01, "Waking" and "Packets", for a port that has not opened: the pieces that a log of bytes is made of, and each piece's bytes.
use Rattle.std.specs.Prelude.{ℕ, ◌+◌, ◌≤◌, ◌<◌, ◌≡◌, ◌≢◌, List, [], ◌∷◌, ◌++◌, length, get_or, replicate}

-- P holds of each element
abbrev pub Each : {A : Type 0} → (A → Type 0) → List A → Type 0
Each P [] = Unit {0}
Each P (x ∷ xs) = P x × Each P xs

-- the pieces' bytes, one piece after the other
abbrev pub joined : {A : Type 0} → (A → List ℕ) → List A → List ℕ
joined f [] = []
joined f (x ∷ xs) = f x ++ joined f xs

-- waking: a stretch of zeros and the byte that ends it
pub record Stretch : Type 0 where
  pub zeros : ℕ
  pub last : ℕ

abbrev pub stretch_bytes : Stretch → List ℕ
stretch_bytes s = replicate s.zeros 0x00 ++ s.last ∷ []

-- sixteen zeros or more and B0 wake the port
abbrev pub Wakes : Stretch → Type 0
Wakes s = (16 ≤ s.zeros) × (s.last ≡ 0xB0)

-- any other stretch does not
abbrev pub Dull : Stretch → Type 0
Dull s = (s.last ≢ 0x00) × (Wakes s → ⊥)

-- once awake, while closed: a lone byte, or F5, low, mid, high, size n and n bytes
pub data Packet : Type 0 where
  lone : ℕ → Packet
  check : ℕ → ℕ → ℕ → List ℕ → Packet

abbrev pub packet_bytes : Packet → List ℕ
packet_bytes (lone b) = b ∷ []
packet_bytes (check low mid high ds) = 0xF5 ∷ low ∷ mid ∷ high ∷ length ds ∷ ds

-- F5 is never a lone byte, and a size is a byte
abbrev pub Formed : Packet → Type 0
Formed (lone b) = b ≢ 0xF5
Formed (check low mid high ds) = length ds < 256

-- the bytes end inside a packet: none have come, or F5 with fewer after it than it asks for
abbrev pub Unfinished : List ℕ → Type 0
Unfinished [] = Unit {0}
Unfinished (b ∷ t) = (b ≡ 0xF5) × (length t < 4 + get_or t 3 0)

-- the right ID packet: address 00FFDF, size seven, the seven stored bytes
abbrev pub right : List ℕ → Packet
right ids = check 0xDF 0xFF 0x00 ids
