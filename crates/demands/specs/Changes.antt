-- Demand 2: "Every permitted program or erase takes its full effect at its packet's last byte. Nothing else changes the image, and no stream changes a protected block."
use Rattle.std.specs.Prelude.{ℕ, suc, ◌+◌, ◌*◌, ◌%◌, ◌≤◌, ◌<◌, ◌≡◌, ◌⊎◌, List, [], ◌∷◌, length, get_or}
use Rattle.std.specs.Int.Bits.{bit_and}
use Rattle.unit.specs.declared.Unit.{Unit as Port}
use Rattle.unit.specs.declared.Phase.TheVariants.{Awake}
use Rattle.unit.specs.declared.Place.TheVariants.{Command}
use Rattle.demands.specs.Record.{Open}
use Rattle.demands.specs.Flash.{InBlock, Address, Unprotected}
use Rattle.demands.specs.Histories.{Entry, unit_after, image_after, bytes_to}

-- where a packet that may write begins: at a command, the unit open, and neither SR4 nor SR5 standing
pub record Begins (u : Port) : Type 0 where
  pub at_a_command : u.phase ≡ Awake Command
  pub opened : Open u
  pub ready : u.registers.srd ≡ 0x80

-- a program may be carried out: there are data, the low 16 address bits plus their number do not exceed what its packet may reach, and each byte lies in a block that is not protected
pub record MayProgram (reach p a : ℕ) (ds : List ℕ) : Type 0 where
  pub some : 0 < length ds
  pub bank : a % 65536 + length ds ≤ reach
  pub free : (j : ℕ) → j < length ds → (i : ℕ) × (k : ℕ) × Address (a + j) i k × Unprotected p i

-- programming leaves old AND new at the places of its addresses, and every other place as it was
pub record Programmed (a : ℕ) (ds img new : List ℕ) : Type 0 where
  pub size : length new ≡ length img
  pub there : (j i k : ℕ) → j < length ds → Address (a + j) i k → get_or new k 0 ≡ bit_and (get_or img k 0) (get_or ds j 0)
  pub elsewhere : (x i k : ℕ) → Address x i k → (x < a) ⊎ (a + length ds ≤ x) → get_or new k 0 ≡ get_or img k 0

-- erasing leaves FF in each block of which P holds, and every other place as it was
pub record Erased (P : ℕ → Type 0) (img new : List ℕ) : Type 0 where
  pub size : length new ≡ length img
  pub there : (i k : ℕ) → InBlock i k → P i → get_or new k 0 ≡ 0xFF
  pub elsewhere : (i k : ℕ) → InBlock i k → (P i → ⊥) → get_or new k 0 ≡ get_or img k 0

-- the bytes of a program packet, with its address, its data and how far the low 16 address bits plus their number may reach: 41, mid, high, 256 data, to the end of the bank;
-- 49, low, mid, high, size n, n data, not to the bank's last byte (document 02, Item 3)
pub data Programs : List ℕ → ℕ → List ℕ → ℕ → Type 0 where
  page : {mid high : ℕ} {ds : List ℕ} → length ds ≡ 256 → Programs (0x41 ∷ mid ∷ high ∷ ds) (256 * mid + 65536 * high) ds 65536
  bytes : {low mid high : ℕ} {ds : List ℕ} → length ds < 256 → Programs (0x49 ∷ low ∷ mid ∷ high ∷ length ds ∷ ds) (low + 256 * mid + 65536 * high) ds 65535

-- a whole packet that is permitted under protection p: a program that may be carried out; 20, mid, high, D0, an address in a block that is not protected; A7, D0
pub data Permitted (p : ℕ) : List ℕ → Type 0 where
  program : {packet ds : List ℕ} {a reach : ℕ} → Programs packet a ds reach → MayProgram reach p a ds → Permitted p packet
  block : {mid high i k : ℕ} → Address (256 * mid + 65536 * high) i k → Unprotected p i → Permitted p (0x20 ∷ mid ∷ high ∷ 0xD0 ∷ [])
  all : Permitted p (0xA7 ∷ 0xD0 ∷ [])

-- and what it leaves of an image
abbrev pub Leaves : {p : ℕ} {packet : List ℕ} → Permitted p packet → List ℕ → List ℕ → Type 0
Leaves (program {ds = ds} {a = a} s m) img new = Programmed a ds img new
Leaves (block {i = i} d f) img new = Erased (λ (j : ℕ). j ≡ i) img new
Leaves {p} all img new = Erased (Unprotected p) img new

abbrev pub Carries : ℕ → List ℕ → List ℕ → List ℕ → Type 0
Carries p img packet new = (m : Permitted p packet) × Leaves m img new

-- a permitted packet from its first byte, the j-th, to its last, the k-th: it takes its full effect at its last byte, and none before
pub record FullEffect (p : ℕ) (img : List ℕ) (es : List Entry) (j k : ℕ) : Type 0 where
  pub before : (m : ℕ) → j ≤ m → m ≤ k → image_after img es m ≡ image_after img es j
  pub at_last : Carries p (image_after img es j) (bytes_to es j k) (image_after img es (suc k))

-- what the k-th byte does to the image: nothing, or it is the last byte of a permitted packet, which began at the j-th
pub data Change (p : ℕ) (u : Port) (img : List ℕ) (es : List Entry) (k : ℕ) (new : List ℕ) : Type 0 where
  none : new ≡ image_after img es k → Change p u img es k new
  last : (j : ℕ) → j ≤ k → Begins (unit_after u es j) → Carries p (image_after img es k) (bytes_to es j k) new → Change p u img es k new
