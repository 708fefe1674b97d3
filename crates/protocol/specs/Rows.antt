-- Document 01's "Waking" and its packet table over whole packets, in words of their own: what a packet's bytes are, when a program may be carried out, what a byte or a packet leaves.
-- The laws of proofs/Rows* say that the step does so. Nothing here cites the step or its endings.
use Rattle.std.specs.Prelude.{ℕ, suc, min, ◌+◌, ◌*◌, ◌/◌, ◌%◌, ◌^◌, ◌≤◌, ◌<◌, ◌≡◌, ◌≢◌, ◌⊎◌, true, List, [], ◌∷◌, ◌++◌, Some, None, map, length, get_or, take, drop, replicate}
use Rattle.flash.specs.Blocks.{spot, part, find}
use Rattle.flash.specs.Image.{byte_at}
use Rattle.unit.specs.declared.Unit.{Unit as Port}
use Rattle.unit.specs.declared.Registers.{Registers}
use Rattle.unit.specs.declared.Phase.{Phase}
use Rattle.unit.specs.declared.Phase.TheVariants.{Awake}
use Rattle.unit.specs.declared.Place.TheVariants.{Command}
use Rattle.unit.specs.Phases.{Kind, inside}
use Rattle.unit.specs.Phases.Kind.{page_read, page_program, unit_program, block_erase, all_erase, id_check}
use Rattle.unit.specs.Model.{is_open}
use Rattle.unit.specs.Range.{in_range}
use Rattle.protocol.specs.Outcome.{Outcome}

-- a unit in range at a command position
pub record Ready (u : Port) : Type 0 where
  pub at_a_command : u.phase ≡ Awake Command
  pub ranged : in_range u ≡ true
  pub room : length u.collected ≡ 259

-- a waking byte: nothing but the phase has changed, and this was replied
pub record Turns (u : Port) (img : List ℕ) (f : Phase) (said : List ℕ) (o : Outcome) : Type 0 where
  pub phase : o.unit.phase ≡ f
  pub registers : o.unit.registers ≡ u.registers
  pub settings : o.unit.settings ≡ u.settings
  pub collected : o.unit.collected ≡ u.collected
  pub image : o.image ≡ img
  pub reply : o.reply ≡ said

-- a dropped or unknown byte: nothing at all has changed, so that the next byte is a command byte too
pub record Dropped (u : Port) (img : List ℕ) (o : Outcome) : Type 0 where
  pub unit : o.unit ≡ u
  pub image : o.image ≡ img
  pub reply : o.reply ≡ []

-- j of the bytes xs have come since the command of a packet: nothing but the phase and the first j collected bytes has changed, and nothing was replied
pub record Partway (u : Port) (img : List ℕ) (k : Kind) (xs : List ℕ) (j : ℕ) (o : Outcome) : Type 0 where
  pub phase : o.unit.phase ≡ Awake (inside k j)
  pub registers : o.unit.registers ≡ u.registers
  pub settings : o.unit.settings ≡ u.settings
  pub collected : o.unit.collected ≡ take j xs ++ drop j u.collected
  pub image : o.image ≡ img
  pub reply : o.reply ≡ []

-- a taken packet has ended: a command comes next, the registers are r, the settings as they were, all 259 collected bytes 0, the image is as P says, and this was replied
pub record Ends (u : Port) (r : Registers) (P : List ℕ → Type 0) (said : List ℕ) (o : Outcome) : Type 0 where
  pub phase : o.unit.phase ≡ Awake Command
  pub registers : o.unit.registers ≡ r
  pub settings : o.unit.settings ≡ u.settings
  pub collected : o.unit.collected ≡ replicate 259 0
  pub image : P o.image
  pub reply : o.reply ≡ said

-- the image is as it was
abbrev pub Kept : List ℕ → List ℕ → Type 0
Kept img new = new ≡ img

-- the table's columns "Byte" and "After it", of the packets of several bytes
pub data Row : Kind → ℕ → List ℕ → Type 0 where
  after_ff : {mid high : ℕ} → Row page_read 0xFF (mid ∷ high ∷ [])
  after_41 : {mid high : ℕ} {ds : List ℕ} → length ds ≡ 256 → Row page_program 0x41 (mid ∷ high ∷ ds)
  after_49 : {low mid high : ℕ} {ds : List ℕ} → length ds < 256 → Row unit_program 0x49 (low ∷ mid ∷ high ∷ length ds ∷ ds)
  after_20 : {mid high confirm : ℕ} → Row block_erase 0x20 (mid ∷ high ∷ confirm ∷ [])
  after_a7 : {confirm : ℕ} → Row all_erase 0xA7 (confirm ∷ [])
  after_f5 : {low mid high : ℕ} {ds : List ℕ} → length ds < 256 → Row id_check 0xF5 (low ∷ mid ∷ high ∷ length ds ∷ ds)

-- the table's column "Closed?": such a packet is taken by an open unit, and an ID check by any
abbrev pub Taken : Port → Kind → Type 0
Taken u k = (k ≡ id_check) ⊎ (is_open u.registers ≡ true)

-- and the bytes that a closed unit drops
pub data Guarded : ℕ → Type 0 where
  drops_ff : Guarded 0xFF
  drops_41 : Guarded 0x41
  drops_49 : Guarded 0x49
  drops_20 : Guarded 0x20
  drops_a7 : Guarded 0xA7
  drops_50 : Guarded 0x50

-- the 256 bytes of the image from an address on, in rising address order
pub record Page (img : List ℕ) (a : ℕ) (said : List ℕ) : Type 0 where
  pub size : length said ≡ 256
  pub bytes : (j : ℕ) → j < 256 → get_or said j 0 ≡ byte_at part img (a + j)

-- the bytes of a program packet, with the address that it names, its data, and how far the low 16 address bits plus their number may reach:
-- 41, mid, high, 256 data, to the end of the bank; 49, low, mid, high, size n, n data, not to its last byte (document 02, Item 3)
pub data Programs : List ℕ → ℕ → List ℕ → ℕ → Type 0 where
  page : {mid high : ℕ} {ds : List ℕ} → length ds ≡ 256 → Programs (0x41 ∷ mid ∷ high ∷ ds) (256 * mid + 65536 * high) ds 65536
  bytes : {low mid high : ℕ} {ds : List ℕ} → length ds < 256 → Programs (0x49 ∷ low ∷ mid ∷ high ∷ length ds ∷ ds) (low + 256 * mid + 65536 * high) ds 65535

-- a program may be carried out: there are data, the low 16 address bits plus their number reach no further than `most`, and each byte's address is in a block that is not protected
pub record May (most p a : ℕ) (ds : List ℕ) : Type 0 where
  pub some : 0 < length ds
  pub bank : a % 65536 + length ds ≤ most
  pub free : (j : ℕ) → j < length ds → (i : ℕ) × (k : ℕ) × (find part (a + j) ≡ Some (spot i k)) × (p / 2 ^ i % 2 ≡ 0)

-- it may not: n is 0, or the low 16 address bits plus n exceed `most`, or a byte lies outside or in a protected block
pub data MayNot (most p a : ℕ) (ds : List ℕ) : Type 0 where
  none : length ds ≡ 0 → MayNot most p a ds
  bank : most < a % 65536 + length ds → MayNot most p a ds
  outside : (j : ℕ) → j < length ds → find part (a + j) ≡ None → MayNot most p a ds
  protected : (j i k : ℕ) → j < length ds → find part (a + j) ≡ Some (spot i k) → p / 2 ^ i % 2 ≡ 1 → MayNot most p a ds

-- SRD once it was carried out, by the new image: 80, or 90 if some byte then differs from its data
pub data Verified (a : ℕ) (ds new : List ℕ) : ℕ → Type 0 where
  equal : ((j : ℕ) → j < length ds → byte_at part new (a + j) ≡ get_or ds j 0) → Verified a ds new 0x80
  differs : (j : ℕ) → j < length ds → byte_at part new (a + j) ≢ get_or ds j 0 → Verified a ds new 0x90

-- what an erase packet is to erase: the block of an address, or every block that is not protected
pub data Scope : Type 0 where
  block_of : ℕ → Scope
  every_block : Scope

-- the bytes of an erase packet, with its scope and its confirm byte: 20, mid, high, confirm; A7, confirm
pub data Erases : List ℕ → Scope → ℕ → Type 0 where
  block : {mid high confirm : ℕ} → Erases (0x20 ∷ mid ∷ high ∷ confirm ∷ []) (block_of (256 * mid + 65536 * high)) confirm
  all : {confirm : ℕ} → Erases (0xA7 ∷ confirm ∷ []) every_block confirm

-- the right ID packet: its address is 00FFDF, n is 7, and its bytes are the seven ID bytes now in the image
abbrev pub right_packet : List ℕ → List ℕ
right_packet img =
    0xF5 ∷ 0xDF ∷ 0xFF ∷ 0x00 ∷ 0x07 ∷ map (byte_at part img) (0xFFDF ∷ 0xFFE3 ∷ 0xFFEB ∷ 0xFFEF ∷ 0xFFF3 ∷ 0xFFF7 ∷ 0xFFFB ∷ [])

-- the registers as before but for SRD, SRD1 or the rate, field by field
abbrev pub srd_is : Registers → ℕ → Registers
srd_is r s = record { srd = s; srd1 = r.srd1; rate = r.rate; mismatches = r.mismatches }

abbrev pub srd1_is : Registers → ℕ → Registers
srd1_is r s = record { srd = r.srd; srd1 = s; rate = r.rate; mismatches = r.mismatches }

abbrev pub rate_is : Registers → ℕ → Registers
rate_is r n = record { srd = r.srd; srd1 = r.srd1; rate = n; mismatches = r.mismatches }

-- the registers after an ID packet that is not the right one: SRD1 04, and one more is counted, up to 3 (document 02, Item 5)
abbrev pub after_wrong : Registers → Registers
after_wrong r = record { srd = r.srd; srd1 = 0x04; rate = r.rate; mismatches = min 3 (suc r.mismatches) }
