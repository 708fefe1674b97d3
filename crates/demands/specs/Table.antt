-- Demand 2: "After each byte, the reply, both status registers, the next unit and the whole image are those of the protocol specification as document 01 fixes it."
-- Document 01's "Waking" and "Packets, once awake", with document 02's Items 3 and 5, written out for the demands: over whole packets, by positions of a trace. Nothing here cites the specification.
use Rattle.std.specs.Prelude.{ℕ, suc, min, ◌+◌, ◌*◌, ◌≤◌, ◌<◌, ◌≡◌, ◌≢◌, true, false, List, [], ◌∷◌, ◌++◌, length, get_or, take, drop, replicate}
use Rattle.unit.specs.declared.Unit.{Unit as Port}
use Rattle.unit.specs.declared.Registers.{Registers}
use Rattle.unit.specs.declared.Phase.{Phase}
use Rattle.unit.specs.declared.Phase.TheVariants.{Asleep, Awake}
use Rattle.unit.specs.declared.Place.TheVariants.{Command, PageRead, PageProgram, UnitProgram, BlockErase, EraseAll, IdCheck}
use Rattle.demands.specs.Record.{Open, srd_becomes, rate_becomes}
use Rattle.demands.specs.Flash.{Address, Unprotected}
use Rattle.demands.specs.Histories.{Call, Entry, Calls, Fit, unit_after, image_after, At, bytes_to}
use Rattle.demands.specs.Histories.Call.{run}
use Rattle.demands.specs.Changes.{MayProgram, Programmed, Erased, Programs}
use Rattle.demands.specs.Mismatches.{Checked}

-- "Waking": asleep, n zeros counted, 00 raises the count, which stays at 16 once there; B0 at 16 wakes the unit and replies B0; any other byte sets the count to 0
pub data Waking (n : ℕ) : ℕ → Phase → List ℕ → Type 0 where
  counts : Waking n 0x00 (Asleep (min 16 (suc n))) []
  wakes : n ≡ 16 → Waking n 0xB0 (Awake Command) (0xB0 ∷ [])
  restarts : {b : ℕ} → b ≢ 0x00 → ((b ≡ 0xB0) × (n ≡ 16) → ⊥) → Waking n b (Asleep 0) []

-- and changes no other field
pub record Sleeps (n : ℕ) (u : Port) (img : List ℕ) (e : Entry) : Type 0 where
  pub waking : Waking n e.byte e.unit.phase e.reply
  pub registers : e.unit.registers ≡ u.registers
  pub settings : e.unit.settings ≡ u.settings
  pub collected : e.unit.collected ≡ u.collected
  pub image : e.image ≡ img

-- the packet table's columns "Byte", "After it" and "Closed?": the whole packets that a unit takes at a command
pub data Whole (u : Port) : List ℕ → Type 0 where
  takes_ff : {mid high : ℕ} → Open u → Whole u (0xFF ∷ mid ∷ high ∷ [])
  takes_41_or_49 : {packet ds : List ℕ} {a reach : ℕ} → Open u → Programs packet a ds reach → Whole u packet
  takes_20 : {mid high confirm : ℕ} → Open u → Whole u (0x20 ∷ mid ∷ high ∷ confirm ∷ [])
  takes_a7 : {confirm : ℕ} → Open u → Whole u (0xA7 ∷ confirm ∷ [])
  takes_50 : Open u → Whole u (0x50 ∷ [])
  takes_70 : Whole u (0x70 ∷ [])
  takes_f5 : {low mid high : ℕ} {ds : List ℕ} → length ds < 256 → Whole u (0xF5 ∷ low ∷ mid ∷ high ∷ length ds ∷ ds)
  takes_fb : Whole u (0xFB ∷ [])
  takes_b0_to_b4 : {n : ℕ} → n ≤ 4 → Whole u ((0xB0 + n) ∷ [])
  takes_00 : Whole u (0x00 ∷ [])

-- the reply to a page read: the page's 256 bytes, as the part of the image from its place on; 256 bytes FF if outside
pub data Page (img : List ℕ) (a : ℕ) : List ℕ → Type 0 where
  inside : {i k : ℕ} → Address a i k → Page img a (take 256 (drop k img))
  outside : ((i k : ℕ) → Address a i k → ⊥) → Page img a (replicate 256 0xFF)

-- SRD once a program was carried out, by the new image: 80, or 90 if some byte then differs from its data
pub data Verified (a : ℕ) (ds new : List ℕ) : ℕ → Type 0 where
  equal : ((j i k : ℕ) → j < length ds → Address (a + j) i k → get_or new k 0 ≡ get_or ds j 0) → Verified a ds new 0x80
  differs : (j i k : ℕ) → j < length ds → Address (a + j) i k → get_or new k 0 ≢ get_or ds j 0 → Verified a ds new 0x90

-- "Program, at the end": the registers and the image that it leaves. If SR4 or SR5 stands, nothing; otherwise, if it may not be carried out, nothing is written and SR4 is set;
-- otherwise every byte is programmed, and SR4 is set if some byte then differs from its data
pub data Programming (u : Port) (img : List ℕ) (reach a : ℕ) (ds : List ℕ) : Registers → List ℕ → Type 0 where
  standing : u.registers.srd ≢ 0x80 → Programming u img reach a ds u.registers img
  forbidden : u.registers.srd ≡ 0x80 → (MayProgram reach u.settings.protection a ds → ⊥) → Programming u img reach a ds (srd_becomes 0x90 u.registers) img
  carried_out : {s : ℕ} {new : List ℕ} → u.registers.srd ≡ 0x80 → MayProgram reach u.settings.protection a ds → Programmed a ds img new → Verified a ds new s
      → Programming u img reach a ds (srd_becomes s u.registers) new

-- "Erase, at the end": confirm FF, nothing; otherwise, if SR4 or SR5 stands, nothing; otherwise confirm other than D0 sets SR4 and SR5; otherwise it leaves what it does when confirmed
pub data Erasing (u : Port) (img : List ℕ) (confirm : ℕ) (Confirmed : Registers → List ℕ → Type 0) : Registers → List ℕ → Type 0 where
  cancelled : confirm ≡ 0xFF → Erasing u img confirm Confirmed u.registers img
  standing : confirm ≢ 0xFF → u.registers.srd ≢ 0x80 → Erasing u img confirm Confirmed u.registers img
  unconfirmed : confirm ≢ 0xFF → u.registers.srd ≡ 0x80 → confirm ≢ 0xD0 → Erasing u img confirm Confirmed (srd_becomes 0xB0 u.registers) img
  confirmed : {r : Registers} {new : List ℕ} → confirm ≡ 0xD0 → u.registers.srd ≡ 0x80 → Confirmed r new → Erasing u img confirm Confirmed r new

-- block erase of an outside or protected block sets SR5; else the block becomes FF
pub data OneBlock (u : Port) (img : List ℕ) (a : ℕ) : Registers → List ℕ → Type 0 where
  refused : ((i k : ℕ) → Address a i k → Unprotected u.settings.protection i → ⊥) → OneBlock u img a (srd_becomes 0xA0 u.registers) img
  erased : {i k : ℕ} {new : List ℕ} → Address a i k → Unprotected u.settings.protection i → Erased (λ (j : ℕ). j ≡ i) img new → OneBlock u img a u.registers new

-- erase all skips protected blocks with no error
pub data AllBlocks (u : Port) (img : List ℕ) : Registers → List ℕ → Type 0 where
  erased : {new : List ℕ} → Erased (Unprotected u.settings.protection) img new → AllBlocks u img u.registers new

-- "ID check, at the end": a unit that started blank stays 0C; otherwise by the packet, the seven ID bytes now in the image and the count of wrong ones
pub data IdChecked (u : Port) (img packet : List ℕ) (r : Registers) : Type 0 where
  stays_open : u.settings.blank ≡ true → Open u → r ≡ u.registers → IdChecked u img packet r
  judged : u.settings.blank ≡ false → Checked img packet u.registers r → IdChecked u img packet r

-- the packet table's column "Effect": what a whole packet replies, the registers that it leaves and the image
abbrev pub Effect : {u : Port} {packet : List ℕ} → Whole u packet → List ℕ → List ℕ → Registers → List ℕ → Type 0
Effect {u} (takes_ff {mid} {high} o) img said r new = Page img (256 * mid + 65536 * high) said × (r ≡ u.registers) × (new ≡ img)
Effect {u} (takes_41_or_49 {ds = ds} {a = a} {reach = reach} o p) img said r new = (said ≡ []) × Programming u img reach a ds r new
Effect {u} (takes_20 {mid} {high} {confirm} o) img said r new = (said ≡ []) × Erasing u img confirm (OneBlock u img (256 * mid + 65536 * high)) r new
Effect {u} (takes_a7 {confirm} o) img said r new = (said ≡ []) × Erasing u img confirm (AllBlocks u img) r new
Effect {u} (takes_50 o) img said r new = (said ≡ []) × (r ≡ srd_becomes 0x80 u.registers) × (new ≡ img)
Effect {u} takes_70 img said r new = (said ≡ u.registers.srd ∷ u.registers.srd1 ∷ []) × (r ≡ u.registers) × (new ≡ img)
Effect {u} {packet} (takes_f5 l) img said r new = (said ≡ []) × IdChecked u img packet r × (new ≡ img)
Effect {u} takes_fb img said r new = (said ≡ 0x56 ∷ 0x45 ∷ 0x52 ∷ 0x2E ∷ 0x32 ∷ 0x2E ∷ 0x30 ∷ 0x30 ∷ []) × (r ≡ u.registers) × (new ≡ img)
Effect {u} (takes_b0_to_b4 {n} l) img said r new = (said ≡ (0xB0 + n) ∷ []) × (r ≡ rate_becomes n u.registers) × (new ≡ img)
Effect {u} takes_00 img said r new = (said ≡ []) × (r ≡ u.registers) × (new ≡ img)

-- a packet's last byte: its effect, at a command again, all 259 collected bytes 0
pub record Ends {u : Port} {packet : List ℕ} (w : Whole u packet) (img : List ℕ) (e : Entry) : Type 0 where
  pub effect : Effect w img e.reply e.unit.registers e.image
  pub phase : e.unit.phase ≡ Awake Command
  pub settings : e.unit.settings ≡ u.settings
  pub collected : e.unit.collected ≡ replicate 259 0x00

-- inside a packet: its command byte, and how many bytes have come since
pub data Inside : ℕ → ℕ → Phase → Type 0 where
  in_ff : {n : ℕ} → Inside 0xFF n (Awake (PageRead n))
  in_41 : {n : ℕ} → Inside 0x41 n (Awake (PageProgram n))
  in_49 : {n : ℕ} → Inside 0x49 n (Awake (UnitProgram n))
  in_20 : {n : ℕ} → Inside 0x20 n (Awake (BlockErase n))
  in_a7 : {n : ℕ} → Inside 0xA7 n (Awake (EraseAll n))
  in_f5 : {n : ℕ} → Inside 0xF5 n (Awake (IdCheck n))

-- a packet's byte before its last, its command byte c or a later one, xs having come since the command, this byte among them: they are collected from place 0 on, and nothing else is done
pub record Waits (u : Port) (img : List ℕ) (c : ℕ) (xs : List ℕ) (e : Entry) : Type 0 where
  pub reply : e.reply ≡ []
  pub phase : Inside c (length xs) e.unit.phase
  pub registers : e.unit.registers ≡ u.registers
  pub settings : e.unit.settings ≡ u.settings
  pub collected : e.unit.collected ≡ xs ++ drop (length xs) u.collected
  pub image : e.image ≡ img

-- a dropped or unknown byte: no packet that the unit takes begins with it
abbrev pub Ignored : Port → ℕ → Type 0
Ignored u b = (xs : List ℕ) → Whole u (b ∷ xs) → ⊥

-- it does nothing, so that the next byte is a command byte
abbrev pub Nothing : Port → List ℕ → Entry → Type 0
Nothing u img e = (e.reply ≡ []) × (e.unit ≡ u) × (e.image ≡ img)

-- what each byte of the calls' trace did, whichever call brought it: a byte to a sleeping unit; a dropped or unknown byte at a command;
-- of a packet that began at the j-th byte, at a command, each byte before its last, whether the packet was then finished or not; and its last
pub record Table {u : Port} {img : List ℕ} {cs : List Call} (c : Calls u img cs) : Type 0 where
  pub asleep : (k n : ℕ) (e : Entry) → At c.trace k e → (unit_after u c.trace k).phase ≡ Asleep n
      → Sleeps n (unit_after u c.trace k) (image_after img c.trace k) e
  pub ignored : (k : ℕ) (e : Entry) → At c.trace k e → (unit_after u c.trace k).phase ≡ Awake Command → Ignored (unit_after u c.trace k) e.byte
      → Nothing (unit_after u c.trace k) (image_after img c.trace k) e
  pub waits : (j k : ℕ) (e : Entry) → j ≤ k → At c.trace k e → (unit_after u c.trace j).phase ≡ Awake Command
      → (b x : ℕ) (xs rest : List ℕ) → bytes_to c.trace j k ≡ b ∷ xs → Whole (unit_after u c.trace j) (b ∷ (xs ++ x ∷ rest))
      → Waits (unit_after u c.trace j) (image_after img c.trace j) b xs e
  pub ends : (j k : ℕ) (e : Entry) → j ≤ k → At c.trace k e → (unit_after u c.trace j).phase ≡ Awake Command
      → (w : Whole (unit_after u c.trace j) (bytes_to c.trace j k)) → Ends w (image_after img c.trace j) e

-- which of these the k-th byte is
pub data Covered (u : Port) (es : List Entry) (k b : ℕ) : Type 0 where
  asleep : (n : ℕ) → (unit_after u es k).phase ≡ Asleep n → Covered u es k b
  ignored : (unit_after u es k).phase ≡ Awake Command → Ignored (unit_after u es k) b → Covered u es k b
  of_packet : (j : ℕ) → j ≤ k → (unit_after u es j).phase ≡ Awake Command → (rest : List ℕ) → Whole (unit_after u es j) (bytes_to es j k ++ rest) → Covered u es k b

-- a unit that is not inside a packet
abbrev pub Between : Port → Type 0
Between u = (b n : ℕ) → Inside b n u.phase → ⊥

-- two traces are the same but for the calls that brought their bytes
pub data Renumbered : List Entry → List Entry → Type 0 where
  none : Renumbered [] []
  next : {e f : Entry} {es fs : List Entry} → e.byte ≡ f.byte → e.reply ≡ f.reply → e.unit ≡ f.unit → e.image ≡ f.image → Renumbered es fs → Renumbered (e ∷ es) (f ∷ fs)

-- a unit inside a packet, b its command byte and n bytes since, reached by a history or not: the same record at a command comes to it by one call, which brings b and the first n collected bytes,
-- so that what calls do to it is what they do to that record after this call
pub record Resumes (u : Port) (img : List ℕ) (b n : ℕ) : Type 0 where
  pub from : Port
  pub fit : Fit from img
  pub phase : from.phase ≡ Awake Command
  pub registers : from.registers ≡ u.registers
  pub settings : from.settings ≡ u.settings
  pub collected : from.collected ≡ u.collected
  pub onward : {cs : List Call} (c : Calls u img cs) → (d : Calls from img (run (b ∷ take n u.collected) (replicate 256 0) ∷ cs))
      × (unit_after from d.trace (suc n) ≡ u) × (image_after img d.trace (suc n) ≡ img) × Renumbered (drop (suc n) d.trace) c.trace
