-- Document 01, "The unit", and document 02, Item 5, written out for the demands: which unit records are in range, the fresh and the idle unit, an open one, and the registers after a packet. Nothing here cites the specification but the record's own fields.
use Rattle.std.specs.Prelude.{ℕ, ◌+◌, ◌≤◌, ◌<◌, ◌≡◌, ◌⊎◌, true, false, get_or, replicate}
use Rattle.unit.specs.declared.Unit.{Unit as Port}
use Rattle.unit.specs.declared.Registers.{Registers}
use Rattle.unit.specs.declared.Phase.{Phase}
use Rattle.unit.specs.declared.Phase.TheVariants.{Asleep, Awake}
use Rattle.unit.specs.declared.Place.TheVariants.{Command, PageRead, PageProgram, UnitProgram, BlockErase, EraseAll, IdCheck}

-- the unit is open where SRD1 is 0C
abbrev pub Open : Port → Type 0
Open u = u.registers.srd1 ≡ 0x0C

-- how many wrong ID checks lock a unit, and the most that are counted (document 02, Item 5)
abbrev pub lock_after : ℕ
lock_after = 3

-- a phase in range: the count of zeros at most 16; a packet in progress is one of FF, 41, 49, 20, A7, F5, any but F5 needs an open unit, and the bytes received are fewer than it has.
-- The total of 49 and F5 is 4 plus the fourth collected byte; where fewer than four have come, they are fewer whatever that byte is
pub data PhaseFits (u : Port) : Phase → Type 0 where
  asleep : {n : ℕ} → n ≤ 16 → PhaseFits u (Asleep n)
  at_a_command : PhaseFits u (Awake Command)
  in_ff : {n : ℕ} → Open u → n < 2 → PhaseFits u (Awake (PageRead n))
  in_41 : {n : ℕ} → Open u → n < 258 → PhaseFits u (Awake (PageProgram n))
  in_49 : {n : ℕ} → Open u → n < 4 + get_or u.collected 3 0 → PhaseFits u (Awake (UnitProgram n))
  in_20 : {n : ℕ} → Open u → n < 3 → PhaseFits u (Awake (BlockErase n))
  in_a7 : {n : ℕ} → Open u → n < 1 → PhaseFits u (Awake (EraseAll n))
  in_f5 : {n : ℕ} → n < 4 + get_or u.collected 3 0 → PhaseFits u (Awake (IdCheck n))

-- SRD is 80, plus 20 for SR5, plus 10 for SR4; SRD1 is 00, 04 or 0C
pub data Srd : ℕ → Type 0 where
  ready : Srd 0x80
  program_error : Srd 0x90
  erase_error : Srd 0xA0
  both_errors : Srd 0xB0

pub data Srd1 : ℕ → Type 0 where
  not_checked : Srd1 0x00
  mismatch : Srd1 0x04
  match : Srd1 0x0C

-- a unit record in range: blank implies SRD1 0C, and no wrong ID check
pub record InRange (u : Port) : Type 0 where
  pub phase : PhaseFits u u.phase
  pub srd : Srd u.registers.srd
  pub srd1 : Srd1 u.registers.srd1
  pub rate : u.registers.rate ≤ 4
  pub mismatches : u.registers.mismatches ≤ lock_after
  pub protection : u.settings.protection ≤ 15
  pub blank : (u.settings.blank ≡ false) ⊎ (Open u × (u.registers.mismatches ≡ 0))

-- the fresh unit of a blank image or not: asleep, count 0, SRD 80, rate 0, no wrong ID check, the given protection, nothing collected; SRD1 0C if blank and 00 if not
pub record Fresh (blank : Type 0) (p : ℕ) (u : Port) : Type 0 where
  pub phase : u.phase ≡ Asleep 0
  pub srd : u.registers.srd ≡ 0x80
  pub rate : u.registers.rate ≡ 0
  pub mismatches : u.registers.mismatches ≡ 0
  pub blankness : (blank × (u.settings.blank ≡ true) × (u.registers.srd1 ≡ 0x0C)) ⊎ ((blank → ⊥) × (u.settings.blank ≡ false) × (u.registers.srd1 ≡ 0x00))
  pub protection : u.settings.protection ≡ p
  pub collected : u.collected ≡ replicate 259 0

-- the idle unit: the fresh one of a non-blank image with protection 0
abbrev pub Idle : Port → Type 0
Idle = Fresh ⊥ 0

-- registers as before but for what a packet sets, field by field: SRD becomes s; the rate becomes n; SRD1 becomes s, and the count of wrong ID checks n
abbrev pub srd_becomes : ℕ → Registers → Registers
srd_becomes s r = record { srd = s; srd1 = r.srd1; rate = r.rate; mismatches = r.mismatches }

abbrev pub rate_becomes : ℕ → Registers → Registers
rate_becomes n r = record { srd = r.srd; srd1 = r.srd1; rate = n; mismatches = r.mismatches }

abbrev pub check_becomes : ℕ → ℕ → Registers → Registers
check_becomes s n r = record { srd = r.srd; srd1 = s; rate = r.rate; mismatches = n }
