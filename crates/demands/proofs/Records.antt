-- What the demands write out of the unit record and of the flash is what the specification computes: by cases on the phase and on the block, each closed by the numbers.
use Prim.Native.Nat.{ℕ, zero, suc, ◌+◌, ◌-◌, ◌≤◌, ◌<◌}
use native.Mathlib.Omega.{arith}
use mathlib.Core.Bool.{Bool, true, false, cond, ◌&&◌, ◌||◌, false≢true}
use mathlib.Core.Path.{◌≡◌, refl, ap, sym, ◌∙◌, subst, subst⁻¹}
use mathlib.Core.Logic.{◌⊎◌, inl, inr, ◌↔◌}
use mathlib.Core.List.{List, [], ◌∷◌}
use lib.ListN.{length, get_or, take}
use lib.Dec.{ltb, eqb}
use borrow.Author.Tests.{ltb-true, leb-true, eqb-true, lt-ltb, le-leb, eq-eqb}
use Rattle.flash.specs.declared.Spot.{Spot}
use Rattle.std.proofs.Common.{Option, Some, None}
use Rattle.slices.specs.Lists.{same}
use Rattle.flash.specs.Blocks.{spot, part, sized, holds, find, place_of, block_from, block_size}
use Rattle.flash.specs.Image.{byte_at, stored_id, is_blank}
use Rattle.slices.proofs.Lists.{and_both, both_and}
use Rattle.flash.proofs.Places.{rising, Lies, found, lies, not_outside}
use Rattle.flash.proofs.Outcomes.{true_sized}
use Rattle.unit.specs.declared.Unit.{Unit as Port}
use Rattle.unit.specs.declared.Inputs.{Inputs}
use Rattle.unit.specs.declared.Phase.{Phase}
use Rattle.unit.specs.declared.Phase.TheVariants.{Asleep, Awake}
use Rattle.unit.specs.declared.Place.TheVariants.{Command, PageRead, PageProgram, UnitProgram, BlockErase, EraseAll, IdCheck}
use Rattle.unit.specs.Phases.{Kind, command_of, need, inside, position_of}
use Rattle.unit.specs.Phases.Kind.{page_read, page_program, unit_program, block_erase, all_erase, id_check}
use Rattle.unit.specs.Phases.Position.{within}
use Rattle.unit.proofs.Positions.{phase_inside}
use Rattle.demands.specs.Table.{Inside as InPacket}
use Rattle.demands.specs.Table.Inside.{in_ff as in_ff', in_41 as in_41', in_49 as in_49', in_20 as in_20', in_a7 as in_a7', in_f5 as in_f5'}
use Rattle.unit.specs.Model.{is_open, fresh, idle}
use Rattle.unit.specs.Range.{packet_fits, position_fits, srd_fits, srd1_fits, registers_fit, settings_fit, in_range}
use Rattle.unit.proofs.Lengths.{few_sized}
use Rattle.unit.proofs.Ranged.{registers_srd, registers_srd1, registers_rate, registers_mismatches, registers_together, settings_protection, BlankRule, settings_blank, settings_together}
use Rattle.unit.proofs.Builders.{fresh_phase, fresh_srd, fresh_srd1, fresh_rate, fresh_mismatches, fresh_blank, fresh_protection, fresh_collected, idle_phase, idle_srd, idle_srd1, idle_rate, idle_mismatches, idle_blank, idle_protection, idle_collected}
use Rattle.demands.specs.Record.{Open, PhaseFits, Srd, Srd1, InRange, Idle, Fresh}
use Rattle.demands.specs.Record.PhaseFits.{asleep, at_a_command, in_ff, in_41, in_49, in_20, in_a7, in_f5}
use Rattle.demands.specs.Record.Srd.{ready, program_error, erase_error, both_errors}
use Rattle.demands.specs.Record.Srd1.{not_checked, mismatch, match}
use Rattle.demands.specs.Flash.{InBlock, Address, ids, Blank}
use Rattle.demands.specs.Flash.InBlock.{block_0, block_1, block_2, block_3}
use Rattle.demands.specs.Flash.Address.{in_0, in_1, in_2, in_3}

-- an open unit
pub open_is : (u : Port) → Open u ↔ (is_open u.registers ≡ true)
unfolding is_open
open_is u = (eq-eqb u.registers.srd1 0x0C, eqb-true u.registers.srd1 0x0C)

-- fewer bytes than a packet with a size has
few : (n : ℕ) (got : List ℕ) → n < 4 + get_or got 3 0 → ltb n (4 + get_or (take n got) 3 0) ≡ true
few n got h = sym (few_sized n got (4 + get_or got 3 0) refl) ∙ lt-ltb n (4 + get_or got 3 0) h

few_back : (n : ℕ) (got : List ℕ) → ltb n (4 + get_or (take n got) 3 0) ≡ true → n < 4 + get_or got 3 0
few_back n got e = ltb-true n (4 + get_or got 3 0) (few_sized n got (4 + get_or got 3 0) refl ∙ e)

module _ (u : Port) where
  fits : {f : Phase} → PhaseFits u f → position_fits (position_of f) (is_open u.registers) u.collected ≡ true
  unfolding position_fits packet_fits command_of need
  fits (asleep {n} h) = le-leb n 16 h
  fits at_a_command = refl
  fits (in_ff {n} o h) = both_and _ _ ((open_is u).0 o) (lt-ltb n 2 h)
  fits (in_41 {n} o h) = both_and _ _ ((open_is u).0 o) (lt-ltb n 258 h)
  fits (in_49 {n} o h) = both_and _ _ ((open_is u).0 o) (few n u.collected h)
  fits (in_20 {n} o h) = both_and _ _ ((open_is u).0 o) (lt-ltb n 3 h)
  fits (in_a7 {n} o h) = both_and _ _ ((open_is u).0 o) (lt-ltb n 1 h)
  fits (in_f5 {n} h) = few n u.collected h

  fits_back : (f : Phase) → position_fits (position_of f) (is_open u.registers) u.collected ≡ true → PhaseFits u f
  unfolding position_fits packet_fits command_of need
  fits_back (Asleep n) e = asleep (leb-true n 16 e)
  fits_back (Awake Command) e = at_a_command
  fits_back (Awake (PageRead n)) e = let w = and_both (is_open u.registers) (ltb n 2) e in in_ff ((open_is u).1 w.0) (ltb-true n 2 w.1)
  fits_back (Awake (PageProgram n)) e = let w = and_both (is_open u.registers) (ltb n 258) e in in_41 ((open_is u).1 w.0) (ltb-true n 258 w.1)
  fits_back (Awake (UnitProgram n)) e = let w = and_both (is_open u.registers) _ e in in_49 ((open_is u).1 w.0) (few_back n u.collected w.1)
  fits_back (Awake (BlockErase n)) e = let w = and_both (is_open u.registers) (ltb n 3) e in in_20 ((open_is u).1 w.0) (ltb-true n 3 w.1)
  fits_back (Awake (EraseAll n)) e = let w = and_both (is_open u.registers) (ltb n 1) e in in_a7 ((open_is u).1 w.0) (ltb-true n 1 w.1)
  fits_back (Awake (IdCheck n)) e = in_f5 (few_back n u.collected e)

srd_fits_lem : {s : ℕ} → Srd s → srd_fits s ≡ true
unfolding srd_fits
srd_fits_lem ready = refl
srd_fits_lem program_error = refl
srd_fits_lem erase_error = refl
srd_fits_lem both_errors = refl

-- one of several numbers
which : (P : ℕ → Type 0) (s n : ℕ) (rest : Bool) → P n → (rest ≡ true → P s) → (eqb s n || rest) ≡ true → P s
which P s n rest p f e = go (eqb s n) refl e
  where
    go : (t : Bool) → eqb s n ≡ t → (t || rest) ≡ true → P s
    go true q e = subst⁻¹ P (eqb-true s n q) p
    go false q e = f e

srd_back : (s : ℕ) → srd_fits s ≡ true → Srd s
unfolding srd_fits
srd_back s =
    which Srd s 0x80 _ ready
    (which Srd s 0x90 _ program_error (which Srd s 0xA0 _ erase_error (λ e. subst⁻¹ Srd (eqb-true s 0xB0 e) both_errors)))

srd1_fits_lem : {s : ℕ} → Srd1 s → srd1_fits s ≡ true
unfolding srd1_fits
srd1_fits_lem not_checked = refl
srd1_fits_lem mismatch = refl
srd1_fits_lem match = refl

srd1_back : (s : ℕ) → srd1_fits s ≡ true → Srd1 s
unfolding srd1_fits
srd1_back s = which Srd1 s 0x00 _ not_checked (which Srd1 s 0x04 _ mismatch (λ e. subst⁻¹ Srd1 (eqb-true s 0x0C e) match))

-- blank implies open, and no wrong ID check
blank_fits_lem : (u : Port) → (u.settings.blank ≡ false) ⊎ (Open u × (u.registers.mismatches ≡ 0)) → BlankRule u.settings u.registers
blank_fits_lem u (inl e) = inl e
blank_fits_lem u (inr (o, z)) = inr ((open_is u).0 o, z)

blank_back : (u : Port) → BlankRule u.settings u.registers → (u.settings.blank ≡ false) ⊎ (Open u × (u.registers.mismatches ≡ 0))
blank_back u (inl e) = inl e
blank_back u (inr (o, z)) = inr ((open_is u).1 o, z)

-- a unit record is in range as the document says exactly where the specification's test says so
pub in_range_lem : (u : Port) → InRange u ↔ (in_range u ≡ true)
unfolding in_range
in_range_lem u = (there, back)
  where
    there : InRange u → (position_fits (position_of u.phase) (is_open u.registers) u.collected && (registers_fit u.registers && settings_fit u.settings u.registers)) ≡ true
    there r =
        both_and _ _ (fits u r.phase)
        (both_and _ _ (registers_together u.registers (srd_fits_lem r.srd) (srd1_fits_lem r.srd1) r.rate r.mismatches)
        (settings_together u.settings u.registers r.protection (blank_fits_lem u r.blank)))

    back : (position_fits (position_of u.phase) (is_open u.registers) u.collected && (registers_fit u.registers && settings_fit u.settings u.registers)) ≡ true → InRange u
    back e =
        let a = and_both _ _ e in
        let b = and_both (registers_fit u.registers) _ a.1 in
        record {
          phase = fits_back u u.phase a.0;
          srd = srd_back _ (registers_srd u.registers b.0);
          srd1 = srd1_back _ (registers_srd1 u.registers b.0);
          rate = registers_rate u.registers b.0;
          mismatches = registers_mismatches u.registers b.0;
          protection = settings_protection u.settings u.registers b.1;
          blank = blank_back u (settings_blank u.settings u.registers b.1);
        }

-- an image is blank as the document says exactly where the specification's test says so
pub blank_is : (img : List ℕ) → length img ≡ 20480 → Blank img ↔ (is_blank part img ≡ true)
unfolding is_blank byte_at find holds place_of
blank_is img size = (there, back)
  where
    there : Blank img → (sized part img && same (get_or img 20476 0 ∷ get_or img 20477 0 ∷ get_or img 20478 0 ∷ []) (0xFF ∷ 0xFF ∷ 0xFF ∷ [])) ≡ true
    there b =
        both_and _ _ (true_sized part img size)
        (both_and _ _ (eq-eqb (get_or img 20476 0) 0xFF b.0)
        (both_and _ _ (eq-eqb (get_or img 20477 0) 0xFF b.1) (both_and _ _ (eq-eqb (get_or img 20478 0) 0xFF b.2) refl)))

    back : (sized part img && same (get_or img 20476 0 ∷ get_or img 20477 0 ∷ get_or img 20478 0 ∷ []) (0xFF ∷ 0xFF ∷ 0xFF ∷ [])) ≡ true → Blank img
    back e =
        let a = and_both (sized part img) _ e in
        let b = and_both (eqb (get_or img 20476 0) 0xFF) _ a.1 in
        let c = and_both (eqb (get_or img 20477 0) 0xFF) _ b.1 in
        let d = and_both (eqb (get_or img 20478 0) 0xFF) true c.1 in
        (eqb-true _ 0xFF b.0, eqb-true _ 0xFF c.0, eqb-true _ 0xFF d.0)

pub filled_is : (img : List ℕ) → length img ≡ 20480 → (Blank img → ⊥) → is_blank part img ≡ false
filled_is img size n = go (is_blank part img) refl
  where
    go : (t : Bool) → is_blank part img ≡ t → is_blank part img ≡ false
    go true e = absurd (n ((blank_is img size).1 e))
    go false e = e

-- the seven ID bytes
pub ids_are : (img : List ℕ) → length img ≡ 20480 → stored_id part img ≡ ids img
unfolding stored_id byte_at find holds place_of
ids_are img size = rw (true_sized part img size)

-- the idle unit, and the fresh one
pub idle_is : Idle idle
idle_is =
    record {
      phase = idle_phase;
      srd = idle_srd;
      rate = idle_rate;
      mismatches = idle_mismatches;
      blankness = inr (λ z. z, idle_blank, idle_srd1);
      protection = idle_protection;
      collected = idle_collected;
    }

pub fresh_is : (img : List ℕ) (inputs : Inputs) → length img ≡ 20480 → Fresh (Blank img) inputs.protection (fresh img inputs)
fresh_is img inputs size =
    record {
      phase = fresh_phase img inputs;
      srd = fresh_srd img inputs;
      rate = fresh_rate img inputs;
      mismatches = fresh_mismatches img inputs;
      blankness = blankness (is_blank part img) refl;
      protection = fresh_protection img inputs;
      collected = fresh_collected img inputs;
    }
  where
    not_blank : is_blank part img ≡ false → Blank img → ⊥
    not_blank q b = false≢true (sym q ∙ (blank_is img size).0 b)

    blankness : (t : Bool) → is_blank part img ≡ t
        → (Blank img × ((fresh img inputs).settings.blank ≡ true) × ((fresh img inputs).registers.srd1 ≡ 0x0C))
        ⊎ ((Blank img → ⊥) × ((fresh img inputs).settings.blank ≡ false) × ((fresh img inputs).registers.srd1 ≡ 0x00))
    blankness true q = inl ((blank_is img size).1 q, fresh_blank img inputs ∙ q, fresh_srd1 img inputs ∙ ap (λ (t : Bool). cond t 0x0C 0x00) q)
    blankness false q = inr (not_blank q, fresh_blank img inputs ∙ q, fresh_srd1 img inputs ∙ ap (λ (t : Bool). cond t 0x0C 0x00) q)

-- the blocks of the image
pub block_is : (i k : ℕ) → InBlock i k ↔ ((block_from part i ≤ k) × (k < block_from part i + block_size part i))
block_is i k = (there, back i)
  where
    there : {i : ℕ} → InBlock i k → (block_from part i ≤ k) × (k < block_from part i + block_size part i)
    there (block_0 h) = (omega arith, omega arith)
    there (block_1 g h) = (omega arith, omega arith)
    there (block_2 g h) = (omega arith, omega arith)
    there (block_3 g h) = (omega arith, omega arith)

    back : (i : ℕ) → (block_from part i ≤ k) × (k < block_from part i + block_size part i) → InBlock i k
    back zero w = block_0 {k = k} (omega (arith, w.1))
    back (suc zero) w = block_1 {k = k} (omega (arith, w.0)) (omega (arith, w.1))
    back (suc (suc zero)) w = block_2 {k = k} (omega (arith, w.0)) (omega (arith, w.1))
    back (suc (suc (suc zero))) w = block_3 {k = k} (omega (arith, w.0)) (omega (arith, w.1))
    back (suc (suc (suc (suc i)))) w = absurd (omega (arith, w.0, w.1))

-- the addresses of the flash, with their blocks and places
pub address_is : (a i k : ℕ) → Address a i k ↔ (find part a ≡ Some (spot i k))
address_is a i k = (there, λ e. back i (found part a i k e))
  where
    there : {i k : ℕ} → Address a i k → find part a ≡ Some (spot i k)
    there (in_0 g h) = lies 0 part rising a 0 _ (record { number = omega arith; from = g; under = omega arith; place = omega arith })
    there (in_1 g h) = lies 0 part rising a 1 _ (record { number = omega arith; from = g; under = omega arith; place = omega arith })
    there (in_2 g h) = lies 0 part rising a 2 _ (record { number = omega arith; from = g; under = omega arith; place = omega arith })
    there (in_3 g h) = lies 0 part rising a 3 _ (record { number = omega arith; from = g; under = omega arith; place = omega arith })

    back : (i : ℕ) → Lies part i k a → Address a i k
    back zero l = let e : a - 0x2000 ≡ k = omega (arith, l.place) in subst (Address a 0) e (in_0 l.from (omega (arith, l.under)))
    back (suc zero) l =
        let e : a - 0x2800 + 2048 ≡ k = omega (arith, l.place) in subst (Address a 1) e (in_1 l.from (omega (arith, l.under)))
    back (suc (suc zero)) l =
        let e : a - 0xC000 + 4096 ≡ k = omega (arith, l.place) in subst (Address a 2) e (in_2 l.from (omega (arith, l.under)))
    back (suc (suc (suc zero))) l =
        let e : a - 0xE000 + 12288 ≡ k = omega (arith, l.place) in subst (Address a 3) e (in_3 l.from (omega (arith, l.under)))
    back (suc (suc (suc (suc i)))) l = absurd (omega (arith, l.number))

-- any other address is outside
pub outside_is : (a : ℕ) → (find part a ≡ None) ↔ ((i k : ℕ) → Address a i k → ⊥)
outside_is a = (λ e i k d. not_outside ((address_is a i k).0 d) e, λ f. go f (find part a) refl)
  where
    go : ((i k : ℕ) → Address a i k → ⊥) → (w : Option Spot) → find part a ≡ w → find part a ≡ None
    go f (Some it) e = absurd (f it.block it.place ((address_is a it.block it.place).1 e))
    go f None e = e

-- each place of a block has an address
pub place_address : {i k : ℕ} → InBlock i k → (a : ℕ) × Address a i k
place_address {k = k} (block_0 h) = let e : k + 0x2000 - 0x2000 ≡ k = omega arith in (k + 0x2000, subst (Address (k + 0x2000) 0) e (in_0 (omega arith) (omega arith)))
place_address {k = k} (block_1 g h) =
    let a : ℕ = k - 2048 + 0x2800 in let e : a - 0x2800 + 2048 ≡ k = omega arith in (a, subst (Address a 1) e (in_1 (omega arith) (omega arith)))
place_address {k = k} (block_2 g h) =
    let a : ℕ = k - 4096 + 0xC000 in let e : a - 0xC000 + 4096 ≡ k = omega arith in (a, subst (Address a 2) e (in_2 (omega arith) (omega arith)))
place_address {k = k} (block_3 g h) =
    let a : ℕ = k - 12288 + 0xE000 in let e : a - 0xE000 + 12288 ≡ k = omega arith in (a, subst (Address a 3) e (in_3 (omega arith) (omega arith)))

-- inside a packet
pub inside_is : (q : Kind) (n : ℕ) → InPacket (command_of q) n (Awake (inside q n))
unfolding command_of
inside_is page_read n = in_ff'
inside_is page_program n = in_41'
inside_is unit_program n = in_49'
inside_is block_erase n = in_20'
inside_is all_erase n = in_a7'
inside_is id_check n = in_f5'

pub within_inside : {f : Phase} {q : Kind} {n : ℕ} → position_of f ≡ within q n → InPacket (command_of q) n f
within_inside {f} {q} {n} e = subst⁻¹ (InPacket (command_of q) n) (phase_inside f e) (inside_is q n)

pub inside_within : {f : Phase} {b n : ℕ} → InPacket b n f → (q : Kind) × (b ≡ command_of q) × (position_of f ≡ within q n)
unfolding command_of
inside_within in_ff' = (page_read, refl, refl)
inside_within in_41' = (page_program, refl, refl)
inside_within in_49' = (unit_program, refl, refl)
inside_within in_20' = (block_erase, refl, refl)
inside_within in_a7' = (all_erase, refl, refl)
inside_within in_f5' = (id_check, refl, refl)
