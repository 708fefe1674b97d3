-- A permitted packet, from where it begins, leaves what the rows of the packet table say; these speak of addresses through `find`, which is the document's own list of addresses.
use Prim.Native.Nat.{ℕ, ◌+◌, ◌*◌, ◌/◌, ◌%◌, ◌^◌, ◌≤◌, ◌<◌}
use native.Mathlib.Omega.{arith}
use mathlib.Core.Bool.{Bool, true, false}
use mathlib.Core.Path.{◌≡◌, refl, ap, sym, ◌∙◌, subst, subst⁻¹}
use mathlib.Core.Logic.{◌⊎◌}
use mathlib.Core.List.{List, [], ◌∷◌}
use lib.ListN.{length, get_or}
use lib.Bits.{bit_and}
use lib.Dec.{eqb}
use borrow.Author.Tests.{eq-eqb, ne_eqb}
use Rattle.flash.specs.Blocks.{part, find, free, page_address, byte_address}
use Rattle.flash.specs.Image.{permitted}
use Rattle.flash.specs.Effects.{Programmed as Burnt, Erased as Wiped}
use Rattle.flash.proofs.Effects.{byte_at_lem, found_inside}
use Rattle.flash.proofs.Permits.{free_found, permitted_some, permitted_free}
use Rattle.unit.specs.declared.Unit.{Unit as Port}
use Rattle.unit.specs.declared.Phase.TheVariants.{Awake}
use Rattle.unit.specs.declared.Place.TheVariants.{Command}
use Rattle.unit.specs.Phases.{Kind}
use Rattle.unit.specs.Phases.Kind.{page_program, unit_program, block_erase, all_erase}
use Rattle.unit.proofs.Ranged.{Sound, in_range_lem}
use Rattle.protocol.specs.Step.{run}
use Rattle.protocol.specs.Rows.{Ready, Row, May, Programs as RowPrograms}
use Rattle.protocol.specs.Rows.Row.{after_41, after_49, after_20, after_a7}
use Rattle.protocol.specs.Rows.Programs.{page as page_packet, bytes as bytes_packet}
use Rattle.protocol.specs.Rows.Erases.{block as block_packet, all as all_packet}
use Rattle.protocol.specs.Endings.{bank_end}
use Rattle.protocol.proofs.Carried.{Carried}
use Rattle.protocol.proofs.Carried.Carried.{page as page_done, bytes as bytes_done, block as block_done, all as all_done}
use Rattle.protocol.proofs.RowsMay.{clear_bit}
use Rattle.protocol.proofs.RowsProgram.{program_carried_out}
use Rattle.protocol.proofs.RowsErase.{erase_block_lem, erase_every_block}
use Rattle.demands.specs.Flash.{InBlock, Address, Unprotected}
use Rattle.demands.specs.Changes.{Begins, MayProgram, Programmed, Erased, Programs, Carries, Permitted}
use Rattle.demands.specs.Changes.Programs.{page, bytes}
use Rattle.demands.specs.Changes.Permitted.{program, block, all}
use Rattle.demands.proofs.Records.{open_is, address_is, place_address}

-- when a program may be carried out
pub may_is : {reach p a : ℕ} {ds : List ℕ} → MayProgram reach p a ds → May reach p a ds
may_is {a = a} m =
    record {
      some = m.some;
      bank = m.bank;
      free = λ j h. let w = m.free j h in (w.0, w.1, (address_is (a + j) w.0 w.1).0 w.2, w.3);
    }

pub may_from : {reach p a : ℕ} {ds : List ℕ} → May reach p a ds → MayProgram reach p a ds
may_from {a = a} m =
    record {
      some = m.some;
      bank = m.bank;
      free = λ j h. let w = m.free j h in (w.0, w.1, (address_is (a + j) w.0 w.1).1 w.2, w.3);
    }

may_back : (reach p a b : ℕ) (ds : List ℕ) → a ≡ b → a % 65536 + length ds ≤ reach → permitted part p a ds ≡ true → MayProgram reach p b ds
may_back reach p a b ds q bank e =
    subst (λ (x : ℕ). MayProgram reach p x ds) q
    (record {
      some = permitted_some part p a ds e;
      bank = bank;
      free = λ j h. let w = free_found p (find part (a + j)) (permitted_free part p a ds e j h) in (w.0, w.1, (address_is (a + j) w.0 w.1).1 w.2, clear_bit p w.0 w.3);
    })

-- what a program and an erase leave
pub programmed_is : {a : ℕ} {ds img new : List ℕ} → Burnt part a ds img new → Programmed a ds img new
programmed_is {a} {ds} {img} {new} b = record { size = b.size; there = there; elsewhere = elsewhere }
  where
    there : (j i k : ℕ) → j < length ds → Address (a + j) i k → get_or new k 0 ≡ bit_and (get_or img k 0) (get_or ds j 0)
    there j i k h d =
        let e = (address_is (a + j) i k).0 d in
        sym (byte_at_lem part new (a + j) i k e)
        ∙ (b.there j h ∙ ap (λ (x : ℕ). bit_and x (get_or ds j 0)) (byte_at_lem part img (a + j) i k e))

    elsewhere : (x i k : ℕ) → Address x i k → (x < a) ⊎ (a + length ds ≤ x) → get_or new k 0 ≡ get_or img k 0
    elsewhere x i k d h =
        let e = (address_is x i k).0 d in
        sym (byte_at_lem part new x i k e) ∙ (b.elsewhere x (found_inside (find part x) i k e) h ∙ byte_at_lem part img x i k e)

erased_is : (P : ℕ → Type 0) (chosen : ℕ → Bool) → ((i : ℕ) → P i → chosen i ≡ true) → ((i : ℕ) → (P i → ⊥) → chosen i ≡ false)
    → {img new : List ℕ} → Wiped part chosen img new → Erased P img new
erased_is P chosen f g {img} {new} w = record { size = w.size; there = there; elsewhere = elsewhere }
  where
    there : (i k : ℕ) → InBlock i k → P i → get_or new k 0 ≡ 0xFF
    there i k b p =
        let d = place_address b in
        let e = (address_is d.0 i k).0 d.1 in
        sym (byte_at_lem part new d.0 i k e) ∙ w.there d.0 i k e (f i p)

    elsewhere : (i k : ℕ) → InBlock i k → (P i → ⊥) → get_or new k 0 ≡ get_or img k 0
    elsewhere i k b p =
        let d = place_address b in
        let e = (address_is d.0 i k).0 d.1 in
        sym (byte_at_lem part new d.0 i k e) ∙ (w.elsewhere d.0 i k e (g i p) ∙ byte_at_lem part img d.0 i k e)

-- the block of an address, and every block that is not protected
pub one_erased : (i : ℕ) {img new : List ℕ} → Wiped part (λ (j : ℕ). eqb j i) img new → Erased (λ (j : ℕ). j ≡ i) img new
one_erased i = erased_is (λ (j : ℕ). j ≡ i) (λ (j : ℕ). eqb j i) (λ j e. eq-eqb j i e) (λ j f. ne_eqb j i f)

pub free_erased : (p : ℕ) {img new : List ℕ} → Wiped part (λ (j : ℕ). eqb (p / 2 ^ j % 2) 0) img new → Erased (Unprotected p) img new
free_erased p = erased_is (Unprotected p) (λ (j : ℕ). eqb (p / 2 ^ j % 2) 0) (λ j e. eq-eqb (p / 2 ^ j % 2) 0 e) (λ j f. ne_eqb (p / 2 ^ j % 2) 0 f)

-- a permitted packet is a row of the table
pub record OfRow (packet : List ℕ) : Type 0 where
  pub kind : Kind
  pub command : ℕ
  pub rest : List ℕ
  pub whole : packet ≡ command ∷ rest
  pub row : Row kind command rest

pub permitted_row : {p : ℕ} {packet : List ℕ} → Permitted p packet → OfRow packet
permitted_row (program (page {ds = ds} h) m) = record { kind = page_program; command = 0x41; rest = _; whole = refl; row = after_41 {ds = ds} h }
permitted_row (program (bytes {ds = ds} h) m) = record { kind = unit_program; command = 0x49; rest = _; whole = refl; row = after_49 {ds = ds} h }
permitted_row (block a m) = record { kind = block_erase; command = 0x20; rest = _; whole = refl; row = after_20 }
permitted_row all = record { kind = all_erase; command = 0xA7; rest = _; whole = refl; row = after_a7 }

-- a program packet is one of the rows'
pub programs_row : {packet ds : List ℕ} {a reach : ℕ} → Programs packet a ds reach → RowPrograms packet a ds reach
programs_row (page h) = page_packet h
programs_row (bytes h) = bytes_packet h

-- at a command, and so where a packet begins, the rows apply
pub command_ready : {u : Port} → u.phase ≡ Awake Command → Sound u → Ready u
command_ready e s = record { at_a_command = e; ranged = in_range_lem s; room = s.room }

pub begins_ready : {u : Port} → Begins u → Sound u → Ready u
begins_ready b s = command_ready b.at_a_command s

-- and the packet is carried out
pub packet_effect : {u : Port} → Begins u → Sound u → (img : List ℕ) → length img ≡ 20480 → {packet : List ℕ} → Permitted u.settings.protection packet
    → Carries u.settings.protection img packet (run u img packet).image
packet_effect {u} b s img size (program q m) =
    let w = program_carried_out (begins_ready b s) ((open_is u).0 b.opened) img (programs_row q) size b.ready (may_is m) in
    (program q m, programmed_is w.2.image)
packet_effect {u} b s img size (block {mid} {high} {i} {k} d m) =
    let w = erase_block_lem (begins_ready b s) ((open_is u).0 b.opened) img block_packet b.ready size ((address_is (256 * mid + 65536 * high) i k).0 d) m in
    (block d m, one_erased i w.image)
packet_effect {u} b s img size all =
    let w = erase_every_block (begins_ready b s) ((open_is u).0 b.opened) img all_packet b.ready size in
    (all, free_erased u.settings.protection w.image)

-- what the specification carries out is a permitted packet
pub carried_permitted : {p : ℕ} {img xs new : List ℕ} {k : Kind} {c : ℕ} → Carried p img xs k new → Row k c xs → Permitted p (c ∷ xs)
unfolding bank_end
carried_permitted {p} (page_done m) (after_41 {mid} {high} {ds} h) =
    program (page {ds = ds} h) (may_back 65536 p (page_address mid high) (256 * mid + 65536 * high) ds (omega arith) m.bank m.free)
carried_permitted {p} (bytes_done m) (after_49 {low} {mid} {high} {ds} h) =
    program (bytes {ds = ds} h) (may_back 65535 p (byte_address low mid high) (low + 256 * mid + 65536 * high) ds (omega arith) m.bank m.free)
carried_permitted {p} (block_done c m) (after_20 {mid} {high} {confirm}) =
    let q : page_address mid high ≡ 256 * mid + 65536 * high = omega arith in
    let w = free_found p (find part (page_address mid high)) m in
    subst⁻¹ (λ (x : ℕ). Permitted p (0x20 ∷ mid ∷ high ∷ x ∷ [])) c
    (block {mid = mid} {high = high} {i = w.0} {k = w.1} (subst (λ (a : ℕ). Address a w.0 w.1) q ((address_is (page_address mid high) w.0 w.1).1 w.2)) (clear_bit p w.0 w.3))
carried_permitted {p} (all_done c) (after_a7 {confirm}) = subst⁻¹ (λ (x : ℕ). Permitted p (0xA7 ∷ x ∷ [])) c all
