-- The rows of the packet table as the demands write them, from the laws of the specification's packets: each packet's run ends as its row says. These laws speak of addresses through `find`, which is the document's own list of addresses.
use Prim.Native.Nat.{ℕ, ◌+◌, ◌*◌, ◌/◌, ◌%◌, ◌^◌, ◌<◌}
use native.Mathlib.Omega.{arith}
use native.Mathlib.Decide.{ℕ_discrete, dec_lt}
use mathlib.Core.Bool.{Bool, true, false}
use mathlib.Core.Path.{◌≡◌, refl, ap, sym, ◌∙◌, subst, subst⁻¹}
use mathlib.Core.Logic.{◌⊎◌, inl, inr}
use mathlib.Core.List.{List, [], ◌∷◌}
use lib.ListN.{length, replicate}
use Rattle.packets.specs.Pieces.{packet_bytes, right}
use Rattle.packets.proofs.Decisions.{list?}
use Rattle.flash.specs.declared.Spot.{Spot}
use Rattle.std.proofs.Common.{Option, Some, None}
use Rattle.flash.specs.Blocks.{spot, part, find}
use Rattle.flash.proofs.Places.{one_spot}
use Rattle.flash.specs.Image.{permitted}
use Rattle.flash.proofs.Effects.{byte_at_lem}
use Rattle.unit.specs.declared.Unit.{Unit as Port}
use Rattle.unit.specs.declared.Registers.{Registers}
use Rattle.unit.specs.declared.Phase.TheVariants.{Awake}
use Rattle.unit.specs.declared.Place.TheVariants.{Command}
use Rattle.protocol.specs.Outcome.{Outcome}
use Rattle.protocol.specs.Step.{step, run}
use Rattle.protocol.specs.Rows.{Ready, May, MayNot, Scope, Erases as RowErases, Verified as RowVerified, Ends as RowEnds, Kept, right_packet}
use Rattle.protocol.specs.Rows.Verified.{equal as row_equal, differs as row_differs}
use Rattle.protocol.specs.Rows.Erases.{block as block_packet, all as all_packet}
use Rattle.protocol.proofs.Steps.{run_one}
use Rattle.protocol.proofs.RowsShort.{row_50, row_70, row_fb, row_b0_to_b4, row_00}
use Rattle.protocol.proofs.RowsRead.{read_part, read_outside}
use Rattle.protocol.proofs.RowsMay.{may_permitted, may_not_permitted, may_or_not}
use Rattle.protocol.proofs.RowsProgram.{program_standing, program_forbidden, program_carried_out}
use Rattle.protocol.proofs.RowsErase.{erase_cancelled, erase_standing, erase_unconfirmed, erase_outside, erase_protected, erase_block_lem, erase_every_block}
use Rattle.protocol.proofs.RowsCheck.{check_blank, check_wrong, check_right, check_locked}
use Rattle.demands.specs.Record.{Open, lock_after, srd_becomes, check_becomes}
use Rattle.demands.specs.Flash.{Address, Unprotected, ids}
use Rattle.demands.specs.Changes.{MayProgram, Programs}
use Rattle.demands.specs.Mismatches.{Right, Checked}
use Rattle.demands.specs.Mismatches.Checked.{opens, too_late, counts}
use Rattle.demands.specs.Table.{Whole, Verified, Programming, Erasing, OneBlock, AllBlocks, Effect}
use Rattle.demands.specs.Table.Whole.{takes_ff, takes_41_or_49, takes_20, takes_a7, takes_50, takes_70, takes_f5, takes_fb, takes_b0_to_b4, takes_00}
use Rattle.demands.specs.Table.Page.{inside, outside}
use Rattle.demands.specs.Table.Verified.{equal, differs}
use Rattle.demands.specs.Table.Programming.{standing, forbidden, carried_out}
use Rattle.demands.specs.Table.Erasing.{cancelled, standing as erase_stands, unconfirmed, confirmed}
use Rattle.demands.specs.Table.OneBlock.{refused, erased}
use Rattle.demands.specs.Table.AllBlocks.{erased as all_erased}
use Rattle.demands.specs.Table.IdChecked.{stays_open, judged}
use Rattle.demands.proofs.Records.{open_is, in_range_lem, address_is, outside_is}
use Rattle.demands.proofs.Effects.{may_is, may_from, programmed_is, one_erased, free_erased, programs_row}
use Rattle.demands.proofs.Checks.{right_bytes}

-- a run of a whole packet has ended as its row says
pub record Ended (u : Port) {packet : List ℕ} (w : Whole u packet) (img : List ℕ) (o : Outcome) : Type 0 where
  pub effect : Effect w img o.reply o.unit.registers o.image
  pub phase : o.unit.phase ≡ Awake Command
  pub settings : o.unit.settings ≡ u.settings
  pub collected : o.unit.collected ≡ replicate 259 0

-- where a program may be carried out it may not be forbidden
not_both : {most p a : ℕ} {ds : List ℕ} → May most p a ds → MayNot most p a ds → ⊥
not_both {most} {p} {a} {ds} m n = go (may_not_permitted most p a ds n)
  where
    go : (most < a % 65536 + length ds) ⊎ (permitted part p a ds ≡ false) → ⊥
    go (inl h) = omega (arith, m.bank, h)
    go (inr e) = no (sym (may_permitted most p a ds m) ∙ e)
      where
        no : true ≡ false → ⊥
        no z = let y : ◌≡◌ {A = ℕ} 0 1 = cc in omega arith

-- SRD once a program was carried out
verified_is : {reach p a s : ℕ} {ds new : List ℕ} → MayProgram reach p a ds → RowVerified a ds new s → Verified a ds new s
verified_is {a = a} {ds = ds} {new = new} m (row_equal f) = equal (λ j i k h d. sym (byte_at_lem part new (a + j) i k ((address_is (a + j) i k).0 d)) ∙ f j h)
verified_is {a = a} {ds = ds} {new = new} m (row_differs j h f) =
    let (i, k, d, q) = m.free j h in
    differs j i k h d (λ e. f (byte_at_lem part new (a + j) i k ((address_is (a + j) i k).0 d) ∙ e))

-- a packet's run that ends as a law of the specification says, and what the row asks of that
row_ended : {u : Port} {packet : List ℕ} (w : Whole u packet) (img : List ℕ) {r : Registers} {P : List ℕ → Type 0} {said : List ℕ} {o : Outcome}
    → RowEnds u r P said o → ((new : List ℕ) → P new → Effect w img said r new) → Ended u w img o
row_ended {u} w img {r} {P} {said} {o} e f =
    record {
      effect =
          subst⁻¹ (λ (l : List ℕ). Effect w img l o.unit.registers o.image) e.reply
          (subst⁻¹ (λ (x : Registers). Effect w img said x o.image) e.registers (f o.image e.image));
      phase = e.phase;
      settings = e.settings;
      collected = e.collected;
    }

module _ {u : Port} (ready : Ready u) (img : List ℕ) (size : length img ≡ 20480) where
  -- a page read
  page_row : (mid high : ℕ) (o : Open u) → Ended u (takes_ff {mid = mid} {high = high} o) img (run u img (0xFF ∷ mid ∷ high ∷ []))
  page_row mid high o = go (find part (256 * mid + 65536 * high)) refl
    where
      go : (f : Option Spot) → find part (256 * mid + 65536 * high) ≡ f → Ended u (takes_ff {mid = mid} {high = high} o) img (run u img (0xFF ∷ mid ∷ high ∷ []))
      go (Some it) e =
          row_ended (takes_ff {mid = mid} {high = high} o) img (read_part ready ((open_is u).0 o) img size mid high e)
          (λ new q. (inside ((address_is (256 * mid + 65536 * high) it.block it.place).1 e), refl, q))
      go None e =
          row_ended (takes_ff {mid = mid} {high = high} o) img (read_outside ready ((open_is u).0 o) img size mid high e)
          (λ new q. (outside ((outside_is (256 * mid + 65536 * high)).0 e), refl, q))

  -- a program
  program_row : {packet ds : List ℕ} {a reach : ℕ} → Programs packet a ds reach → Open u → (w : Whole u packet)
      → ((r : Registers) (new : List ℕ) → Programming u img reach a ds r new → Effect w img [] r new) → Ended u w img (run u img packet)
  program_row {packet} {ds} {a} {reach} q o w f = go (ℕ_discrete u.registers.srd 0x80) (may_or_not reach u.settings.protection a ds)
    where
      go : Dec (u.registers.srd ≡ 0x80) → May reach u.settings.protection a ds ⊎ MayNot reach u.settings.protection a ds → Ended u w img (run u img packet)
      go (no h) m =
          row_ended w img (program_standing ready ((open_is u).0 o) img (programs_row q) h)
          (λ new k. subst⁻¹ (Effect w img [] u.registers) k (f u.registers img (standing h)))
      go (yes h) (inr m) =
          row_ended w img (program_forbidden ready ((open_is u).0 o) img (programs_row q) h m)
          (λ new k. subst⁻¹ (Effect w img [] (srd_becomes 0x90 u.registers)) k (f _ img (forbidden h (λ y. not_both (may_is y) m))))
      go (yes h) (inl m) =
          let (s, v, e) = program_carried_out ready ((open_is u).0 o) img (programs_row q) size h m in
          let y : MayProgram reach u.settings.protection a ds = may_from m in
          let x = (run u img packet).image in
          record {
            effect =
                subst⁻¹ (λ (l : List ℕ). Effect w img l (run u img packet).unit.registers x) e.reply
                (subst⁻¹ (λ (r : Registers). Effect w img [] r x) e.registers (f _ x (carried_out h y (programmed_is e.image) (verified_is y v))));
            phase = e.phase;
            settings = e.settings;
            collected = e.collected;
          }

  -- an erase, up to where it is confirmed
  erase_row : {packet : List ℕ} {scope : Scope} {confirm : ℕ} → RowErases packet scope confirm → Open u → (w : Whole u packet) (Confirmed : Registers → List ℕ → Type 0)
      → ((r : Registers) (new : List ℕ) → Erasing u img confirm Confirmed r new → Effect w img [] r new)
      → (confirm ≡ 0xD0 → u.registers.srd ≡ 0x80 → Ended u w img (run u img packet)) → Ended u w img (run u img packet)
  erase_row {packet} {scope} {confirm} q o w Confirmed f done = go (ℕ_discrete confirm 0xFF) (ℕ_discrete u.registers.srd 0x80) (ℕ_discrete confirm 0xD0)
    where
      go : Dec (confirm ≡ 0xFF) → Dec (u.registers.srd ≡ 0x80) → Dec (confirm ≡ 0xD0) → Ended u w img (run u img packet)
      go (yes c) s d =
          row_ended w img (erase_cancelled ready ((open_is u).0 o) img q c)
          (λ new k. subst⁻¹ (Effect w img [] u.registers) k (f u.registers img (cancelled c)))
      go (no c) (no h) d =
          row_ended w img (erase_standing ready ((open_is u).0 o) img q h)
          (λ new k. subst⁻¹ (Effect w img [] u.registers) k (f u.registers img (erase_stands c h)))
      go (no c) (yes h) (no d) =
          row_ended w img (erase_unconfirmed ready ((open_is u).0 o) img q h c d)
          (λ new k. subst⁻¹ (Effect w img [] (srd_becomes 0xB0 u.registers)) k (f _ img (unconfirmed c h d)))
      go (no c) (yes h) (yes d) = done d h

  block_row : (mid high confirm : ℕ) (o : Open u) → Ended u (takes_20 {mid = mid} {high = high} {confirm = confirm} o) img (run u img (0x20 ∷ mid ∷ high ∷ confirm ∷ []))
  block_row mid high confirm o =
      erase_row (block_packet {mid = mid} {high = high} {confirm = confirm}) o (takes_20 o) (OneBlock u img a) (λ r new e. (refl, e))
      (λ d h. subst⁻¹ (λ (c : ℕ). Ended u (takes_20 {mid = mid} {high = high} {confirm = c} o) img (run u img (0x20 ∷ mid ∷ high ∷ c ∷ []))) d (go h (find part a) refl))
    where
      a : ℕ
      a = 256 * mid + 65536 * high

      p : ℕ
      p = u.settings.protection

      w : Whole u (0x20 ∷ mid ∷ high ∷ 0xD0 ∷ [])
      w = takes_20 o

      sets_sr5 : u.registers.srd ≡ 0x80 → ((i k : ℕ) → Address a i k → Unprotected p i → ⊥) → RowEnds u (srd_becomes 0xA0 u.registers) (Kept img) [] (run u img (0x20 ∷ mid ∷ high ∷ 0xD0 ∷ []))
          → Ended u w img (run u img (0x20 ∷ mid ∷ high ∷ 0xD0 ∷ []))
      sets_sr5 h n e =
          row_ended w img e
          (λ new k. subst⁻¹ (Effect w img [] (srd_becomes 0xA0 u.registers)) k (refl, confirmed refl h (refused n)))

      inside_block : u.registers.srd ≡ 0x80 → (i k : ℕ) → find part a ≡ Some (spot i k) → Dec (p / 2 ^ i % 2 ≡ 0) → Ended u w img (run u img (0x20 ∷ mid ∷ high ∷ 0xD0 ∷ []))
      inside_block h i k e (yes z) =
          row_ended w img (erase_block_lem ready ((open_is u).0 o) img block_packet h size e z)
          (λ new q. (refl, confirmed refl h (erased ((address_is a i k).1 e) z (one_erased i q))))
      inside_block h i k e (no z) =
          sets_sr5 h
          (λ j n d f. let y : j ≡ i = (one_spot ((address_is a j n).0 d) e).0 in z (subst (λ (i : ℕ). p / 2 ^ i % 2 ≡ 0) y f))
          (erase_protected ready ((open_is u).0 o) img block_packet h e (omega (arith, z)))

      go : u.registers.srd ≡ 0x80 → (f : Option Spot) → find part a ≡ f → Ended u w img (run u img (0x20 ∷ mid ∷ high ∷ 0xD0 ∷ []))
      go h (Some it) e = inside_block h it.block it.place e (ℕ_discrete (p / 2 ^ it.block % 2) 0)
      go h None e = sets_sr5 h (λ i k d f. (outside_is a).0 e i k d) (erase_outside ready ((open_is u).0 o) img block_packet h e)

  all_row : (confirm : ℕ) (o : Open u) → Ended u (takes_a7 {confirm = confirm} o) img (run u img (0xA7 ∷ confirm ∷ []))
  all_row confirm o =
      erase_row (all_packet {confirm = confirm}) o (takes_a7 o) (AllBlocks u img) (λ r new e. (refl, e))
      (λ d h. subst⁻¹ (λ (c : ℕ). Ended u (takes_a7 {confirm = c} o) img (run u img (0xA7 ∷ c ∷ []))) d
      (row_ended (takes_a7 o) img (erase_every_block ready ((open_is u).0 o) img all_packet h size)
      (λ new q. (refl, confirmed refl h (all_erased (free_erased u.settings.protection q))))))

  -- an ID check
  module _ (low mid high : ℕ) (ds : List ℕ) (small : length ds < 256) where
    abbrev packet : List ℕ
    packet = 0xF5 ∷ low ∷ mid ∷ high ∷ length ds ∷ ds

    abbrev whole : Whole u packet
    whole = takes_f5 {low = low} {mid = mid} {high = high} {ds = ds} small

    checked : u.settings.blank ≡ false → {r : Registers} → RowEnds u r (Kept img) [] (run u img packet) → Checked img packet u.registers r → Ended u whole img (run u img packet)
    checked b e c = row_ended whole img e (λ new k. (refl, judged b c, k))

    of_right : Right img packet → {r : Registers} → RowEnds u r (Kept img) [] (run u img (right_packet img)) → RowEnds u r (Kept img) [] (run u img packet)
    of_right e {r} x = subst (λ (l : List ℕ). RowEnds u r (Kept img) [] (run u img l)) (right_bytes img ∙ sym e) x

    not_blank : u.settings.blank ≡ false → Dec (Right img packet) → Dec (u.registers.mismatches < lock_after) → Ended u whole img (run u img packet)
    not_blank b (yes e) (yes few) = checked b (of_right e (check_right ready img size b few)) (opens e few refl)
    not_blank b (yes e) (no many) =
        let full : u.registers.mismatches ≡ lock_after = omega (arith, ((in_range_lem u).1 ready.ranged).mismatches) in
        checked b (of_right e (check_locked ready img size b (omega arith))) (too_late e full (ap (λ (n : ℕ). check_becomes 0x04 n u.registers) full))
    not_blank b (no e) d = checked b (check_wrong ready img low mid high ds small size b (λ w. e (w ∙ right_bytes img))) (counts e refl)

    check_row : Ended u whole img (run u img packet)
    check_row = go u.settings.blank refl
      where
        go : (b : Bool) → u.settings.blank ≡ b → Ended u whole img (run u img packet)
        go true b = let (o, e) = check_blank ready img low mid high ds small b in row_ended whole img e (λ new k. (refl, stays_open b o refl, k))
        go false b = not_blank b (list? packet (packet_bytes (right (ids img)))) (dec_lt u.registers.mismatches lock_after)

  -- a packet of one byte
  one_byte : {b : ℕ} (w : Whole u (b ∷ [])) {r : Registers} {said : List ℕ} → RowEnds u r (Kept img) said (step u img b) → ((new : List ℕ) → new ≡ img → Effect w img said r new)
      → Ended u w img (run u img (b ∷ []))
  one_byte {b} w e f = subst⁻¹ (Ended u w img) (run_one u img b) (row_ended w img e f)

  -- each row of the table
  pub row : {packet : List ℕ} (w : Whole u packet) → Ended u w img (run u img packet)
  row (takes_ff {mid} {high} o) = page_row mid high o
  row (takes_41_or_49 o q) = program_row q o (takes_41_or_49 o q) (λ r new p. (refl, p))
  row (takes_20 {mid} {high} {confirm} o) = block_row mid high confirm o
  row (takes_a7 {confirm} o) = all_row confirm o
  row (takes_50 o) = one_byte (takes_50 o) (row_50 ready img ((open_is u).0 o)) (λ new k. (refl, refl, k))
  row takes_70 = one_byte takes_70 (row_70 ready img) (λ new k. (refl, refl, k))
  row (takes_f5 {low} {mid} {high} {ds} l) = check_row low mid high ds l
  row takes_fb = one_byte takes_fb (row_fb ready img) (λ new k. (refl, refl, k))
  row (takes_b0_to_b4 {n} l) = one_byte (takes_b0_to_b4 {n = n} l) (row_b0_to_b4 ready img n l) (λ new k. (refl, refl, k))
  row takes_00 = one_byte takes_00 (row_00 ready img) (λ new k. (refl, refl, k))
