-- Both erase packets come to one ending, by their confirm byte and what they are to erase, and the flash's laws say what it leaves in each case.
use Prim.Native.Nat.{ℕ, ◌+◌, ◌*◌, ◌/◌, ◌%◌, ◌^◌}
use native.Mathlib.Omega.{arith}
use mathlib.Core.Bool.{Bool, true, false, not}
use mathlib.Core.Logic.{◌≢◌, inr}
use mathlib.Core.Path.{◌≡◌, refl, ap, sym, ◌∙◌, subst}
use mathlib.Core.List.{List, []}
use lib.ListN.{length}
use lib.Dec.{eqb}
use borrow.Author.Tests.{eq-eqb, ne_eqb}
use Rattle.std.proofs.Common.{Some, None}
use Rattle.flash.specs.Blocks.{spot, part, find, sized, guarded, free, page_address}
use Rattle.flash.specs.Image.{Written, written, wiped, erase_block, erase_all}
use Rattle.flash.specs.Effects.{Erased}
use Rattle.flash.proofs.Outcomes.{true_sized, erase_refused, erase_done}
use Rattle.flash.proofs.Effects.{block_effect}
use Rattle.flash.proofs.Keeps.{all_effect}
use Rattle.unit.specs.declared.Unit.{Unit as Port}
use Rattle.unit.specs.declared.Registers.{Registers}
use Rattle.unit.specs.Model.{ended, is_open}
use Rattle.protocol.specs.Outcome.{quiet}
use Rattle.protocol.specs.Endings.{nothing, reports, erases, finished}
use Rattle.protocol.specs.Step.{run}
use Rattle.protocol.specs.Rows.{Ready, Ends, Kept, Scope, Erases, srd_is}
use Rattle.protocol.specs.Rows.Row.{after_20, after_a7}
use Rattle.protocol.specs.Rows.Scope.{block_of, every_block}
use Rattle.protocol.specs.Rows.Erases.{block, all}
use Rattle.protocol.proofs.RowsLaws.{cond_same, ends, stands, none_stands}
use Rattle.protocol.proofs.RowsFront.{row_comes_to}
use Rattle.protocol.proofs.RowsMay.{bit_clear, set_bit, clear_bit, not_free_outside, not_free_protected}

-- what a confirmed erase leaves
abbrev attempt : Scope → ℕ → List ℕ → Written
attempt (block_of a) p img = erase_block part p img a
attempt every_block p img = written (erase_all part p img) true

-- the blocks that erase all erases, by the bits of the protection number
unguarded : (p i : ℕ) → not (guarded p i) ≡ eqb (p / 2 ^ i % 2) 0
unguarded p i = go (guarded p i) refl
  where
    go : (t : Bool) → guarded p i ≡ t → not t ≡ eqb (p / 2 ^ i % 2) 0
    go true e = sym (ne_eqb (p / 2 ^ i % 2) 0 (λ z. omega (arith, set_bit p i e)))
    go false e = sym (eq-eqb (p / 2 ^ i % 2) 0 (clear_bit p i e))

chosen_alike : (c d : ℕ → Bool) → ((i : ℕ) → c i ≡ d i) → {img new : List ℕ} → Erased part c img new → Erased part d img new
chosen_alike c d f e =
    record {
      size = e.size;
      there = λ x i k g h. e.there x i k g (f i ∙ h);
      elsewhere = λ x i k g h. e.elsewhere x i k g (f i ∙ h);
    }

-- SRD that was 80 and becomes 80
srd_stays : (r : Registers) → r.srd ≡ 0x80 → srd_is r 0x80 ≡ r
srd_stays r h = ap (srd_is r) (sym h)

module _ {u : Port} (ready : Ready u) (opened : is_open u.registers ≡ true) (img : List ℕ) where
  comes : {packet : List ℕ} {scope : Scope} {confirm : ℕ} → Erases packet scope confirm → run u img packet ≡ erases u img confirm (attempt scope u.settings.protection img)
  unfolding finished
  comes (block {mid} {high} {confirm}) =
      let e : page_address mid high ≡ 256 * mid + 65536 * high = omega arith in
      row_comes_to ready img (after_20 {mid = mid} {high = high} {confirm = confirm}) (inr opened)
      ∙ ap (λ (a : ℕ). erases u img confirm (erase_block part u.settings.protection img a)) e
  comes (all {confirm}) = row_comes_to ready img (after_a7 {confirm = confirm}) (inr opened)

  module _ {packet : List ℕ} {scope : Scope} {confirm : ℕ} (is : Erases packet scope confirm) where
    ended_by : (r : Registers) (P : List ℕ → Type 0) (new : List ℕ) → P new → erases u img confirm (attempt scope u.settings.protection img) ≡ quiet (ended u r) new → Ends u r P [] (run u img packet)
    ended_by r P new h e = subst (Ends u r P []) (sym (comes is ∙ e)) (ends u r P new [] h)

    -- P15: confirm FF, nothing
    pub erase_cancelled : confirm ≡ 0xFF → Ends u u.registers (Kept img) [] (run u img packet)
    unfolding erases
    erase_cancelled c = ended_by u.registers (Kept img) img refl (rw (eq-eqb confirm 0xFF c))

    -- P15: otherwise, if SR4 or SR5 stands, nothing
    pub erase_standing : u.registers.srd ≢ 0x80 → Ends u u.registers (Kept img) [] (run u img packet)
    unfolding erases
    erase_standing h =
        ended_by u.registers (Kept img) img refl (rw (stands u.registers h) (cond_same (eqb confirm 0xFF) (nothing u img)))

    -- P15: otherwise confirm other than D0 sets SR4 and SR5
    pub erase_unconfirmed : u.registers.srd ≡ 0x80 → confirm ≢ 0xFF → confirm ≢ 0xD0 → Ends u (srd_is u.registers 0xB0) (Kept img) [] (run u img packet)
    unfolding erases
    erase_unconfirmed h f d =
        ended_by (srd_is u.registers 0xB0) (Kept img) img refl (rw (ne_eqb confirm 0xFF f, none_stands u.registers h, ne_eqb confirm 0xD0 d))

    -- confirmed, and no error stands
    confirmed : u.registers.srd ≡ 0x80 → confirm ≡ 0xD0 → (w : Written) → attempt scope u.settings.protection img ≡ w → erases u img confirm (attempt scope u.settings.protection img) ≡ reports u 0xA0 w
    unfolding erases
    confirmed h c w e = rw (e, c, none_stands u.registers h)

  -- a block erase that is confirmed, and no error stands
  module _ {packet : List ℕ} {a : ℕ} (is : Erases packet (block_of a) 0xD0) (h : u.registers.srd ≡ 0x80) where
    not_erased : free u.settings.protection (find part a) ≡ false → Ends u (srd_is u.registers 0xA0) (Kept img) [] (run u img packet)
    not_erased e =
        ended_by is (srd_is u.registers 0xA0) (Kept img) img refl (confirmed is h refl (written img false) (erase_refused part u.settings.protection img a e))

    -- P15: otherwise block erase of an outside block sets SR5
    pub erase_outside : find part a ≡ None → Ends u (srd_is u.registers 0xA0) (Kept img) [] (run u img packet)
    erase_outside e = not_erased (not_free_outside u.settings.protection e)

    -- P15: and so does block erase of a protected block
    pub erase_protected : {i k : ℕ} → find part a ≡ Some (spot i k) → u.settings.protection / 2 ^ i % 2 ≡ 1 → Ends u (srd_is u.registers 0xA0) (Kept img) [] (run u img packet)
    erase_protected e z = not_erased (not_free_protected u.settings.protection e z)

    -- P15, P4: else the block becomes FF, by any address in the block
    pub erase_block_lem : length img ≡ 20480 → {i k : ℕ} → find part a ≡ Some (spot i k) → u.settings.protection / 2 ^ i % 2 ≡ 0 → Ends u u.registers (Erased part (λ (j : ℕ). eqb j i) img) [] (run u img packet)
    erase_block_lem size {i} {k} e z =
        let s : sized part img ≡ true = true_sized part img size in
        ended_by is u.registers (Erased part (λ (j : ℕ). eqb j i) img) (wiped part i img) (block_effect part img s a i k e)
        (confirmed is h refl (written (wiped part i img) true) (erase_done part u.settings.protection img a i k s e (bit_clear u.settings.protection i z))
        ∙ ap (λ (r : Registers). quiet (ended u r) (wiped part i img)) (srd_stays u.registers h))

  -- P15, P5: erase all skips protected blocks with no error
  pub erase_every_block : {packet : List ℕ} → Erases packet every_block 0xD0 → u.registers.srd ≡ 0x80 → length img ≡ 20480
      → Ends u u.registers (Erased part (λ (j : ℕ). eqb (u.settings.protection / 2 ^ j % 2) 0) img) [] (run u img packet)
  erase_every_block is h size =
      let p : ℕ = u.settings.protection in
      ended_by is u.registers (Erased part (λ (j : ℕ). eqb (p / 2 ^ j % 2) 0) img) (erase_all part p img)
      (chosen_alike (λ (j : ℕ). not (guarded p j)) (λ (j : ℕ). eqb (p / 2 ^ j % 2) 0) (unguarded p) (all_effect part p img (true_sized part img size)))
      (confirmed is h refl (written (erase_all part p img) true) refl ∙ ap (λ (r : Registers). quiet (ended u r) (erase_all part p img)) (srd_stays u.registers h))
