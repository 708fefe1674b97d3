-- What the document says of blocks that are not protected is what the flash tests; so a program may be carried out, or may not, by a search for a byte that forbids it.
use Prim.Native.Nat.{ℕ, zero, suc, ◌+◌, ◌/◌, ◌%◌, ◌^◌, ◌<◌}
use native.Mathlib.Omega.{arith}
use native.Mathlib.Decide.{dec_lt}
use mathlib.Core.Bool.{Bool, true, false, not, false≢true}
use mathlib.Core.Logic.{◌⊎◌, inl, inr}
use mathlib.Core.Path.{◌≡◌, refl, ap, sym, ◌∙◌}
use mathlib.Core.List.{List}
use lib.ListN.{length}
use lib.Dec.{ltb}
use borrow.Author.Tests.{eqb-true, eqb-false, eq-eqb, lt-ltb, not-false}
use Rattle.flash.specs.declared.Spot.{Spot}
use Rattle.std.proofs.Common.{Option, Some, None}
use Rattle.flash.specs.Blocks.{spot, part, find, guarded, free}
use Rattle.flash.specs.Image.{free_from, permitted}
use Rattle.slices.proofs.Lists.{both_and}
use Rattle.flash.proofs.Permits.{free_found, permitted_is, permitted_free, all_free}
use Rattle.protocol.specs.Rows.{May, MayNot}
use Rattle.protocol.specs.Rows.MayNot.{none, bank, outside, protected}

-- a test holds of each number below n, or fails of one
pub search : (t : ℕ → Bool) (n : ℕ) → ((j : ℕ) → j < n → t j ≡ true) ⊎ ((j : ℕ) × (j < n) × (t j ≡ false))
search t zero = inl (λ j h. absurd (omega arith))
search t (suc n) = go (search t n) (t n) refl
  where
    go : ((j : ℕ) → j < n → t j ≡ true) ⊎ ((j : ℕ) × (j < n) × (t j ≡ false)) → (b : Bool) → t n ≡ b → ((j : ℕ) → j < suc n → t j ≡ true) ⊎ ((j : ℕ) × (j < suc n) × (t j ≡ false))
    go (inr w) b e = inr (w.0, omega (arith, w.1), w.2)
    go (inl f) false e = inr (n, omega arith, e)
    go (inl f) true e = inl (λ j h. at j h (dec_lt j n))
      where
        at : (j : ℕ) → j < suc n → Dec (j < n) → t j ≡ true
        at j h (yes s) = f j s
        at j h (no s) = let q : j ≡ n = omega arith in ap t q ∙ e

-- bit i of the protection number
module _ (p i : ℕ) where
  pub bit_set : p / 2 ^ i % 2 ≡ 1 → guarded p i ≡ true
  unfolding guarded
  bit_set e = eq-eqb (p / 2 ^ i % 2) 1 e

  pub bit_clear : p / 2 ^ i % 2 ≡ 0 → guarded p i ≡ false
  unfolding guarded
  bit_clear e = rw e

  pub set_bit : guarded p i ≡ true → p / 2 ^ i % 2 ≡ 1
  unfolding guarded
  set_bit e = eqb-true (p / 2 ^ i % 2) 1 e

  pub clear_bit : guarded p i ≡ false → p / 2 ^ i % 2 ≡ 0
  unfolding guarded
  clear_bit e = omega (arith, eqb-false (p / 2 ^ i % 2) 1 e)

-- an address that may be programmed, and one that may not
module _ (p : ℕ) {w : Option Spot} where
  pub free_inside : {i k : ℕ} → w ≡ Some (spot i k) → p / 2 ^ i % 2 ≡ 0 → free p w ≡ true
  unfolding free
  free_inside {i} e z = ap (free p) e ∙ ap not (bit_clear p i z)

  pub not_free_outside : w ≡ None → free p w ≡ false
  unfolding free
  not_free_outside e = ap (free p) e

  pub not_free_protected : {i k : ℕ} → w ≡ Some (spot i k) → p / 2 ^ i % 2 ≡ 1 → free p w ≡ false
  unfolding free
  not_free_protected {i} e z = ap (free p) e ∙ ap not (bit_set p i z)

module _ (most p a : ℕ) (ds : List ℕ) where
  pub may_permitted : May most p a ds → permitted part p a ds ≡ true
  may_permitted m =
      permitted_is part p a (length ds) ds refl
      ∙ both_and (ltb 0 (length ds)) (free_from part p a (length ds)) (lt-ltb 0 (length ds) m.some)
      (all_free part p a (length ds) (λ j h. let w = m.free j h in free_inside p w.2 w.3))

  forbids : (j : ℕ) → j < length ds → free p (find part (a + j)) ≡ false → permitted part p a ds ≡ false
  forbids j h e = go (permitted part p a ds) refl
    where
      go : (t : Bool) → permitted part p a ds ≡ t → permitted part p a ds ≡ false
      go true q = absurd (false≢true (sym e ∙ permitted_free part p a ds q j h))
      go false q = q

  empty : length ds ≡ 0 → permitted part p a ds ≡ false
  empty e = permitted_is part p a 0 ds e

  -- but for the end of the bank, which is tested apart
  pub may_not_permitted : MayNot most p a ds → (most < a % 65536 + length ds) ⊎ (permitted part p a ds ≡ false)
  may_not_permitted (none e) = inr (empty e)
  may_not_permitted (bank h) = inl h
  may_not_permitted (outside j h e) = inr (forbids j h (not_free_outside p e))
  may_not_permitted (protected j i k h e z) = inr (forbids j h (not_free_protected p e z))

  which : (j : ℕ) → j < length ds → free p (find part (a + j)) ≡ false → (w : Option Spot) → find part (a + j) ≡ w → MayNot most p a ds
  unfolding free
  which j h e (Some it) q = protected j it.block it.place h q (set_bit p it.block (not-false (guarded p it.block) (sym (ap (free p) q) ∙ e)))
  which j h e None q = outside j h q

  -- P14: the cases of a program are complete
  pub may_or_not : May most p a ds ⊎ MayNot most p a ds
  may_or_not = go (dec_lt 0 (length ds)) (dec_lt most (a % 65536 + length ds)) (search (λ (j : ℕ). free p (find part (a + j))) (length ds))
    where
      go : Dec (0 < length ds) → Dec (most < a % 65536 + length ds)
          → ((j : ℕ) → j < length ds → free p (find part (a + j)) ≡ true) ⊎ ((j : ℕ) × (j < length ds) × (free p (find part (a + j)) ≡ false))
          → May most p a ds ⊎ MayNot most p a ds
      go (no h) d s = inr (none (omega arith))
      go (yes h) (yes d) s = inr (bank d)
      go (yes h) (no d) (inl f) = inl (record { some = h; bank = omega arith; free = λ j s. let w = free_found p (find part (a + j)) (f j s) in (w.0, w.1, w.2, clear_bit p w.0 w.3) })
      go (yes h) (no d) (inr w) = inr (which w.0 w.1 w.2 (find part (a + w.0)) refl)
