-- What may be programmed: a run of addresses is free where each of them is, and one address of a page speaks for the page.
use Prim.Native.Nat.{ℕ, zero, suc, ◌+◌, ◌-◌, ◌%◌, ◌≤◌, ◌<◌}
use native.Mathlib.Omega.{arith}
use native.Mathlib.Nat.{add-zero}
use mathlib.Core.Bool.{Bool, true, false, ◌&&◌, false≢true}
use mathlib.Core.Path.{◌≡◌, refl, ap, sym, ◌∙◌}
use mathlib.Core.List.{List}
use lib.ListN.{length}
use lib.Dec.{ltb}
use borrow.Author.Tests.{ltb-true, not-true}
use Rattle.flash.specs.declared.Spot.{Spot}
use Rattle.std.proofs.Common.{Option, Some, None}
use Rattle.flash.specs.Blocks.{spot, Block, part, Rising, image_size, find, guarded, free}
use Rattle.flash.specs.Image.{free_from, permitted}
use Rattle.slices.proofs.Lists.{and_both, both_and}
use Rattle.flash.proofs.Places.{Lies, found, one_spot, found_fits, next_place, page_inside, page_outside}

-- what is free is inside, in a block that is not protected
pub free_found : (p : ℕ) (w : Option Spot) → free p w ≡ true → (i : ℕ) × (k : ℕ) × (w ≡ Some (spot i k)) × (guarded p i ≡ false)
unfolding free
free_found p (Some it) e = (it.block, it.place, refl, not-true (guarded p it.block) e)
free_found p None e = absurd (false≢true e)

-- the part ends at 0FFFF
pub free_below : (p a : ℕ) → free p (find part a) ≡ true → a < 65536
free_below p a e = let w = free_found p (find part a) e in ends w.0 (found part a w.0 w.1 w.2)
  where
    ends : (i : ℕ) {k : ℕ} → Lies part i k a → a < 65536
    ends zero l = omega arith
    ends (suc zero) l = omega arith
    ends (suc (suc zero)) l = omega arith
    ends (suc (suc (suc zero))) l = omega arith
    ends (suc (suc (suc (suc i)))) l = absurd (omega arith)

module _ (bs : List Block) (p : ℕ) where
  pub each_free : (a n : ℕ) → free_from bs p a n ≡ true → (j : ℕ) → j < n → free p (find bs (a + j)) ≡ true
  each_free a zero e j h = absurd (omega arith)
  each_free a (suc n) e zero h = ap (λ (x : ℕ). free p (find bs x)) (add-zero a) ∙ (and_both (free p (find bs a)) (free_from bs p (suc a) n) e).0
  each_free a (suc n) e (suc j) h =
      let s : a + suc j ≡ suc a + j = omega arith in
      ap (λ (x : ℕ). free p (find bs x)) s ∙ each_free (suc a) n (and_both (free p (find bs a)) (free_from bs p (suc a) n) e).1 j (omega arith)

  pub all_free : (a n : ℕ) → ((j : ℕ) → j < n → free p (find bs (a + j)) ≡ true) → free_from bs p a n ≡ true
  all_free a zero f = refl
  all_free a (suc n) f =
      both_and (free p (find bs a)) (free_from bs p (suc a) n) (ap (λ (x : ℕ). free p (find bs x)) (sym (add-zero a)) ∙ f 0 (omega arith))
      (all_free (suc a) n (λ j h. let s : suc a + j ≡ a + suc j = omega arith in ap (λ (x : ℕ). free p (find bs x)) s ∙ f (suc j) (omega arith)))

  pub first_not_free : (a n : ℕ) → 0 < n → free p (find bs a) ≡ false → free_from bs p a n ≡ false
  first_not_free a zero h e = absurd (omega arith)
  first_not_free a (suc n) h e = ap (λ (t : Bool). t && free_from bs p (suc a) n) e

  -- the rest of a run whose front is free
  pub free_rest : (a m n : ℕ) → free_from bs p a m ≡ true → free_from bs p (a + m) n ≡ free_from bs p a (m + n)
  free_rest a zero n e = let x : a + 0 ≡ a = omega arith in let y : 0 + n ≡ n = omega arith in rw (x, y)
  free_rest a (suc m) n e =
      let b = and_both (free p (find bs a)) (free_from bs p (suc a) m) e in
      let x : a + suc m ≡ suc a + m = omega arith in
      let y : suc m + n ≡ suc (m + n) = omega arith in
      ap (λ (k : ℕ). free_from bs p k n) x ∙ (free_rest (suc a) m n b.1 ∙ sym (ap (free_from bs p a) y ∙ ap (λ (t : Bool). t && free_from bs p (suc a) (m + n)) b.0))

  pub permitted_is : (a n : ℕ) (ds : List ℕ) → length ds ≡ n → permitted bs p a ds ≡ (ltb 0 n && free_from bs p a n)
  unfolding permitted
  permitted_is a n ds e = ap (λ (n : ℕ). ltb 0 n && free_from bs p a n) e

  pub permitted_some : (a : ℕ) (ds : List ℕ) → permitted bs p a ds ≡ true → 0 < length ds
  permitted_some a ds e =
      let n = length ds in
      ltb-true 0 n (and_both (ltb 0 n) (free_from bs p a n) (sym (permitted_is a n ds refl) ∙ e)).0

  -- each address of a permitted program is inside, and its block is not protected
  pub permitted_free : (a : ℕ) (ds : List ℕ) → permitted bs p a ds ≡ true → (j : ℕ) → j < length ds → free p (find bs (a + j)) ≡ true
  permitted_free a ds e =
      let n = length ds in
      each_free a n (and_both (ltb 0 n) (free_from bs p a n) (sym (permitted_is a n ds refl) ∙ e)).1

  module _ (lo : ℕ) (r : Rising lo bs) where
    page_free : (a j : ℕ) → a % 256 + j < 256 → free p (find bs (a + j)) ≡ free p (find bs a)
    unfolding free
    page_free a j h = go (find bs a) refl
      where
        go : (w : Option Spot) → find bs a ≡ w → free p (find bs (a + j)) ≡ free p (find bs a)
        go (Some it) e = rw (e, page_inside lo bs r a j it.block it.place h e)
        go None e = rw (e, page_outside lo bs r a j h e)

    -- one free address frees the rest of its page
    pub free_page : (a n : ℕ) → a % 256 + n ≤ 256 → free p (find bs a) ≡ true → free_from bs p a n ≡ true
    free_page a n h e = all_free a n (λ j s. page_free a j (omega arith) ∙ e)

    -- a permitted program goes to one place after the other, none of them in a protected block
    pub permitted_found : (a : ℕ) (ds : List ℕ) → permitted bs p a ds ≡ true → (i k : ℕ) → find bs a ≡ Some (spot i k) → (j : ℕ) → j < length ds → (m : ℕ) × (find bs (a + j) ≡ Some (spot m (k + j))) × (guarded p m ≡ false)
    permitted_found a ds g i k e zero h =
        let w = free_found p (find bs (a + 0)) (permitted_free a ds g 0 h) in
        let x : a + 0 ≡ a = omega arith in
        let y : k + 0 ≡ k = omega arith in
        let q : w.1 ≡ k + 0 = (one_spot (sym (ap (find bs) x) ∙ w.2) e).1 ∙ sym y in
        (w.0, w.2 ∙ ap (λ (n : ℕ). Some (spot w.0 n)) q, w.3)
    permitted_found a ds g i k e (suc j) h =
        let v = permitted_found a ds g i k e j (omega arith) in
        let w = free_found p (find bs (a + suc j)) (permitted_free a ds g (suc j) h) in
        let x : a + suc j ≡ suc (a + j) = omega arith in
        let s : w.1 ≡ suc (k + j) = next_place lo bs r (a + j) v.0 w.0 (k + j) w.1 v.1 (ap (find bs) (sym x) ∙ w.2) in
        let q : w.1 ≡ k + suc j = omega arith in
        (w.0, w.2 ∙ ap (λ (n : ℕ). Some (spot w.0 n)) q, w.3)

    pub permitted_fits : (a : ℕ) (ds : List ℕ) → permitted bs p a ds ≡ true → (i k : ℕ) → find bs a ≡ Some (spot i k) → k + length ds ≤ image_size bs
    permitted_fits a ds g i k e =
        let some : 0 < length ds = permitted_some a ds g in
        let w = permitted_found a ds g i k e (length ds - 1) (omega arith) in
        omega (arith, found_fits bs (a + (length ds - 1)) w.0 (k + (length ds - 1)) w.1)

  pub permitted_inside : (a : ℕ) (ds : List ℕ) → permitted bs p a ds ≡ true → (i : ℕ) × (k : ℕ) × (find bs a ≡ Some (spot i k)) × (guarded p i ≡ false)
  permitted_inside a ds g =
      let x : a + 0 ≡ a = omega arith in
      free_found p (find bs a) (ap (λ (n : ℕ). free p (find bs n)) (sym x) ∙ permitted_free a ds g 0 (permitted_some a ds g))
