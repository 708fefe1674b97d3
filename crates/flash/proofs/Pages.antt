-- A page as it is read: 256 bytes of the image, those of its addresses in turn, or nothing.
use Prim.Native.Nat.{ℕ, ◌+◌, ◌<◌}
use native.Mathlib.Omega.{arith}
use mathlib.Core.Bool.{Bool, true, false, cond}
use mathlib.Core.Logic.{◌⊎◌, inl, inr}
use mathlib.Core.Path.{◌≡◌, refl, ap, sym, ◌∙◌}
use mathlib.Core.List.{List, []}
use lib.ListN.{length, get_or, take, drop, length-drop}
use lib.Seq.{get_or-take, get_or-drop, length-take-le}
use Rattle.flash.specs.declared.Spot.{Spot}
use Rattle.std.proofs.Common.{Option, Some, None}
use Rattle.flash.specs.Blocks.{spot, Block, Rising, sized, find, page_address}
use Rattle.flash.specs.Image.{byte_at, part_at, page_part}
use Rattle.flash.proofs.Places.{page_inside, page_fits}
use Rattle.flash.proofs.Outcomes.{sized_true}
use Rattle.flash.proofs.Effects.{byte_at_lem}

module _ (bs : List Block) (img : List ℕ) (mid high : ℕ) where
  pub page_is : (i k : ℕ) → sized bs img ≡ true → find bs (page_address mid high) ≡ Some (spot i k) → page_part bs img mid high ≡ take 256 (drop k img)
  unfolding page_part part_at
  page_is i k s e = rw (s, e)

  pub page_outside_empty : find bs (page_address mid high) ≡ None → page_part bs img mid high ≡ []
  unfolding page_part part_at
  page_outside_empty e = go (sized bs img) (ap (part_at img) e)
    where
      go : (t : Bool) {l : List ℕ} → l ≡ [] → cond t l [] ≡ []
      go true q = q
      go false q = refl

  pub page_unsized_empty : sized bs img ≡ false → page_part bs img mid high ≡ []
  unfolding page_part
  page_unsized_empty e = rw e

  module _ (r : Rising 0 bs) where
    pub page_long : (i k : ℕ) → sized bs img ≡ true → find bs (page_address mid high) ≡ Some (spot i k) → length (page_part bs img mid high) ≡ 256
    page_long i k s e =
        ap length (page_is i k s e)
        ∙ length-take-le 256 (drop k img) (rw length-drop (omega (arith, sized_true bs img s, page_fits 0 bs r (page_address mid high) i k (omega arith) e)))

    pub page_bytes : (i k : ℕ) → sized bs img ≡ true → find bs (page_address mid high) ≡ Some (spot i k) → (j : ℕ) → j < 256 → get_or (page_part bs img mid high) j 0 ≡ byte_at bs img (page_address mid high + j)
    page_bytes i k s e j h =
        ap (λ (l : List ℕ). get_or l j 0) (page_is i k s e)
        ∙ (get_or-take 256 (drop k img) j 0 h
        ∙ (get_or-drop k img j 0 ∙ sym (byte_at_lem bs img (page_address mid high + j) i (k + j) (page_inside 0 bs r (page_address mid high) j i k (omega arith) e))))

    pub page_paged : (length (page_part bs img mid high) ≡ 0) ⊎ (length (page_part bs img mid high) ≡ 256)
    page_paged = go (sized bs img) refl (find bs (page_address mid high)) refl
      where
        go : (t : Bool) → sized bs img ≡ t → (w : Option Spot) → find bs (page_address mid high) ≡ w → (length (page_part bs img mid high) ≡ 0) ⊎ (length (page_part bs img mid high) ≡ 256)
        go true s (Some it) e = inr (page_long it.block it.place s e)
        go true s None e = inl (ap length (page_outside_empty e))
        go false s w e = inl (ap length (page_unsized_empty s))
