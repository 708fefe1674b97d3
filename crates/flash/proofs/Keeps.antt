-- No call changes a place of a protected block, whatever the image's length; and what erasing all blocks leaves is what specs/Effects says.
use Prim.Native.Nat.{ℕ, zero, suc, ◌+◌, ◌-◌, ◌≤◌, ◌<◌}
use native.Mathlib.Omega.{arith}
use native.Mathlib.Decide.{dec_lt}
use mathlib.Core.Bool.{Bool, true, false, not, false≢true}
use mathlib.Core.Logic.{◌⊎◌, inl, inr}
use mathlib.Core.Path.{◌≡◌, refl, ap, sym, ◌∙◌, subst}
use mathlib.Core.List.{List}
use lib.ListN.{length, get_or}
use borrow.Author.Tests.{not-true, not-false}
use Rattle.std.proofs.Common.{Some}
use Rattle.flash.specs.Blocks.{spot, Block, Rising, image_size, sized, find, place_of, block_from, block_size, guarded, free}
use Rattle.flash.specs.Image.{byte_at, permitted, burnt, Written, program, wiped_free, wiped_to, erase_block, erase_all}
use Rattle.flash.specs.Effects.{Erased}
use Rattle.flash.proofs.Places.{found_number, found_from, found_under, found_block, one_place}
use Rattle.flash.proofs.Permits.{free_found, permitted_found, permitted_fits, permitted_inside}
use Rattle.flash.proofs.Outcomes.{sized_true, program_unsized, program_refused, program_done, erase_unsized, erase_refused, erase_done, wipe_refused, wipe_done, all_unsized, all_done}
use Rattle.flash.proofs.Changes.{programmed_other, wiped_at, wiped_other, length_wipedto, length_eraseall}
use Rattle.flash.proofs.Effects.{byte_at_lem, place_is}

-- what stands at place k, in block i
module _ (bs : List Block) (p i k : ℕ) (from : block_from bs i ≤ k) (under : k < block_from bs i + block_size bs i) where
  wipe_keeps : (l : List ℕ) → length l ≡ image_size bs → (n : ℕ) → n < length bs → (guarded p n ≡ false → n ≡ i → ⊥) → get_or (wiped_free bs p n l) k 0 ≡ get_or l k 0
  wipe_keeps l size n of far = go (guarded p n) refl
    where
      go : (t : Bool) → guarded p n ≡ t → get_or (wiped_free bs p n l) k 0 ≡ get_or l k 0
      go true e = ap (λ (x : List ℕ). get_or x k 0) (wipe_refused bs p n l e)
      go false e =
          ap (λ (x : List ℕ). get_or x k 0) (wipe_done bs p n l e)
          ∙ wiped_other bs n l of size k (λ s t. far e (one_place bs k n i s t from under))

  module _ (img : List ℕ) (size : length img ≡ image_size bs) where
    -- the first n blocks erased, where block i is not among those that may be, and where it is
    wipedto_keeps : guarded p i ≡ true → (n : ℕ) → n ≤ length bs → get_or (wiped_to bs p n img) k 0 ≡ get_or img k 0
    wipedto_keeps g zero h = refl
    wipedto_keeps g (suc n) h =
        wipe_keeps (wiped_to bs p n img) (length_wipedto bs p img size n (omega arith) ∙ size) n h (λ e q. false≢true (sym e ∙ (ap (guarded p) q ∙ g)))
        ∙ wipedto_keeps g n (omega arith)

    wipedto_there : guarded p i ≡ false → (n : ℕ) → n ≤ length bs → i < n → get_or (wiped_to bs p n img) k 0 ≡ 0xFF
    wipedto_there g zero h s = absurd (omega arith)
    wipedto_there g (suc n) h s = go (dec_lt i n) (λ t. wipedto_there g n (omega arith) t)
      where
        long : length (wiped_to bs p n img) ≡ image_size bs
        long = length_wipedto bs p img size n (omega arith) ∙ size

        go : Dec (i < n) → (i < n → get_or (wiped_to bs p n img) k 0 ≡ 0xFF) → get_or (wiped_to bs p (suc n) img) k 0 ≡ 0xFF
        go (yes t) f = wipe_keeps (wiped_to bs p n img) long n h (λ e q. omega arith) ∙ f t
        go (no t) f =
            let q : i ≡ n = omega arith in
            ap (λ (x : List ℕ). get_or x k 0) (wipe_done bs p n (wiped_to bs p n img) (ap (guarded p) (sym q) ∙ g))
            ∙ wiped_at bs n (wiped_to bs p n img) h long k (subst (λ (m : ℕ). block_from bs m ≤ k) q from) (subst (λ (m : ℕ). k < block_from bs m + block_size bs m) q under)

  -- the place of a protected block
  module _ (g : guarded p i ≡ true) (img : List ℕ) where
    pub all_keeps : get_or (erase_all bs p img) k 0 ≡ get_or img k 0
    all_keeps = go (sized bs img) refl
      where
        go : (t : Bool) → sized bs img ≡ t → get_or (erase_all bs p img) k 0 ≡ get_or img k 0
        go true e = ap (λ (x : List ℕ). get_or x k 0) (all_done bs p img e) ∙ wipedto_keeps img (sized_true bs img e) g (length bs) (omega arith)
        go false e = ap (λ (x : List ℕ). get_or x k 0) (all_unsized bs p img e)

    pub block_keeps : (a : ℕ) → get_or (erase_block bs p img a).image k 0 ≡ get_or img k 0
    block_keeps a = go (sized bs img) refl (free p (find bs a)) refl
      where
        at : Written → ℕ
        at w = get_or w.image k 0

        go : (s : Bool) → sized bs img ≡ s → (f : Bool) → free p (find bs a) ≡ f → get_or (erase_block bs p img a).image k 0 ≡ get_or img k 0
        go false e f q = ap at (erase_unsized bs p img a e)
        go true e false q = ap at (erase_refused bs p img a q)
        go true e true q =
            let w = free_found p (find bs a) q in
            ap at (erase_done bs p img a w.0 w.1 e w.2 w.3)
            ∙ wiped_other bs w.0 img (found_number bs a w.0 w.1 w.2) (sized_true bs img e) k
            (λ s t. false≢true (sym w.3 ∙ (ap (guarded p) (one_place bs k w.0 i s t from under) ∙ g)))

    pub program_keeps : Rising 0 bs → (a : ℕ) (ds : List ℕ) → get_or (program bs p img a ds).image k 0 ≡ get_or img k 0
    unfolding burnt
    program_keeps r a ds = go (sized bs img) refl (permitted bs p a ds) refl
      where
        at : Written → ℕ
        at w = get_or w.image k 0

        apart : (x j : ℕ) → permitted bs p a ds ≡ true → find bs a ≡ Some (spot j x) → Dec (k < x) → Dec (k < x + length ds) → (k < x) ⊎ (x + length ds ≤ k)
        apart x j may e (yes h) d = inl h
        apart x j may e (no h) (no d) = inr (omega arith)
        apart x j may e (no h) (yes d) =
            let w = permitted_found bs p 0 r a ds may j x e (k - x) (omega arith) in
            let q : x + (k - x) ≡ k = omega arith in
            absurd (false≢true (sym w.2 ∙ (ap (guarded p) (sym (found_block bs (a + (k - x)) i w.0 k from under (w.1 ∙ ap (λ (n : ℕ). Some (spot w.0 n)) q))) ∙ g)))

        go : (s : Bool) → sized bs img ≡ s → (f : Bool) → permitted bs p a ds ≡ f → get_or (program bs p img a ds).image k 0 ≡ get_or img k 0
        go false e f q = ap at (program_unsized bs p img a ds e)
        go true e false q = ap at (program_refused bs p img a ds q)
        go true e true q =
            let w = permitted_inside bs p a ds q in
            let x : ℕ = place_of bs (find bs a) in
            let b : find bs a ≡ Some (spot w.0 x) = w.2 ∙ ap (λ (n : ℕ). Some (spot w.0 n)) (sym (place_is bs (find bs a) w.0 w.1 w.2)) in
            ap at (program_done bs p img a ds e q)
            ∙ programmed_other x img ds k (omega (arith, sized_true bs img e, permitted_fits bs p 0 r a ds q w.0 x b)) (apart x w.0 q b (dec_lt k x) (dec_lt k (x + length ds)))

-- an erase of every block that is not protected
pub all_effect : (bs : List Block) (p : ℕ) (img : List ℕ) → sized bs img ≡ true → Erased bs (λ j. not (guarded p j)) img (erase_all bs p img)
all_effect bs p img s = record { size = length_eraseall bs p img; there = at; elsewhere = off }
  where
    at : (x i k : ℕ) → find bs x ≡ Some (spot i k) → not (guarded p i) ≡ true → byte_at bs (erase_all bs p img) x ≡ 0xFF
    at x i k e q =
        byte_at_lem bs (erase_all bs p img) x i k e
        ∙ (ap (λ (l : List ℕ). get_or l k 0) (all_done bs p img s)
        ∙ wipedto_there bs p i k (found_from bs x i k e) (found_under bs x i k e) img (sized_true bs img s) (not-true (guarded p i) q) (length bs) (omega arith) (found_number bs x i k e))

    off : (x i k : ℕ) → find bs x ≡ Some (spot i k) → not (guarded p i) ≡ false → byte_at bs (erase_all bs p img) x ≡ byte_at bs img x
    off x i k e q =
        byte_at_lem bs (erase_all bs p img) x i k e
        ∙ (all_keeps bs p i k (found_from bs x i k e) (found_under bs x i k e) (not-false (guarded p i) q) img ∙ sym (byte_at_lem bs img x i k e))
