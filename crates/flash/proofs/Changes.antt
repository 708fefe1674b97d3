-- What programming and erasing leave at each place of the image, and that neither changes its length.
use Prim.Native.Nat.{ℕ, zero, suc, ◌+◌, ◌-◌, ◌≤◌, ◌<◌}
use native.Mathlib.Omega.{arith}
use native.Mathlib.Decide.{dec_lt}
use mathlib.Core.Bool.{Bool, true, false, ◌&&◌}
use mathlib.Core.Logic.{◌⊎◌, inl, inr}
use mathlib.Core.Path.{◌≡◌, refl, ap, ◌∙◌, subst}
use mathlib.Core.List.{List, [], ◌∷◌, ◌++◌}
use lib.ListN.{length, get_or, drop, replicate, length-append, length-take, length-drop, length-replicate, get_or-replicate, get_or-append}
use lib.Seq.{get_or-drop, get_or-append-add}
use lib.Bits.{bit_and}
use Rattle.flash.specs.Blocks.{Block, sized, image_size, find, block_from, block_size, guarded, free, place_of}
use Rattle.flash.specs.Image.{burn, programmed, erased, wiped, wiped_free, wiped_to, erase_all, permitted, Written, written, program, burnt, erase_block}
use Rattle.slices.proofs.Lists.{cond_elim, below_kept, from_on}
use Rattle.flash.proofs.Turns.{length_burn}
use Rattle.flash.proofs.Places.{block_ends, found_number}
use Rattle.flash.proofs.Permits.{free_found}
use Rattle.flash.proofs.Outcomes.{sized_true, erase_unsized, erase_refused, erase_done}

burn_at : (xs ds : List ℕ) (j : ℕ) → j < length xs → j < length ds → get_or (burn xs ds) j 0 ≡ bit_and (get_or xs j 0) (get_or ds j 0)
burn_at [] ds j h s = absurd (omega arith)
burn_at (x ∷ xs) [] j h s = absurd (omega arith)
burn_at (x ∷ xs) (d ∷ ds) zero h s = refl
burn_at (x ∷ xs) (d ∷ ds) (suc j) h s = burn_at xs ds j (omega arith) (omega arith)

burn_past : (xs ds : List ℕ) (j : ℕ) → length ds ≤ j → get_or (burn xs ds) j 0 ≡ get_or xs j 0
burn_past xs [] j h = refl
burn_past [] (d ∷ ds) j h = refl
burn_past (x ∷ xs) (d ∷ ds) zero h = absurd (omega arith)
burn_past (x ∷ xs) (d ∷ ds) (suc j) h = burn_past xs ds j (omega arith)

module _ (k : ℕ) (img ds : List ℕ) where
  pub length_programmed : length (programmed k img ds) ≡ length img
  unfolding programmed
  length_programmed = simp (length-append, length_burn, length-take, length-drop) (omega arith)

  pub programmed_at : (j : ℕ) → j < length ds → k + j < length img → get_or (programmed k img ds) (k + j) 0 ≡ bit_and (get_or img (k + j) 0) (get_or ds j 0)
  unfolding programmed
  programmed_at j h s =
      from_on img (burn (drop k img) ds) k j (omega arith)
      ∙ (burn_at (drop k img) ds j (rw length-drop (omega arith)) h ∙ ap (λ (x : ℕ). bit_and x (get_or ds j 0)) (get_or-drop k img j 0))

  pub programmed_other : (m : ℕ) → k ≤ length img → (m < k) ⊎ (k + length ds ≤ m) → get_or (programmed k img ds) m 0 ≡ get_or img m 0
  unfolding programmed
  programmed_other m h (inl s) = below_kept img (burn (drop k img) ds) k m h s
  programmed_other m h (inr s) =
      let e : k + (m - k) ≡ m = omega arith in
      subst (λ (x : ℕ). get_or (programmed k img ds) x 0 ≡ get_or img x 0) e
      (from_on img (burn (drop k img) ds) k (m - k) h ∙ (burn_past (drop k img) ds (m - k) (omega arith) ∙ get_or-drop k img (m - k) 0))

module _ (k n : ℕ) (img : List ℕ) (fits : k + n ≤ length img) where
  length_erased : length (erased k n img) ≡ length img
  unfolding erased
  length_erased = simp (length-append, length-replicate, length-take, length-drop) (omega arith)

  erased_at : (m : ℕ) → k ≤ m → m < k + n → get_or (erased k n img) m 0 ≡ 0xFF
  unfolding erased
  erased_at m h s =
      let ff : List ℕ = replicate n 0xFF in
      let e : k + (m - k) ≡ m = omega arith in
      subst (λ (x : ℕ). get_or (erased k n img) x 0 ≡ 0xFF) e
      (from_on img (ff ++ drop (k + n) img) k (m - k) (omega arith)
      ∙ (get_or-append ff (drop (k + n) img) 0 (m - k) (omega (arith, length-replicate {A = ℕ} n 0xFF)) ∙ get_or-replicate n (m - k) 0xFF 0 (omega arith)))

  erased_other : (m : ℕ) → (m < k) ⊎ (k + n ≤ m) → get_or (erased k n img) m 0 ≡ get_or img m 0
  unfolding erased
  erased_other m (inl s) = below_kept img (replicate n 0xFF ++ drop (k + n) img) k m (omega arith) s
  erased_other m (inr s) =
      let ff : List ℕ = replicate n 0xFF in
      let long : length ff ≡ n = length-replicate n 0xFF in
      let e : k + (length ff + (m - (k + n))) ≡ m = omega arith in
      let f : k + n + (m - (k + n)) ≡ m = omega arith in
      subst (λ (x : ℕ). get_or (erased k n img) x 0 ≡ get_or img m 0) e
      (from_on img (ff ++ drop (k + n) img) k (length ff + (m - (k + n))) (omega arith)
      ∙ (get_or-append-add ff (drop (k + n) img) (m - (k + n)) 0 ∙ (get_or-drop (k + n) img (m - (k + n)) 0 ∙ ap (λ (x : ℕ). get_or img x 0) f)))

-- a block of an image of the right size
module _ (bs : List Block) (i : ℕ) (img : List ℕ) (of : i < length bs) (size : length img ≡ image_size bs) where
  fits_image : block_from bs i + block_size bs i ≤ length img
  fits_image = omega (arith, block_ends bs i of)

  pub length_wiped : length (wiped bs i img) ≡ length img
  unfolding wiped
  length_wiped = length_erased (block_from bs i) (block_size bs i) img fits_image

  pub wiped_at : (k : ℕ) → block_from bs i ≤ k → k < block_from bs i + block_size bs i → get_or (wiped bs i img) k 0 ≡ 0xFF
  unfolding wiped
  wiped_at k h s = erased_at (block_from bs i) (block_size bs i) img fits_image k h s

  pub wiped_other : (k : ℕ) → (block_from bs i ≤ k → k < block_from bs i + block_size bs i → ⊥) → get_or (wiped bs i img) k 0 ≡ get_or img k 0
  unfolding wiped
  wiped_other k n = erased_other (block_from bs i) (block_size bs i) img fits_image k (go (dec_lt k (block_from bs i)) (dec_lt k (block_from bs i + block_size bs i)))
    where
      go : Dec (k < block_from bs i) → Dec (k < block_from bs i + block_size bs i) → (k < block_from bs i) ⊎ (block_from bs i + block_size bs i ≤ k)
      go (yes h) d = inl h
      go (no h) (yes d) = absurd (n (omega arith) d)
      go (no h) (no d) = inr (omega arith)

module _ (bs : List Block) (p : ℕ) (img : List ℕ) where
  pub length_wipedto : length img ≡ image_size bs → (n : ℕ) → n ≤ length bs → length (wiped_to bs p n img) ≡ length img
  unfolding wiped_free
  length_wipedto e zero h = refl
  length_wipedto e (suc n) h =
      let l : length (wiped_to bs p n img) ≡ length img = length_wipedto e n (omega arith) in
      cond_elim (λ (x : List ℕ). length x ≡ length img) (guarded p n) (wiped_to bs p n img) (wiped bs n (wiped_to bs p n img))
      (λ t. l)
      (λ t. length_wiped bs n (wiped_to bs p n img) h (l ∙ e) ∙ l)

  -- no call changes the length of an image, of whatever length it is
  pub length_eraseall : length (erase_all bs p img) ≡ length img
  unfolding erase_all
  length_eraseall =
      cond_elim (λ (x : List ℕ). length x ≡ length img) (sized bs img) (wiped_to bs p (length bs) img) img
      (λ t. length_wipedto (sized_true bs img t) (length bs) (omega arith))
      (λ t. refl)

  pub length_program : (a : ℕ) (ds : List ℕ) → length (program bs p img a ds).image ≡ length img
  unfolding program burnt
  length_program a ds =
      cond_elim (λ (w : Written). length w.image ≡ length img) (sized bs img && permitted bs p a ds) (burnt (place_of bs (find bs a)) img ds) (written img false)
      (λ t. length_programmed (place_of bs (find bs a)) img ds)
      (λ t. refl)

  pub length_eraseblock : (a : ℕ) → length (erase_block bs p img a).image ≡ length img
  length_eraseblock a = go (sized bs img) refl (free p (find bs a)) refl
    where
      go : (s : Bool) → sized bs img ≡ s → (f : Bool) → free p (find bs a) ≡ f → length (erase_block bs p img a).image ≡ length img
      go false e f q = ap (λ (w : Written). length w.image) (erase_unsized bs p img a e)
      go true e false q = ap (λ (w : Written). length w.image) (erase_refused bs p img a q)
      go true e true q =
          let w = free_found p (find bs a) q in
          ap (λ (w : Written). length w.image) (erase_done bs p img a w.0 w.1 e w.2 w.3)
          ∙ length_wiped bs w.0 img (found_number bs a w.0 w.1 w.2) (sized_true bs img e)
