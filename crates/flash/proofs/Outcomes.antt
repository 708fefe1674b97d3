-- What a program and an erase come to, case by case: nothing where the image has a wrong size or the rules forbid it, and else the new image.
use Prim.Native.Nat.{ℕ, ◌+◌, ◌≤◌}
use native.Mathlib.Omega.{arith}
use mathlib.Core.Bool.{Bool, true, false, cond, ◌&&◌}
use mathlib.Core.Path.{◌≡◌, refl, ap, ap₂, sym, ◌∙◌}
use mathlib.Core.List.{List, [], ◌∷◌, ◌++◌}
use lib.ListN.{length, take, drop, length-take, length-drop}
use lib.Seq.{take_at, drop_at, length-take-le}
use lib.Bits.{bit_and}
use borrow.Author.Tests.{eq-eqb, ne_eqb, eqb-true}
use Rattle.std.proofs.Common.{Some}
use Rattle.slices.specs.Lists.{same}
use Rattle.flash.specs.Blocks.{spot, Block, image_size, sized, find, block_of, place_of, guarded, free}
use Rattle.flash.specs.Image.{burn, programmed, permitted, written, burnt, program, wiped, erase_block, wiped_free, wiped_to, erase_all}
use Rattle.std.proofs.Math.Bool.{and-false}
use Rattle.slices.proofs.Lists.{both_and}
use Rattle.flash.proofs.Turns.{length_burn}

pub sized_true : (bs : List Block) (img : List ℕ) → sized bs img ≡ true → length img ≡ image_size bs
unfolding sized
sized_true bs img e = eqb-true (length img) (image_size bs) e

pub true_sized : (bs : List Block) (img : List ℕ) → length img ≡ image_size bs → sized bs img ≡ true
unfolding sized
true_sized bs img e = eq-eqb (length img) (image_size bs) e

pub not_sized : (bs : List Block) (img : List ℕ) → (length img ≡ image_size bs → ⊥) → sized bs img ≡ false
unfolding sized
not_sized bs img h = ne_eqb (length img) (image_size bs) h

module _ (bs : List Block) (p : ℕ) (img : List ℕ) (a : ℕ) where
  pub program_unsized : (ds : List ℕ) → sized bs img ≡ false → program bs p img a ds ≡ written img false
  unfolding program
  program_unsized ds e = ap (λ (t : Bool). cond (t && permitted bs p a ds) (burnt (place_of bs (find bs a)) img ds) (written img false)) e

  pub program_refused : (ds : List ℕ) → permitted bs p a ds ≡ false → program bs p img a ds ≡ written img false
  unfolding program
  program_refused ds e =
      ap (λ (t : Bool). cond t (burnt (place_of bs (find bs a)) img ds) (written img false)) (ap (λ (t : Bool). sized bs img && t) e ∙ and-false (sized bs img))

  pub program_done : (ds : List ℕ) → sized bs img ≡ true → permitted bs p a ds ≡ true → program bs p img a ds ≡ burnt (place_of bs (find bs a)) img ds
  unfolding program
  program_done ds s e =
      ap (λ (t : Bool). cond t (burnt (place_of bs (find bs a)) img ds) (written img false)) (both_and (sized bs img) (permitted bs p a ds) s e)

  pub erase_unsized : sized bs img ≡ false → erase_block bs p img a ≡ written img false
  unfolding erase_block
  erase_unsized e = ap (λ (t : Bool). cond (t && free p (find bs a)) (written (wiped bs (block_of bs (find bs a)) img) true) (written img false)) e

  pub erase_refused : free p (find bs a) ≡ false → erase_block bs p img a ≡ written img false
  unfolding erase_block
  erase_refused e =
      ap (λ (t : Bool). cond t (written (wiped bs (block_of bs (find bs a)) img) true) (written img false)) (ap (λ (t : Bool). sized bs img && t) e ∙ and-false (sized bs img))

  pub erase_done : (i k : ℕ) → sized bs img ≡ true → find bs a ≡ Some (spot i k) → guarded p i ≡ false → erase_block bs p img a ≡ written (wiped bs i img) true
  unfolding erase_block free block_of
  erase_done i k s e g = rw (s, e, g)

pub wipe_refused : (bs : List Block) (p i : ℕ) (img : List ℕ) → guarded p i ≡ true → wiped_free bs p i img ≡ img
unfolding wiped_free
wipe_refused bs p i img e = ap (λ (t : Bool). cond t img (wiped bs i img)) e

pub wipe_done : (bs : List Block) (p i : ℕ) (img : List ℕ) → guarded p i ≡ false → wiped_free bs p i img ≡ wiped bs i img
unfolding wiped_free
wipe_done bs p i img e = ap (λ (t : Bool). cond t img (wiped bs i img)) e

pub all_unsized : (bs : List Block) (p : ℕ) (img : List ℕ) → sized bs img ≡ false → erase_all bs p img ≡ img
unfolding erase_all
all_unsized bs p img e = ap (λ (t : Bool). cond t (wiped_to bs p (length bs) img) img) e

pub all_done : (bs : List Block) (p : ℕ) (img : List ℕ) → sized bs img ≡ true → erase_all bs p img ≡ wiped_to bs p (length bs) img
unfolding erase_all
all_done bs p img e = ap (λ (t : Bool). cond t (wiped_to bs p (length bs) img) img) e

-- programming a list is programming its front
burn_front : (xs ds : List ℕ) → length ds ≤ length xs → burn xs ds ≡ burn (take (length ds) xs) ds ++ drop (length ds) xs
burn_front xs [] h = refl
burn_front [] (d ∷ ds) h = refl
burn_front (x ∷ xs) (d ∷ ds) h = ap (λ (l : List ℕ). bit_and x d ∷ l) (burn_front xs ds (omega arith))

-- programming the image is programming the part of it that has the data's length
module _ (k : ℕ) (img ds : List ℕ) (fits : k + length ds ≤ length img) where
  front : List ℕ
  front = burn (take (length ds) (drop k img)) ds

  front_long : length front ≡ length ds
  unfolding front
  front_long = simp (length_burn, length-take, length-drop) (omega arith)

  programmed_part : programmed k img ds ≡ take k img ++ (front ++ drop (length ds) (drop k img))
  unfolding programmed front
  programmed_part = ap (λ (l : List ℕ). take k img ++ l) (burn_front (drop k img) ds (rw length-drop (omega arith)))

  programmed_there : take (length ds) (drop k (programmed k img ds)) ≡ front
  programmed_there =
      ap (λ (l : List ℕ). take (length ds) (drop k l)) programmed_part
      ∙ (ap (take (length ds)) (drop_at (take k img) (front ++ drop (length ds) (drop k img)) k (length-take-le k img (omega arith)))
      ∙ take_at front (drop (length ds) (drop k img)) (length ds) front_long)

  pub burnt_part : written (take k img ++ (burn (take (length ds) (drop k img)) ds ++ drop (length ds) (drop k img))) (same (burn (take (length ds) (drop k img)) ds) ds) ≡ burnt k img ds
  unfolding burnt front
  burnt_part = ap₂ written (sym programmed_part) (ap (λ (l : List ℕ). same l ds) (sym programmed_there))
