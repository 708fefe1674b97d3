-- What a carried-out program or erase does is what specs/Effects says, address by address, and that fixes the whole image.
use Prim.Native.Nat.{ℕ, ◌+◌, ◌-◌, ◌≤◌, ◌<◌}
use native.Mathlib.Omega.{arith}
use native.Mathlib.Decide.{dec_lt}
use mathlib.Core.Bool.{Bool, true, false, false≢true}
use mathlib.Core.Logic.{◌⊎◌, inl, inr}
use mathlib.Core.Path.{◌≡◌, refl, ap, sym, ◌∙◌, subst}
use mathlib.Core.List.{List}
use lib.ListN.{length, get_or, take, drop, length-drop}
use lib.Seq.{get_or-take, get_or-drop, ext_get_or, length-take-le}
use lib.Dec.{eqb}
use lib.Bits.{bit_and}
use borrow.Author.Tests.{eqb-true, eqb-false}
use Rattle.flash.specs.declared.Spot.{Spot}
use Rattle.std.proofs.Common.{Option, Some, None}
use Rattle.slices.specs.Lists.{same}
use Rattle.flash.specs.Blocks.{spot, Block, Rising, image_size, sized, find, place_of, guarded}
use Rattle.flash.specs.Image.{byte_at, permitted, programmed, wiped}
use Rattle.flash.specs.Effects.{is_inside, Programmed, Erased}
use Rattle.slices.proofs.Lists.{same_true, same_refl}
use Rattle.flash.proofs.Places.{found_number, found_from, found_under, one_place, in_order, every_place}
use Rattle.flash.proofs.Permits.{permitted_some, permitted_found, permitted_fits, permitted_inside}
use Rattle.flash.proofs.Outcomes.{sized_true}
use Rattle.flash.proofs.Changes.{length_programmed, programmed_at, programmed_other, length_wiped, wiped_at, wiped_other}

pub byte_at_lem : (bs : List Block) (img : List ℕ) (x i k : ℕ) → find bs x ≡ Some (spot i k) → byte_at bs img x ≡ get_or img k 0
unfolding byte_at place_of
byte_at_lem bs img x i k e = ap (λ (w : Option Spot). get_or img (place_of bs w) 0) e

pub inside_found : (w : Option Spot) → is_inside w ≡ true → (i : ℕ) × (k : ℕ) × (w ≡ Some (spot i k))
unfolding is_inside
inside_found (Some it) e = (it.block, it.place, refl)
inside_found None e = absurd (false≢true e)

pub found_inside : (w : Option Spot) (i k : ℕ) → w ≡ Some (spot i k) → is_inside w ≡ true
unfolding is_inside
found_inside w i k e = ap is_inside e

pub place_is : (bs : List Block) (w : Option Spot) (i k : ℕ) → w ≡ Some (spot i k) → place_of bs w ≡ k
unfolding place_of
place_is bs w i k e = ap (place_of bs) e

module _ (bs : List Block) (r : Rising 0 bs) where
  -- two images of a part whose bytes agree at every address inside are one
  pub by_bytes : (l m : List ℕ) → length l ≡ image_size bs → length m ≡ image_size bs → ((x : ℕ) → is_inside (find bs x) ≡ true → byte_at bs l x ≡ byte_at bs m x) → l ≡ m
  by_bytes l m p q f =
      ext_get_or 0 l m (p ∙ sym q)
      (λ k h.
      let w = every_place 0 bs r k (omega arith) in
      sym (byte_at_lem bs l w.0 w.1 k w.2) ∙ (f w.0 (found_inside (find bs w.0) w.1 k w.2) ∙ byte_at_lem bs m w.0 w.1 k w.2))

  -- so each effect leaves one image
  pub one_programmed : (a : ℕ) (ds img l m : List ℕ) → sized bs img ≡ true → Programmed bs a ds img l → Programmed bs a ds img m → l ≡ m
  one_programmed a ds img l m s p q =
      by_bytes l m (p.size ∙ sized_true bs img s) (q.size ∙ sized_true bs img s) (λ x e. go x e (dec_lt x a) (dec_lt x (a + length ds)))
    where
      go : (x : ℕ) → is_inside (find bs x) ≡ true → Dec (x < a) → Dec (x < a + length ds) → byte_at bs l x ≡ byte_at bs m x
      go x e (yes h) d = p.elsewhere x e (inl h) ∙ sym (q.elsewhere x e (inl h))
      go x e (no h) (yes d) =
          let f : a + (x - a) ≡ x = omega arith in
          subst (λ (y : ℕ). byte_at bs l y ≡ byte_at bs m y) f (p.there (x - a) (omega arith) ∙ sym (q.there (x - a) (omega arith)))
      go x e (no h) (no d) = let f : a + length ds ≤ x = omega arith in p.elsewhere x e (inr f) ∙ sym (q.elsewhere x e (inr f))

  pub one_erased : (chosen : ℕ → Bool) (img l m : List ℕ) → sized bs img ≡ true → Erased bs chosen img l → Erased bs chosen img m → l ≡ m
  one_erased chosen img l m s p q =
      by_bytes l m (p.size ∙ sized_true bs img s) (q.size ∙ sized_true bs img s) (λ x e. go x (inside_found (find bs x) e))
    where
      at : (x i k : ℕ) → find bs x ≡ Some (spot i k) → (t : Bool) → chosen i ≡ t → byte_at bs l x ≡ byte_at bs m x
      at x i k f true c = p.there x i k f c ∙ sym (q.there x i k f c)
      at x i k f false c = p.elsewhere x i k f c ∙ sym (q.elsewhere x i k f c)

      go : (x : ℕ) → (i : ℕ) × (k : ℕ) × (find bs x ≡ Some (spot i k)) → byte_at bs l x ≡ byte_at bs m x
      go x w = at x w.0 w.1 w.2 (chosen w.0) refl

  -- a program
  module _ (p a : ℕ) (img ds : List ℕ) (size : sized bs img ≡ true) (may : permitted bs p a ds ≡ true) where
    new : List ℕ
    new = programmed (place_of bs (find bs a)) img ds

    -- where it begins, in terms of the image
    start : (i : ℕ) × (k : ℕ) × (find bs a ≡ Some (spot i k)) × (guarded p i ≡ false)
    start = permitted_inside bs p a ds may

    begins : place_of bs (find bs a) ≡ start.1
    begins = place_is bs (find bs a) start.0 start.1 start.2

    goes : (j : ℕ) → j < length ds → (m : ℕ) × (find bs (a + j) ≡ Some (spot m (place_of bs (find bs a) + j))) × (guarded p m ≡ false)
    goes j h = permitted_found bs p 0 r a ds may start.0 (place_of bs (find bs a)) (start.2 ∙ ap (λ (n : ℕ). Some (spot start.0 n)) (sym begins)) j h

    ends : place_of bs (find bs a) + length ds ≤ length img
    ends =
        omega (arith, sized_true bs img size, permitted_fits bs p 0 r a ds may start.0 (place_of bs (find bs a)) (start.2 ∙ ap (λ (n : ℕ). Some (spot start.0 n)) (sym begins)))

    program_there : (j : ℕ) → j < length ds → byte_at bs new (a + j) ≡ bit_and (byte_at bs img (a + j)) (get_or ds j 0)
    unfolding new
    program_there j h =
        let w = goes j h in
        let k : ℕ = place_of bs (find bs a) in
        byte_at_lem bs (programmed k img ds) (a + j) w.0 (k + j) w.1
        ∙ (programmed_at k img ds j h (omega (arith, ends))
        ∙ ap (λ (x : ℕ). bit_and x (get_or ds j 0)) (sym (byte_at_lem bs img (a + j) w.0 (k + j) w.1)))

    apart : (x i k : ℕ) → find bs x ≡ Some (spot i k) → (x < a) ⊎ (a + length ds ≤ x) → (k < place_of bs (find bs a)) ⊎ (place_of bs (find bs a) + length ds ≤ k)
    apart x i k e (inl h) = inl (omega (arith, begins, in_order 0 bs r x a i start.0 k start.1 e start.2 h))
    apart x i k e (inr h) =
        let some : 0 < length ds = permitted_some bs p a ds may in
        let w = goes (length ds - 1) (omega arith) in
        inr (omega (arith, in_order 0 bs r (a + (length ds - 1)) x w.0 i (place_of bs (find bs a) + (length ds - 1)) k w.1 e (omega arith)))

    program_elsewhere : (x : ℕ) → is_inside (find bs x) ≡ true → (x < a) ⊎ (a + length ds ≤ x) → byte_at bs new x ≡ byte_at bs img x
    unfolding new
    program_elsewhere x e h =
        let w = inside_found (find bs x) e in
        let k : ℕ = place_of bs (find bs a) in
        byte_at_lem bs (programmed k img ds) x w.0 w.1 w.2
        ∙ (programmed_other k img ds w.1 (omega (arith, ends)) (apart x w.0 w.1 w.2 h) ∙ sym (byte_at_lem bs img x w.0 w.1 w.2))

    pub program_effect : Programmed bs a ds img (programmed (place_of bs (find bs a)) img ds)
    unfolding new
    program_effect =
        record { size = length_programmed (place_of bs (find bs a)) img ds; there = program_there; elsewhere = program_elsewhere }

    -- the flag of a program is true exactly where each byte then holds its data
    written_part : (j : ℕ) → j < length ds → get_or (take (length ds) (drop (place_of bs (find bs a)) new)) j 0 ≡ byte_at bs new (a + j)
    written_part j h =
        let w = goes j h in
        let k : ℕ = place_of bs (find bs a) in
        get_or-take (length ds) (drop k new) j 0 h ∙ (get_or-drop k new j 0 ∙ sym (byte_at_lem bs new (a + j) w.0 (k + j) w.1))

    pub good_each : same (take (length ds) (drop (place_of bs (find bs a)) (programmed (place_of bs (find bs a)) img ds))) ds ≡ true
        → (j : ℕ) → j < length ds → byte_at bs (programmed (place_of bs (find bs a)) img ds) (a + j) ≡ get_or ds j 0
    unfolding new
    good_each e j h =
        sym (written_part j h) ∙ ap (λ (l : List ℕ). get_or l j 0) (same_true (take (length ds) (drop (place_of bs (find bs a)) (programmed (place_of bs (find bs a)) img ds))) ds e)

    pub each_good : ((j : ℕ) → j < length ds → byte_at bs (programmed (place_of bs (find bs a)) img ds) (a + j) ≡ get_or ds j 0)
        → same (take (length ds) (drop (place_of bs (find bs a)) (programmed (place_of bs (find bs a)) img ds))) ds ≡ true
    unfolding new
    each_good f =
        let k : ℕ = place_of bs (find bs a) in
        let l : List ℕ = take (length ds) (drop k (programmed k img ds)) in
        let long : length l ≡ length ds = length-take-le (length ds) (drop k (programmed k img ds)) (rw (length-drop, length_programmed) (omega (arith, ends))) in
        let e : l ≡ ds = ext_get_or 0 l ds long (λ j h. let s : j < length ds = omega arith in written_part j s ∙ f j s) in
        ap (λ (x : List ℕ). same x ds) e ∙ same_refl ds

-- an erase of one block
pub block_effect : (bs : List Block) (img : List ℕ) → sized bs img ≡ true → (a i k : ℕ) → find bs a ≡ Some (spot i k) → Erased bs (λ j. eqb j i) img (wiped bs i img)
block_effect bs img s a i k e = record { size = length_wiped bs i img of size; there = at; elsewhere = off }
  where
    of : i < length bs
    of = found_number bs a i k e

    size : length img ≡ image_size bs
    size = sized_true bs img s

    at : (x j m : ℕ) → find bs x ≡ Some (spot j m) → eqb j i ≡ true → byte_at bs (wiped bs i img) x ≡ 0xFF
    at x j m f q =
        let g : find bs x ≡ Some (spot i m) = f ∙ ap (λ (n : ℕ). Some (spot n m)) (eqb-true j i q) in
        byte_at_lem bs (wiped bs i img) x j m f ∙ wiped_at bs i img of size m (found_from bs x i m g) (found_under bs x i m g)

    off : (x j m : ℕ) → find bs x ≡ Some (spot j m) → eqb j i ≡ false → byte_at bs (wiped bs i img) x ≡ byte_at bs img x
    off x j m f q =
        byte_at_lem bs (wiped bs i img) x j m f
        ∙ (wiped_other bs i img of size m (λ u v. eqb-false j i q (one_place bs m j i (found_from bs x j m f) (found_under bs x j m f) u v)) ∙ sym (byte_at_lem bs img x j m f))
