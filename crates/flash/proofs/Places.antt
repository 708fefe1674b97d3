-- Addresses, places and blocks of any part whose blocks rise: block i holds an address exactly where `find` says so, and the places of a part are its bytes in the order of their addresses.
use Prim.Native.Nat.{ℕ, zero, suc, ◌+◌, ◌-◌, ◌%◌, ◌≤◌, ◌<◌}
use native.Mathlib.Omega.{arith}
use mathlib.Core.Bool.{Bool, true, false, cond, false≢true}
use mathlib.Core.Path.{◌≡◌, refl, ap, sym, ◌∙◌, subst, subst⁻¹}
use mathlib.Core.List.{List, [], ◌∷◌}
use lib.ListN.{length}
use lib.Dec.{ltb, leb}
use native.Mathlib.Decide.{dec_lt}
use borrow.Author.Tests.{ltb-true, leb-true, lt-ltb, le-leb}
use Rattle.flash.specs.declared.Spot.{Spot}
use Rattle.std.proofs.Common.{Option, Some, None}
use Rattle.flash.specs.Blocks.{spot, Block, part, Rising, image_size, holds, find_from, find, block_of, place_of, block_from, block_size}
use Rattle.slices.proofs.Lists.{and_both, both_and, cond_elim}

pub rising : Rising 0 part
rising = (omega arith, omega arith, refl, refl, (omega arith, omega arith, refl, refl, (omega arith, omega arith, refl, refl, (omega arith, omega arith, refl, refl, tt))))

-- the address of block i
abbrev pub block_address : List Block → ℕ → ℕ
block_address [] i = 0
block_address (b ∷ bs) zero = b.address
block_address (b ∷ bs) (suc i) = block_address bs i

-- block i has address a, and there place k of the image
pub record Lies (bs : List Block) (i k a : ℕ) : Type 0 where
  pub number : i < length bs
  pub from : block_address bs i ≤ a
  pub under : a < block_address bs i + block_size bs i
  pub place : k ≡ block_from bs i + (a - block_address bs i)

-- what `find` says of an address, in these terms
abbrev Lying : List Block → ℕ → Option Spot → Type 0
Lying bs a (Some it) = Lies bs it.block it.place a
Lying bs a None = (i : ℕ) → i < length bs → block_address bs i ≤ a → a < block_address bs i + block_size bs i → ⊥

-- what is found, where a block stands before
abbrev shift : ℕ → ℕ → Option Spot → Option Spot
shift i f (Some it) = Some (spot (i + it.block) (f + it.place))
shift i f None = None

find_shift : (i f : ℕ) (bs : List Block) (a : ℕ) → find_from i f bs a ≡ shift i f (find_from 0 0 bs a)
find_shift i f [] a = refl
find_shift i f (b ∷ bs) a =
    go (holds b a) (find_from 0 0 bs a) (find_shift (suc i) (f + b.size) bs a) (find_shift 1 (0 + b.size) bs a)
  where
    go : (t : Bool) (w : Option Spot) → find_from (suc i) (f + b.size) bs a ≡ shift (suc i) (f + b.size) w → find_from 1 (0 + b.size) bs a ≡ shift 1 (0 + b.size) w
        → cond t (Some (spot i (f + (a - b.address)))) (find_from (suc i) (f + b.size) bs a) ≡ shift i f (cond t (Some (spot 0 (0 + (a - b.address)))) (find_from 1 (0 + b.size) bs a))
    go true w p q = let x : i + 0 ≡ i = omega arith in let y : f + (0 + (a - b.address)) ≡ f + (a - b.address) = omega arith in (cc)
    go false (Some it) p q =
        let x : suc i + it.block ≡ i + (1 + it.block) = omega arith in
        let y : f + b.size + it.place ≡ f + (0 + b.size + it.place) = omega arith in
        rw (p, q) (cc)
    go false None p q = rw (p, q)

-- the first block holds the address, or what is found is found in the rest
find_cons : (b : Block) (bs : List Block) (a : ℕ) → find (b ∷ bs) a ≡ cond (holds b a) (Some (spot 0 (0 + (a - b.address)))) (shift 1 (0 + b.size) (find bs a))
unfolding find
find_cons b bs a = ap (λ (w : Option Spot). cond (holds b a) (Some (spot 0 (0 + (a - b.address)))) w) (find_shift 1 (0 + b.size) bs a)

holds_within : (b : Block) (a : ℕ) → holds b a ≡ true → (b.address ≤ a) × (a < b.address + b.size)
unfolding holds
holds_within b a e =
    let t = and_both (leb b.address a) (ltb a (b.address + b.size)) e in
    (leb-true b.address a t.0, ltb-true a (b.address + b.size) t.1)

within_holds : (b : Block) (a : ℕ) → b.address ≤ a → a < b.address + b.size → holds b a ≡ true
unfolding holds
within_holds b a p q =
    both_and (leb b.address a) (ltb a (b.address + b.size)) (le-leb b.address a p) (lt-ltb a (b.address + b.size) q)

lying : (bs : List Block) (a : ℕ) → Lying bs a (find bs a)
unfolding find
lying [] a = λ i h p q. omega arith
lying (b ∷ bs) a =
    subst⁻¹ (Lying (b ∷ bs) a) (find_cons b bs a)
    (cond_elim (Lying (b ∷ bs) a) (holds b a) (Some (spot 0 (0 + (a - b.address)))) (shift 1 (0 + b.size) (find bs a))
    (λ e. here (holds_within b a e))
    (λ e. later (λ p q. false≢true (sym e ∙ within_holds b a p q)) (find bs a) (lying bs a)))
  where
    here : (b.address ≤ a) × (a < b.address + b.size) → Lies (b ∷ bs) 0 (0 + (a - b.address)) a
    here w = record { number = omega arith; from = w.0; under = w.1; place = refl }

    later : (b.address ≤ a → a < b.address + b.size → ⊥) → (w : Option Spot) → Lying bs a w → Lying (b ∷ bs) a (shift 1 (0 + b.size) w)
    later n (Some it) l = subst (λ (j : ℕ). Lies (b ∷ bs) j (0 + b.size + it.place) a) (omega arith) (the_next it.block it.place l)
      where
        the_next : (i k : ℕ) → Lies bs i k a → Lies (b ∷ bs) (suc i) (0 + b.size + k) a
        the_next i k l = record { number = omega arith; from = l.from; under = l.under; place = omega arith }
    later n None l = not_any
      where
        not_any : (i : ℕ) → i < length (b ∷ bs) → block_address (b ∷ bs) i ≤ a → a < block_address (b ∷ bs) i + block_size (b ∷ bs) i → ⊥
        not_any zero h p q = n p q
        not_any (suc i) h p q = l i (omega arith) p q

-- what is found lies in its block
pub found : (bs : List Block) (a i k : ℕ) → find bs a ≡ Some (spot i k) → Lies bs i k a
found bs a i k e = subst (Lying bs a) e (lying bs a)

-- an address has one block and one place
pub one_spot : {w : Option Spot} {i j k m : ℕ} → w ≡ Some (spot i k) → w ≡ Some (spot j m) → (i ≡ j) × (k ≡ m)
unfolding block_of place_of
one_spot e f = let p = sym e ∙ f in (ap (block_of []) p, ap (place_of []) p)

pub not_outside : {w : Option Spot} {i k : ℕ} → w ≡ Some (spot i k) → w ≡ None → ⊥
not_outside p q = let z : ◌≡◌ {A = ℕ} 0 1 = cc in omega arith

-- the blocks in the image, one after the other
pub block_ends : (bs : List Block) (i : ℕ) → i < length bs → block_from bs i + block_size bs i ≤ image_size bs
block_ends [] i h = absurd (omega arith)
block_ends (b ∷ bs) zero h = omega arith
block_ends (b ∷ bs) (suc i) h = omega (arith, block_ends bs i (omega arith))

pub places_rise : (bs : List Block) (i j : ℕ) → i < j → j < length bs → block_from bs i + block_size bs i ≤ block_from bs j
places_rise [] i j h n = absurd (omega arith)
places_rise (b ∷ bs) i zero h n = absurd (omega arith)
places_rise (b ∷ bs) zero (suc j) h n = omega arith
places_rise (b ∷ bs) (suc i) (suc j) h n = omega (arith, places_rise bs i j (omega arith) (omega arith))

first_from : (bs : List Block) → block_from bs 0 ≡ 0
first_from [] = refl
first_from (b ∷ bs) = refl

next_from : (bs : List Block) (i : ℕ) → i < length bs → block_from bs (suc i) ≡ block_from bs i + block_size bs i
next_from [] i h = absurd (omega arith)
next_from (b ∷ bs) zero h = omega (arith, first_from bs)
next_from (b ∷ bs) (suc i) h = omega (arith, next_from bs i (omega arith))

-- a block that has a byte is a block of the part
numbered : (bs : List Block) (i : ℕ) → 0 < block_size bs i → i < length bs
numbered [] i h = absurd (omega arith)
numbered (b ∷ bs) zero h = omega arith
numbered (b ∷ bs) (suc i) h = omega (arith, numbered bs i h)

-- the block of a place
pub block_of_place : (bs : List Block) (k : ℕ) → k < image_size bs → (i : ℕ) × (i < length bs) × (block_from bs i ≤ k) × (k < block_from bs i + block_size bs i)
block_of_place [] k h = absurd (omega arith)
block_of_place (b ∷ bs) k h = go (dec_lt k b.size) (λ n. block_of_place bs (k - b.size) n)
  where
    go : Dec (k < b.size)
        → (k - b.size < image_size bs → (i : ℕ) × (i < length bs) × (block_from bs i ≤ k - b.size) × (k - b.size < block_from bs i + block_size bs i))
        → (i : ℕ) × (i < length (b ∷ bs)) × (block_from (b ∷ bs) i ≤ k) × (k < block_from (b ∷ bs) i + block_size (b ∷ bs) i)
    go (yes s) f = (zero, omega arith, omega arith, omega arith)
    go (no s) f = let w = f (omega arith) in (suc w.0, omega (arith, w.1), omega (arith, w.2), omega (arith, w.3))

-- a place is of one block
pub one_place : (bs : List Block) (k i j : ℕ) → block_from bs i ≤ k → k < block_from bs i + block_size bs i → block_from bs j ≤ k → k < block_from bs j + block_size bs j → i ≡ j
one_place bs k i j p q s t = go (dec_lt i j) (dec_lt j i)
  where
    go : Dec (i < j) → Dec (j < i) → i ≡ j
    go (yes h) d = absurd (omega (arith, places_rise bs i j h (numbered bs j (omega arith))))
    go (no h) (yes g) = absurd (omega (arith, places_rise bs j i g (numbered bs i (omega arith))))
    go (no h) (no g) = omega arith

-- the bounds of what is found
pub found_number : (bs : List Block) (a i k : ℕ) → find bs a ≡ Some (spot i k) → i < length bs
found_number bs a i k e = (found bs a i k e).number

pub found_from : (bs : List Block) (a i k : ℕ) → find bs a ≡ Some (spot i k) → block_from bs i ≤ k
found_from bs a i k e = omega (arith, (found bs a i k e).place)

pub found_under : (bs : List Block) (a i k : ℕ) → find bs a ≡ Some (spot i k) → k < block_from bs i + block_size bs i
found_under bs a i k e = let l = found bs a i k e in omega (arith, l.place, l.from, l.under)

pub found_fits : (bs : List Block) (a i k : ℕ) → find bs a ≡ Some (spot i k) → k < image_size bs
found_fits bs a i k e = omega (arith, found_under bs a i k e, block_ends bs i (found_number bs a i k e))

pub found_block : (bs : List Block) (a i j k : ℕ) → block_from bs i ≤ k → k < block_from bs i + block_size bs i → find bs a ≡ Some (spot j k) → i ≡ j
found_block bs a i j k p q e = one_place bs k i j p q (found_from bs a j k e) (found_under bs a j k e)

-- the blocks by their addresses, in rising order and of whole pages
addresses_from : (lo : ℕ) (bs : List Block) → Rising lo bs → (i : ℕ) → i < length bs → lo ≤ block_address bs i
addresses_from lo [] r i h = absurd (omega arith)
addresses_from lo (b ∷ bs) r zero h = r.0
addresses_from lo (b ∷ bs) r (suc i) h = omega (arith, r.0, addresses_from (b.address + b.size) bs r.4 i (omega arith))

addresses_rise : (lo : ℕ) (bs : List Block) → Rising lo bs → (i j : ℕ) → i < j → j < length bs → block_address bs i + block_size bs i ≤ block_address bs j
addresses_rise lo [] r i j h n = absurd (omega arith)
addresses_rise lo (b ∷ bs) r i zero h n = absurd (omega arith)
addresses_rise lo (b ∷ bs) r zero (suc j) h n = addresses_from (b.address + b.size) bs r.4 j (omega arith)
addresses_rise lo (b ∷ bs) r (suc i) (suc j) h n = addresses_rise (b.address + b.size) bs r.4 i j (omega arith) (omega arith)

paged : (lo : ℕ) (bs : List Block) → Rising lo bs → (i : ℕ) → i < length bs → (0 < block_size bs i) × (block_address bs i % 256 ≡ 0) × (block_size bs i % 256 ≡ 0)
paged lo [] r i h = absurd (omega arith)
paged lo (b ∷ bs) r zero h = (r.1, r.2, r.3)
paged lo (b ∷ bs) r (suc i) h = paged (b.address + b.size) bs r.4 i (omega arith)

module _ (lo : ℕ) (bs : List Block) (r : Rising lo bs) where
  one_block : (a i j k m : ℕ) → Lies bs i k a → Lies bs j m a → i ≡ j
  one_block a i j k m l s = go (dec_lt i j) (dec_lt j i)
    where
      go : Dec (i < j) → Dec (j < i) → i ≡ j
      go (yes h) d = absurd (omega (arith, addresses_rise lo bs r i j h s.number))
      go (no h) (yes g) = absurd (omega (arith, addresses_rise lo bs r j i g l.number))
      go (no h) (no g) = omega arith

  -- what lies in a block is found there
  pub lies : (a i k : ℕ) → Lies bs i k a → find bs a ≡ Some (spot i k)
  lies a i k l = go (find bs a) refl
    where
      go : (w : Option Spot) → find bs a ≡ w → find bs a ≡ Some (spot i k)
      go (Some it) e =
          let s = found bs a it.block it.place e in
          let p : it.block ≡ i = one_block a it.block i it.place k s l in
          let q : it.place ≡ k = s.place ∙ (ap (λ (n : ℕ). block_from bs n + (a - block_address bs n)) p ∙ sym l.place) in
          e ∙ (ap (λ (n : ℕ). Some (spot n it.place)) p ∙ ap (λ (n : ℕ). Some (spot i n)) q)
      go None e = absurd (subst (Lying bs a) e (lying bs a) i l.number l.from l.under)

  -- a page lies wholly in one block, or outside
  pub page_inside : (a j i k : ℕ) → a % 256 + j < 256 → find bs a ≡ Some (spot i k) → find bs (a + j) ≡ Some (spot i (k + j))
  page_inside a j i k h e =
      let l = found bs a i k e in
      let g = paged lo bs r i l.number in
      lies (a + j) i (k + j) (record { number = l.number; from = omega (arith, l.from); under = omega (arith, l.under, l.from, g.1, g.2); place = omega (arith, l.place, l.from) })

  pub page_outside : (a j : ℕ) → a % 256 + j < 256 → find bs a ≡ None → find bs (a + j) ≡ None
  page_outside a j h e = go (find bs (a + j)) refl
    where
      go : (w : Option Spot) → find bs (a + j) ≡ w → find bs (a + j) ≡ None
      go (Some it) f =
          let l = found bs (a + j) it.block it.place f in
          let g = paged lo bs r it.block l.number in
          absurd (subst (Lying bs a) e (lying bs a) it.block l.number (omega (arith, l.from, g.1)) (omega (arith, l.under)))
      go None f = f

  pub page_fits : (a i k : ℕ) → a % 256 ≡ 0 → find bs a ≡ Some (spot i k) → k + 256 ≤ image_size bs
  page_fits a i k h e = omega (arith, found_fits bs (a + 255) i (k + 255) (page_inside a 255 i k (omega arith) e))

  -- places in the order of addresses
  pub in_order : (x y i j k m : ℕ) → find bs x ≡ Some (spot i k) → find bs y ≡ Some (spot j m) → x < y → k < m
  in_order x y i j k m e f h = go (dec_lt i j) (dec_lt j i)
    where
      go : Dec (i < j) → Dec (j < i) → k < m
      go (yes g) d = omega (arith, places_rise bs i j g (found_number bs y j m f), found_under bs x i k e, found_from bs y j m f)
      go (no g) (yes d) = absurd (omega (arith, addresses_rise lo bs r j i d (found_number bs x i k e), (found bs x i k e).from, (found bs y j m f).under))
      go (no g) (no d) = together (omega arith) (found bs x i k e) (found bs y j m f)
        where
          together : i ≡ j → Lies bs i k x → Lies bs j m y → k < m
          together q l s =
              let t : m ≡ block_from bs i + (y - block_address bs i) = s.place ∙ ap (λ (n : ℕ). block_from bs n + (y - block_address bs n)) (sym q) in
              omega (arith, l.place, l.from)

  -- one address further is one place further
  pub next_place : (a i j k m : ℕ) → find bs a ≡ Some (spot i k) → find bs (suc a) ≡ Some (spot j m) → m ≡ suc k
  next_place a i j k m e f = go (dec_lt i j) (dec_lt j i) (found bs a i k e) (found bs (suc a) j m f)
    where
      together : i ≡ j → Lies bs i k a → Lies bs j m (suc a) → m ≡ suc k
      together q l s =
          let t : m ≡ block_from bs i + (suc a - block_address bs i) = s.place ∙ ap (λ (n : ℕ). block_from bs n + (suc a - block_address bs n)) (sym q) in
          omega (arith, l.place, l.from)

      apart : i < j → Dec (suc i < j) → Lies bs i k a → Lies bs j m (suc a) → m ≡ suc k
      apart h (yes g) l s =
          absurd (omega (arith, addresses_rise lo bs r i (suc i) (omega arith) (omega (arith, s.number)), addresses_rise lo bs r (suc i) j g s.number, (paged lo bs r (suc i) (omega (arith, s.number))).0, l.under, s.from))
      apart h (no g) l s =
          let q : j ≡ suc i = omega arith in
          let t : block_from bs j ≡ block_from bs i + block_size bs i = ap (block_from bs) q ∙ next_from bs i l.number in
          omega (arith, addresses_rise lo bs r i j h s.number, l.place, s.place, l.from, l.under, s.from)

      go : Dec (i < j) → Dec (j < i) → Lies bs i k a → Lies bs j m (suc a) → m ≡ suc k
      go (yes h) d l s = apart h (dec_lt (suc i) j) l s
      go (no h) (yes g) l s = absurd (omega (arith, addresses_rise lo bs r j i g l.number, l.from, s.under))
      go (no h) (no g) l s = together (omega arith) l s

  -- every place of the image is the place of an address
  pub every_place : (k : ℕ) → k < image_size bs → (a : ℕ) × (i : ℕ) × (find bs a ≡ Some (spot i k))
  every_place k h =
      let w = block_of_place bs k h in
      let a : ℕ = block_address bs w.0 + (k - block_from bs w.0) in
      (a, w.0, lies a w.0 k (record { number = w.1; from = omega arith; under = omega (arith, w.2, w.3); place = omega (arith, w.2) }))
