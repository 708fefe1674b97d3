-- How long packets are: never longer than the room for them, and told by the fourth byte wherever it has come.
use Prim.Native.Nat.{ℕ, suc, ◌+◌, ◌<◌, ◌≤◌}
use native.Mathlib.Omega.{arith}
use mathlib.Core.Bool.{Bool, true, false, ◌&&◌, ◌||◌}
use mathlib.Core.Path.{◌≡◌, refl, ap, sym, ◌∙◌}
use mathlib.Core.List.{List, [], ◌∷◌, ◌++◌}
use lib.ListN.{length, take, get_or}
use lib.Seq.{get_or-take}
use lib.Dec.{ltb, eqb}
use borrow.Author.Tests.{ltb-true, ltb-false, lt-ltb}
use Rattle.slices.specs.Lists.{Bytes}
use Rattle.slices.proofs.Lists.{getd_small}
use Rattle.unit.specs.Phases.{Kind, command_of, need, Position}
use Rattle.unit.specs.Phases.Position.{sleeping, commanding, within}
use Rattle.unit.specs.Range.{packet_fits, position_fits, size_alone}
use Rattle.unit.specs.Phases.Kind.{page_read, page_program, unit_program, block_erase, all_erase, id_check}

pub need_small : (k : Kind) (xs : List ℕ) → Bytes xs → need k xs ≤ 259
unfolding need
need_small page_read xs h = omega arith
need_small page_program xs h = omega arith
need_small unit_program xs h = omega (arith, getd_small xs 3 h)
need_small block_erase xs h = omega arith
need_small all_erase xs h = omega arith
need_small id_check xs h = omega (arith, getd_small xs 3 h)

-- one byte more of a sized packet that it does not complete
sized_next : (xs : List ℕ) (b : ℕ) → length xs < 4 + get_or xs 3 0 → (suc (length xs) ≡ 4 + get_or (xs ++ b ∷ []) 3 0 → ⊥) → suc (length xs) < 4 + get_or (xs ++ b ∷ []) 3 0
sized_next [] b h left = omega arith
sized_next (x ∷ []) b h left = omega arith
sized_next (x ∷ y ∷ []) b h left = omega arith
sized_next (x ∷ y ∷ z ∷ []) b h left = omega arith
sized_next (x ∷ y ∷ z ∷ w ∷ xs) b h left = omega arith

-- one byte more that does not complete a packet leaves it short
pub need_next : (k : Kind) (xs : List ℕ) (b : ℕ) → length xs < need k xs → (suc (length xs) ≡ need k (xs ++ b ∷ []) → ⊥) → suc (length xs) < need k (xs ++ b ∷ [])
unfolding need
need_next page_read xs b h left = omega arith
need_next page_program xs b h left = omega arith
need_next unit_program xs b h left = sized_next xs b h left
need_next block_erase xs b h left = omega arith
need_next all_erase xs b h left = omega arith
need_next id_check xs b h left = sized_next xs b h left

-- whether a sized packet is short shows in all that is collected as well: before the fourth byte it always is
pub few_sized : (n : ℕ) (got : List ℕ) (m : ℕ) → m ≡ 4 + get_or got 3 0 → ltb n m ≡ ltb n (4 + get_or (take n got) 3 0)
few_sized n got m e = go (ltb n 4) refl
  where
    go : (t : Bool) → ltb n 4 ≡ t → ltb n m ≡ ltb n (4 + get_or (take n got) 3 0)
    go true early =
        let h : n < 4 = ltb-true n 4 early in
        lt-ltb n m (omega arith) ∙ sym (lt-ltb n (4 + get_or (take n got) 3 0) (omega arith))
    go false late =
        let h : 4 ≤ n = ltb-false n 4 late in rw (get_or-take n got 3 0 (omega arith), e)

packet_size_decides : (k : Kind) (n : ℕ) (got : List ℕ) → ltb n (need k (take n got)) ≡ ltb n (need k (take n (size_alone (get_or got 3 0))))
unfolding need
packet_size_decides page_read n got = refl
packet_size_decides page_program n got = refl
packet_size_decides unit_program n got = sym (few_sized n got _ refl) ∙ few_sized n (size_alone (get_or got 3 0)) _ refl
packet_size_decides block_erase n got = refl
packet_size_decides all_erase n got = refl
packet_size_decides id_check n got = sym (few_sized n got _ refl) ∙ few_sized n (size_alone (get_or got 3 0)) _ refl

-- of the collected bytes, a position asks for the size alone
pub size_decides : (p : Position) (opened : Bool) (got : List ℕ) → position_fits p opened got ≡ position_fits p opened (size_alone (get_or got 3 0))
unfolding position_fits packet_fits
size_decides (sleeping n) opened got = refl
size_decides commanding opened got = refl
size_decides (within k n) opened got =
    ap (λ (t : Bool). (eqb (command_of k) 0xF5 || opened) && t) (packet_size_decides k n got)
