-- What other laws ask of lists and of tests: both tests of a conjunction, either answer of `cond`, lists that are the same, bytes, and a list whose part is replaced.
use Prim.Native.Nat.{ℕ, zero, suc, ◌+◌, ◌≤◌, ◌<◌}
use native.Mathlib.Omega.{arith}
use mathlib.Core.Bool.{Bool, true, false, cond, ◌&&◌, false≢true}
use mathlib.Core.Path.{◌≡◌, refl, ap, sym, ◌∙◌}
use mathlib.Core.List.{List, [], ◌∷◌, ◌++◌}
use lib.ListN.{length, get_or, set, take, drop, replicate, length-take, get_or-append}
use lib.Seq.{get_or-take, get_or-append-add}
use lib.Dec.{eqb}
use borrow.Author.Tests.{eqb-true, eq-eqb}
use Rattle.slices.specs.Lists.{same, Bytes}

pub and_both : (a b : Bool) → (a && b) ≡ true → (a ≡ true) × (b ≡ true)
and_both true b e = (refl, e)
and_both false b e = absurd (false≢true e)

pub both_and : (a b : Bool) → a ≡ true → b ≡ true → (a && b) ≡ true
both_and true b p q = q
both_and false b p q = absurd (false≢true p)

-- what holds of each answer, under its test, holds of the answer that is chosen
pub cond_elim : {A : Type 0} (P : A → Type 0) (t : Bool) (x y : A) → (t ≡ true → P x) → (t ≡ false → P y) → P (cond t x y)
cond_elim P true x y f g = f refl
cond_elim P false x y f g = g refl

pub same_true : (xs ys : List ℕ) → same xs ys ≡ true → xs ≡ ys
same_true [] [] e = refl
same_true [] (y ∷ ys) e = absurd (false≢true e)
same_true (x ∷ xs) [] e = absurd (false≢true e)
same_true (x ∷ xs) (y ∷ ys) e =
    let b = and_both (eqb x y) (same xs ys) e in
    let h : x ≡ y = eqb-true x y b.0 in
    let t : xs ≡ ys = same_true xs ys b.1 in
    cc

pub same_refl : (xs : List ℕ) → same xs xs ≡ true
same_refl [] = refl
same_refl (x ∷ xs) = both_and (eqb x x) (same xs xs) (eq-eqb x x refl) (same_refl xs)

pub bytes_take : (n : ℕ) (xs : List ℕ) → Bytes xs → Bytes (take n xs)
bytes_take zero xs b = tt
bytes_take (suc n) [] b = tt
bytes_take (suc n) (x ∷ xs) b = (b.0, bytes_take n xs b.1)

pub bytes_drop : (n : ℕ) (xs : List ℕ) → Bytes xs → Bytes (drop n xs)
bytes_drop zero xs b = b
bytes_drop (suc n) [] b = tt
bytes_drop (suc n) (x ∷ xs) b = bytes_drop n xs b.1

pub bytes_append : (xs ys : List ℕ) → Bytes xs → Bytes ys → Bytes (xs ++ ys)
bytes_append [] ys b c = c
bytes_append (x ∷ xs) ys b c = (b.0, bytes_append xs ys b.1 c)

pub bytes_set : (xs : List ℕ) (n b : ℕ) → Bytes xs → b < 256 → Bytes (set xs n b)
bytes_set [] n b h small = tt
bytes_set (x ∷ xs) zero b h small = (small, h.1)
bytes_set (x ∷ xs) (suc n) b h small = (h.0, bytes_set xs n b h.1 small)

pub bytes_zeros : (n : ℕ) → Bytes (replicate n 0)
bytes_zeros zero = tt
bytes_zeros (suc n) = (omega arith, bytes_zeros n)

pub getd_small : (xs : List ℕ) (j : ℕ) → Bytes xs → get_or xs j 0 < 256
getd_small [] j b = omega arith
getd_small (x ∷ xs) zero b = b.0
getd_small (x ∷ xs) (suc j) b = getd_small xs j b.1

-- a list with all from m on replaced: below m nothing changes, from m on it is what was put there
pub below_kept : (l new : List ℕ) (m k : ℕ) → m ≤ length l → k < m → get_or (take m l ++ new) k 0 ≡ get_or l k 0
below_kept l new m k h s = get_or-append (take m l) new 0 k (omega (arith, length-take m l)) ∙ get_or-take m l k 0 s

pub from_on : (l new : List ℕ) (m k : ℕ) → m ≤ length l → get_or (take m l ++ new) (m + k) 0 ≡ get_or new k 0
from_on l new m k h =
    let n : length (take m l) ≡ m = omega (arith, length-take m l) in
    ap (λ (x : ℕ). get_or (take m l ++ new) (x + k) 0) (sym n) ∙ get_or-append-add (take m l) new k 0
