-- What a part of the image holds that is read, filled or programmed.
use Prim.Native.Nat.{ℕ, zero, suc, ◌+◌, ◌-◌, ◌≤◌, ◌<◌}
use native.Mathlib.Omega.{arith}
use native.Mathlib.Numerals.{add-one}
use mathlib.Core.Bool.{Bool, ◌&&◌}
use mathlib.Core.Path.{◌≡◌, refl, ap, sym, ◌∙◌}
use mathlib.Core.List.{List, [], ◌∷◌, ◌++◌}
use lib.ListN.{length, get_or, set, take, drop, replicate, length-drop}
use lib.Seq.{drop-cons, drop-drop, length-take-le}
use lib.Dec.{eqb}
use lib.Bits.{bit_and}
use Rattle.slices.specs.Lists.{same}
use Rattle.flash.specs.Image.{burn, erased}
use Rattle.std.proofs.Math.Bool.{and-true, and_assoc}

-- a part of the image that becomes FF is n bytes from place k on
pub filled : (img l : List ℕ) (from to k n : ℕ) → from ≡ k → to ≡ k + n → k + n ≤ length img → l ≡ replicate (length (take (to - from) (drop from img))) 0xFF
    → take from img ++ (l ++ drop (to - from) (drop from img)) ≡ erased k n img
unfolding erased
filled img l from to k n e f h g =
    let m : to - from ≡ n = omega arith in
    rw (g, m, e, length-take-le n (drop k img) (rw length-drop (omega arith)), drop-drop)

-- the three bytes of the reset vector that tell a blank image
pub three_from : (l : List ℕ) (k : ℕ) → k + 3 ≤ length l → take 3 (drop k l) ≡ get_or l k 0 ∷ get_or l (suc k) 0 ∷ get_or l (suc (suc k)) 0 ∷ []
three_from l k h = rw (drop-cons l k 0 (omega arith), drop-cons l (suc k) 0 (omega arith), drop-cons l (suc (suc k)) 0 (omega arith))

-- programming, byte by byte: after i turns the first i data are burnt, and byte i is as it was
pub length_burn : (xs ds : List ℕ) → length (burn xs ds) ≡ length xs
length_burn xs [] = refl
length_burn [] (d ∷ ds) = refl
length_burn (x ∷ xs) (d ∷ ds) = ap suc (length_burn xs ds)

burn_unread : (xs ds : List ℕ) (i : ℕ) → get_or (burn xs (take i ds)) i 0 ≡ get_or xs i 0
burn_unread xs ds zero = refl
burn_unread xs [] (suc i) = refl
burn_unread [] (d ∷ ds) (suc i) = refl
burn_unread (x ∷ xs) (d ∷ ds) (suc i) = burn_unread xs ds i

burn_one : (xs ds : List ℕ) (i : ℕ) → i < length xs → i < length ds → set (burn xs (take i ds)) i (bit_and (get_or xs i 0) (get_or ds i 0)) ≡ burn xs (take (suc i) ds)
burn_one [] ds i h k = absurd (omega arith)
burn_one (x ∷ xs) [] i h k = absurd (omega arith)
burn_one (x ∷ xs) (d ∷ ds) zero h k = refl
burn_one (x ∷ xs) (d ∷ ds) (suc i) h k = ap (λ (l : List ℕ). bit_and x d ∷ l) (burn_one xs ds i (omega arith) (omega arith))

pub burn_turn : (xs ds l : List ℕ) (i : ℕ) → l ≡ burn xs (take i ds) → i < length xs → i < length ds → set l i (bit_and (get_or l i 0) (get_or ds i 0)) ≡ burn xs (take (i + 1) ds)
burn_turn xs ds l i e h k = rw (e, burn_unread, add-one) (burn_one xs ds i h k)

-- whether the first i bytes hold their data
abbrev pub good : List ℕ → List ℕ → ℕ → Bool
good xs ds i = same (burn (take i xs) (take i ds)) (take i ds)

good_one : (xs ds : List ℕ) (i : ℕ) → i < length xs → i < length ds → good xs ds (suc i) ≡ (good xs ds i && eqb (bit_and (get_or xs i 0) (get_or ds i 0)) (get_or ds i 0))
good_one [] ds i h k = absurd (omega arith)
good_one (x ∷ xs) [] i h k = absurd (omega arith)
good_one (x ∷ xs) (d ∷ ds) zero h k = and-true (eqb (bit_and x d) d)
good_one (x ∷ xs) (d ∷ ds) (suc i) h k =
    ap (λ (t : Bool). eqb (bit_and x d) d && t) (good_one xs ds i (omega arith) (omega arith))
    ∙ sym (and_assoc (eqb (bit_and x d) d) (good xs ds i) (eqb (bit_and (get_or xs i 0) (get_or ds i 0)) (get_or ds i 0)))

-- so a turn asks of its own byte alone
pub good_turn : (xs ds l : List ℕ) (i : ℕ) (g : Bool) → l ≡ burn xs (take i ds) → g ≡ good xs ds i → i < length xs → i < length ds
    → (g && eqb (bit_and (get_or l i 0) (get_or ds i 0)) (get_or ds i 0)) ≡ good xs ds (i + 1)
good_turn xs ds l i g e q h k = rw (e, burn_unread, q, add-one) (sym (good_one xs ds i h k))
