-- Comparing, byte by byte, and bytes put at the front of a list: as many as fit at once, and what the next one adds where they come one after the other.
use Prim.Native.Nat.{ℕ, zero, suc, ◌<◌, min}
use native.Mathlib.Omega.{arith}
use mathlib.Core.Bool.{Bool, false, ◌&&◌}
use mathlib.Core.Path.{◌≡◌, refl, ap, ◌∙◌}
use mathlib.Core.List.{List, [], ◌∷◌, ◌++◌}
use lib.ListN.{length, get_or, set, take, drop}
use lib.Dec.{eqb}
use Rattle.std.proofs.Math.Bool.{and-false}
use Rattle.std.proofs.Math.Nat.{min_comm}
use Rattle.std.proofs.lemmas.List.{take_min, drop_min}
use Rattle.slices.specs.Lists.{same, front}

pub same_long : (a b : List ℕ) → (length a ≡ length b → ⊥) → same a b ≡ false
same_long [] [] h = absurd (h refl)
same_long [] (y ∷ b) h = refl
same_long (x ∷ a) [] h = refl
same_long (x ∷ a) (y ∷ b) h =
    ap (λ (t : Bool). eqb x y && t) (same_long a b (λ e. h (ap suc e))) ∙ and-false (eqb x y)

-- what fits is as many bytes as the shorter of the two has
pub copied : (s d l : List ℕ) (n : ℕ) → n ≡ min (length s) (length d) → l ≡ take n s → l ++ drop n d ≡ front s d
unfolding front
copied s d l n e f = rw (f, e, drop_min, min_comm (length s) (length d), take_min)

pub copy_one : (s d : List ℕ) (i : ℕ) → i < length s → i < length d → set (take i s ++ drop i d) i (get_or s i 0) ≡ take (suc i) s ++ drop (suc i) d
copy_one [] d i h k = absurd (omega arith)
copy_one (x ∷ s) [] i h k = absurd (omega arith)
copy_one (x ∷ s) (y ∷ d) zero h k = refl
copy_one (x ∷ s) (y ∷ d) (suc i) h k = ap (λ (l : List ℕ). x ∷ l) (copy_one s d i (omega arith) (omega arith))
