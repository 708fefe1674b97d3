-- What every crate says of lists of bytes.
use Rattle.std.specs.Prelude.{ℕ, ◌<◌, Bool, true, false, ◌&&◌, List, [], ◌∷◌, ◌++◌, length, take, drop, eqb}

-- two lists are the same
abbrev pub same : List ℕ → List ℕ → Bool
same [] [] = true
same [] (y ∷ ys) = false
same (x ∷ xs) [] = false
same (x ∷ xs) (y ∷ ys) = eqb x y && same xs ys

-- P holds of each element
abbrev pub Each : {A : Type 0} → (A → Type 0) → List A → Type 0
Each P [] = Unit {0}
Each P (x ∷ xs) = P x × Each P xs

-- each element is a byte
abbrev pub Bytes : List ℕ → Type 0
Bytes = Each (λ (b : ℕ). b < 256)

-- bytes at the front of an area, as far as they fit, and the rest of the area as it was
unfoldable pub front : List ℕ → List ℕ → List ℕ
front bytes area = take (length area) bytes ++ drop (length bytes) area
