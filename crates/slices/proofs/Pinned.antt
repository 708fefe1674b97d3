-- "Show that no second outcome satisfies the same statement": what each contract of this crate equates is all that the call leaves.
use Prim.Native.Nat.{ℕ}
use mathlib.Core.Bool.{Bool}
use mathlib.Core.Path.{◌≡◌, sym, ◌∙◌}
use mathlib.Core.List.{List}
use lib.ListN.{take}
use Rattle.slices.specs.Lists.{same, front}

pub slices_first_pinned : (bytes : List ℕ) (n : ℕ) (x y : List ℕ) → x ≡ take n bytes → y ≡ take n bytes → x ≡ y
slices_first_pinned bytes n x y p q = p ∙ sym q

pub slices_is_same_pinned : (a b : List ℕ) (x y : Bool) → x ≡ same a b → y ≡ same a b → x ≡ y
slices_is_same_pinned a b x y p q = p ∙ sym q

pub slices_copy_pinned : (dst src x y : List ℕ) → x ≡ front src dst → y ≡ front src dst → x ≡ y
slices_copy_pinned dst src x y p q = p ∙ sym q
