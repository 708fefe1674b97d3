-- A text in quotes as its ASCII codes.
use Rattle.std.specs.Prelude.{ℕ}
use Prim.Native.Char.{code}
use Prim.Native.String.{String, [], ◌∷◌}
use mathlib.Core.List as list

abbrev pub ascii : String → list.List ℕ
ascii [] = list.[]
ascii (c ∷ s) = list.◌∷◌ (code c) (ascii s)
