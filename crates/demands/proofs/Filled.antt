-- A packet that is broken off is the front of one that is not: zeros after it change no size byte that has come, and fill it up.
use Prim.Native.Nat.{ℕ, zero, suc, ◌+◌, ◌-◌, ◌≤◌}
use native.Mathlib.Omega.{arith}
use mathlib.Core.Path.{◌≡◌, refl, ap}
use mathlib.Core.List.{List, [], ◌∷◌, ◌++◌}
use lib.ListN.{length, get_or, replicate, length-append, length-replicate}
use Rattle.slices.specs.Lists.{Bytes}
use Rattle.slices.proofs.Lists.{bytes_append, bytes_zeros}
use Rattle.unit.specs.Phases.{Kind, command_of, need}
use Rattle.unit.specs.Phases.Kind.{page_read, page_program, unit_program, block_erase, all_erase, id_check}
use Rattle.protocol.specs.Rows.{Row}
use Rattle.protocol.proofs.RowsFront.{every_packet}

padded : (t : List ℕ) (n j : ℕ) → get_or (t ++ replicate n 0x00) j 0 ≡ get_or t j 0
padded [] zero j = refl
padded [] (suc n) zero = refl
padded [] (suc n) (suc j) = padded [] n j
padded (x ∷ t) n zero = refl
padded (x ∷ t) n (suc j) = padded t n j

need_padded : (k : Kind) (t : List ℕ) (n : ℕ) → need k (t ++ replicate n 0x00) ≡ need k t
unfolding need
need_padded page_read t n = refl
need_padded page_program t n = refl
need_padded unit_program t n = ap (λ (m : ℕ). 4 + m) (padded t n 3)
need_padded block_erase t n = refl
need_padded all_erase t n = refl
need_padded id_check t n = ap (λ (m : ℕ). 4 + m) (padded t n 3)

abbrev pub filled : Kind → List ℕ → List ℕ
filled k t = t ++ replicate (need k t - length t) 0x00

pub filled_row : (k : Kind) (t : List ℕ) → Bytes t → length t ≤ need k t → Row k (command_of k) (filled k t)
filled_row k t y h =
    let n : ℕ = need k t - length t in
    every_packet k (filled k t) (bytes_append t (replicate n 0x00) y (bytes_zeros n))
    (omega (arith, length-append t (replicate n 0x00), length-replicate {A = ℕ} n 0x00, need_padded k t n))
