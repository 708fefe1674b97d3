-- Each row's packet is as long as its kind needs, so every byte but its last is only stored.
use Prim.Native.Nat.{ℕ, ◌+◌, ◌≤◌, ◌<◌}
use native.Mathlib.Omega.{arith}
use mathlib.Core.Path.{◌≡◌, refl, ap, sym, ◌∙◌, subst}
use mathlib.Core.List.{List, [], ◌∷◌}
use lib.ListN.{length, take, get_or}
use Rattle.slices.specs.Lists.{Bytes}
use Rattle.unit.specs.declared.Unit.{Unit as Port}
use Rattle.unit.specs.Phases.{Kind, need, command_of}
use Rattle.unit.specs.Phases.Kind.{page_read, page_program, unit_program, block_erase, all_erase, id_check}
use Rattle.protocol.specs.Endings.{finished}
use Rattle.protocol.specs.Step.{run}
use Rattle.protocol.specs.Rows.{Ready, Partway, Row, Taken}
use Rattle.protocol.specs.Rows.Row.{after_ff, after_41, after_49, after_20, after_a7, after_f5}
use Rattle.protocol.proofs.RowsLaws.{partway, comes_to}

-- a row begins with its kind's command byte
pub row_command : {k : Kind} {c : ℕ} {xs : List ℕ} → Row k c xs → command_of k ≡ c
unfolding command_of
row_command after_ff = refl
row_command (after_41 h) = refl
row_command (after_49 h) = refl
row_command after_20 = refl
row_command after_a7 = refl
row_command (after_f5 h) = refl

-- as many bytes follow it as its kind needs
pub row_long : {k : Kind} {c : ℕ} {xs : List ℕ} → Row k c xs → length xs ≡ need k xs
unfolding need
row_long after_ff = refl
row_long (after_41 h) = omega arith
row_long (after_49 h) = omega arith
row_long after_20 = refl
row_long after_a7 = refl
row_long (after_f5 h) = omega arith

-- they fit the collected bytes
pub row_fits : {k : Kind} {c : ℕ} {xs : List ℕ} → Row k c xs → length xs ≤ 259
row_fits after_ff = omega arith
row_fits (after_41 h) = omega arith
row_fits (after_49 h) = omega arith
row_fits after_20 = omega arith
row_fits after_a7 = omega arith
row_fits (after_f5 h) = omega arith

sized_row : (P : List ℕ → Type 0) → ((low mid high : ℕ) (ds : List ℕ) → length ds < 256 → P (low ∷ mid ∷ high ∷ length ds ∷ ds)) → (xs : List ℕ) → Bytes xs → length xs ≡ 4 + get_or xs 3 0 → P xs
sized_row P f [] b e = absurd (omega arith)
sized_row P f (l ∷ []) b e = absurd (omega arith)
sized_row P f (l ∷ m ∷ []) b e = absurd (omega arith)
sized_row P f (l ∷ m ∷ h ∷ []) b e = absurd (omega arith)
sized_row P f (l ∷ m ∷ h ∷ n ∷ ds) b e =
    let q : length ds ≡ n = omega arith in
    subst (λ (n : ℕ). P (l ∷ m ∷ h ∷ n ∷ ds)) q (f l m h ds (omega (arith, b.1.1.1.0)))

-- and the rows leave no packet out: bytes that are as many as a kind needs are of its row
pub every_packet : (k : Kind) (xs : List ℕ) → Bytes xs → length xs ≡ need k xs → Row k (command_of k) xs
unfolding need command_of
every_packet page_read [] b e = absurd (omega arith)
every_packet page_read (m ∷ []) b e = absurd (omega arith)
every_packet page_read (m ∷ h ∷ []) b e = after_ff
every_packet page_read (m ∷ h ∷ x ∷ xs) b e = absurd (omega arith)
every_packet page_program [] b e = absurd (omega arith)
every_packet page_program (m ∷ []) b e = absurd (omega arith)
every_packet page_program (m ∷ h ∷ ds) b e = after_41 {ds = ds} (omega arith)
every_packet unit_program xs b e = sized_row (Row unit_program 0x49) (λ l m h ds s. after_49 {ds = ds} s) xs b e
every_packet block_erase [] b e = absurd (omega arith)
every_packet block_erase (m ∷ []) b e = absurd (omega arith)
every_packet block_erase (m ∷ h ∷ []) b e = absurd (omega arith)
every_packet block_erase (m ∷ h ∷ c ∷ []) b e = after_20
every_packet block_erase (m ∷ h ∷ c ∷ x ∷ xs) b e = absurd (omega arith)
every_packet all_erase [] b e = absurd (omega arith)
every_packet all_erase (c ∷ []) b e = after_a7
every_packet all_erase (c ∷ x ∷ xs) b e = absurd (omega arith)
every_packet id_check xs b e = sized_row (Row id_check 0xF5) (λ l m h ds s. after_f5 {ds = ds} s) xs b e

-- P13: a packet acts at its last byte only. (With n = 0, that is the size byte.) Until then nothing but the phase and the collected bytes changes
pub front : {u : Port} → Ready u → (img : List ℕ) {k : Kind} {c : ℕ} {xs : List ℕ} → Row k c xs → Taken u k → (j : ℕ) → j < length xs → Partway u img k xs j (run u img (c ∷ take j xs))
front {u} ready img {k} {c} {xs} row may j h =
    subst (λ (c : ℕ). Partway u img k xs j (run u img (c ∷ take j xs))) (row_command row)
    (partway ready img k may xs (row_fits row) (row_long row) j h)

-- and at its last byte it comes to its ending
pub row_comes_to : {u : Port} → Ready u → (img : List ℕ) {k : Kind} {c : ℕ} {xs : List ℕ} → Row k c xs → Taken u k → run u img (c ∷ xs) ≡ finished k u img xs
row_comes_to {u} ready img {k} {c} {xs} row may =
    ap (λ (c : ℕ). run u img (c ∷ xs)) (sym (row_command row)) ∙ comes_to ready img k may xs (row_fits row) (row_long row)
