-- The table leaves nothing open: of a whole packet, a unit and an image, its column "Effect" holds of one reply, one list of registers and one image. The cases of each paragraph exclude each other, and what a program or an erase leaves is one image.
use Prim.Native.Nat.{ℕ, ◌/◌, ◌%◌, ◌^◌}
use native.Mathlib.Omega.{arith}
use native.Mathlib.Decide.{ℕ_discrete}
use mathlib.Core.Bool.{false≢true}
use mathlib.Core.Path.{◌≡◌, refl, ap, sym, ◌∙◌, subst}
use mathlib.Core.List.{List}
use lib.ListN.{length, take, drop}
use Rattle.flash.proofs.Places.{one_spot}
use Rattle.unit.specs.declared.Unit.{Unit as Port}
use Rattle.unit.specs.declared.Registers.{Registers}
use Rattle.demands.specs.Record.{srd_becomes}
use Rattle.demands.specs.Flash.{Address, Unprotected}
use Rattle.demands.specs.Changes.{Erased}
use Rattle.demands.specs.Mismatches.{Checked}
use Rattle.demands.specs.Mismatches.Checked.{opens, too_late, counts}
use Rattle.demands.specs.Table.{Whole, Page, Verified, Programming, Erasing, OneBlock, AllBlocks, IdChecked, Effect}
use Rattle.demands.specs.Table.Whole.{takes_ff, takes_41_or_49, takes_20, takes_a7, takes_50, takes_70, takes_f5, takes_fb, takes_b0_to_b4, takes_00}
use Rattle.demands.specs.Table.Page.{inside, outside}
use Rattle.demands.specs.Table.Verified.{equal, differs}
use Rattle.demands.specs.Table.Programming.{standing, forbidden, carried_out}
use Rattle.demands.specs.Table.Erasing.{cancelled, standing as erase_stands, unconfirmed, confirmed}
use Rattle.demands.specs.Table.OneBlock.{refused, erased}
use Rattle.demands.specs.Table.AllBlocks.{erased as all_erased}
use Rattle.demands.specs.Table.IdChecked.{stays_open, judged}
use Rattle.demands.proofs.Records.{address_is}
use Rattle.demands.proofs.OneEffect.{one_programmed, one_erased}

-- an address has one block and one place
one_place : (a i j k n : ℕ) → Address a i k → Address a j n → (i ≡ j) × (k ≡ n)
one_place a i j k n d e = one_spot ((address_is a i k).0 d) ((address_is a j n).0 e)

one_page : {img : List ℕ} {a : ℕ} {s t : List ℕ} → Page img a s → Page img a t → s ≡ t
one_page {img} {a} (inside {i} {k} d) (inside {i = j} {k = n} e) = ap (λ (x : ℕ). take 256 (drop x img)) (one_place a i j k n d e).1
one_page (inside {i} {k} d) (outside n) = absurd (n i k d)
one_page (outside n) (inside {i} {k} d) = absurd (n i k d)
one_page (outside n) (outside m) = refl

one_verdict : {a s t : ℕ} {ds new : List ℕ} → Verified a ds new s → Verified a ds new t → s ≡ t
one_verdict (equal f) (equal g) = refl
one_verdict (equal f) (differs j i k h d n) = absurd (n (f j i k h d))
one_verdict (differs j i k h d n) (equal f) = absurd (n (f j i k h d))
one_verdict (differs j i k h d n) (differs j' i' k' h' d' n') = refl

module _ (u : Port) (img : List ℕ) (size : length img ≡ 20480) where
  one_programming : {reach a : ℕ} {ds : List ℕ} {r s : Registers} {l m : List ℕ} → Programming u img reach a ds r l → Programming u img reach a ds s m → (r ≡ s) × (l ≡ m)
  one_programming (standing n) (standing o) = (refl, refl)
  one_programming (standing n) (forbidden h f) = absurd (n h)
  one_programming (standing n) (carried_out h f p v) = absurd (n h)
  one_programming (forbidden h f) (standing n) = absurd (n h)
  one_programming (forbidden h f) (forbidden i g) = (refl, refl)
  one_programming (forbidden h f) (carried_out i g p v) = absurd (f g)
  one_programming (carried_out h f p v) (standing n) = absurd (n h)
  one_programming (carried_out h f p v) (forbidden i g) = absurd (g f)
  one_programming {a = a} {ds = ds} {l = l} {m = m} (carried_out {s = s} h f p v) (carried_out {s = t} i g q w) =
      let e : l ≡ m = one_programmed img size l m p q in
      (ap (λ (x : ℕ). srd_becomes x u.registers) (one_verdict (subst (λ (x : List ℕ). Verified a ds x s) e v) w), e)

  one_erasing : {confirm : ℕ} (C : Registers → List ℕ → Type 0) → ((r s : Registers) (l m : List ℕ) → C r l → C s m → (r ≡ s) × (l ≡ m))
      → {r s : Registers} {l m : List ℕ} → Erasing u img confirm C r l → Erasing u img confirm C s m → (r ≡ s) × (l ≡ m)
  one_erasing C one (cancelled a) (cancelled b) = (refl, refl)
  one_erasing C one (cancelled a) (erase_stands b c) = absurd (b a)
  one_erasing C one (cancelled a) (unconfirmed b c d) = absurd (b a)
  one_erasing C one (cancelled a) (confirmed b c d) = absurd (omega (arith, a, b))
  one_erasing C one (erase_stands a b) (cancelled c) = absurd (a c)
  one_erasing C one (erase_stands a b) (erase_stands c d) = (refl, refl)
  one_erasing C one (erase_stands a b) (unconfirmed c d e) = absurd (b d)
  one_erasing C one (erase_stands a b) (confirmed c d e) = absurd (b d)
  one_erasing C one (unconfirmed a b c) (cancelled d) = absurd (a d)
  one_erasing C one (unconfirmed a b c) (erase_stands d e) = absurd (e b)
  one_erasing C one (unconfirmed a b c) (unconfirmed d e f) = (refl, refl)
  one_erasing C one (unconfirmed a b c) (confirmed d e f) = absurd (c d)
  one_erasing C one (confirmed a b c) (cancelled d) = absurd (omega (arith, a, d))
  one_erasing C one (confirmed a b c) (erase_stands d e) = absurd (e b)
  one_erasing C one (confirmed a b c) (unconfirmed d e f) = absurd (f a)
  one_erasing C one {r} {s} {l} {m} (confirmed a b c) (confirmed d e f) = one r s l m c f

  one_block : {a : ℕ} {r s : Registers} {l m : List ℕ} → OneBlock u img a r l → OneBlock u img a s m → (r ≡ s) × (l ≡ m)
  one_block (refused n) (refused o) = (refl, refl)
  one_block (refused n) (erased {i} {k} d f e) = absurd (n i k d f)
  one_block (erased {i} {k} d f e) (refused n) = absurd (n i k d f)
  one_block {a} {l = l} {m = m} (erased {i} {k} d f e) (erased {i = j} {k = n} g h o) =
      let q : i ≡ j = (one_place a i j k n d g).0 in
      (refl, one_erased img size l m (λ (x : ℕ). x ≡ j) (λ x. ℕ_discrete x j) (subst (λ (y : ℕ). Erased (λ (x : ℕ). x ≡ y) img l) q e) o)

  all_blocks : {r s : Registers} {l m : List ℕ} → AllBlocks u img r l → AllBlocks u img s m → (r ≡ s) × (l ≡ m)
  all_blocks {l = l} {m = m} (all_erased e) (all_erased f) =
      (refl, one_erased img size l m (Unprotected u.settings.protection) (λ i. ℕ_discrete (u.settings.protection / 2 ^ i % 2) 0) e f)

  one_check : {packet : List ℕ} {b r s : Registers} → Checked img packet b r → Checked img packet b s → r ≡ s
  one_check (opens a f e) (opens b g h) = e ∙ sym h
  one_check (opens a f e) (too_late b g h) = absurd (omega (arith, f, g))
  one_check (opens a f e) (counts b g) = absurd (b a)
  one_check (too_late a f e) (opens b g h) = absurd (omega (arith, f, g))
  one_check (too_late a f e) (too_late b g h) = e ∙ sym h
  one_check (too_late a f e) (counts b g) = absurd (b a)
  one_check (counts a e) (opens b g h) = absurd (a b)
  one_check (counts a e) (too_late b g h) = absurd (a b)
  one_check (counts a e) (counts b g) = e ∙ sym g

  one_id : {packet : List ℕ} {r s : Registers} → IdChecked u img packet r → IdChecked u img packet s → r ≡ s
  one_id (stays_open a o e) (stays_open b p f) = e ∙ sym f
  one_id (stays_open a o e) (judged b c) = absurd (false≢true (sym b ∙ a))
  one_id (judged b c) (stays_open a o e) = absurd (false≢true (sym b ∙ a))
  one_id (judged a c) (judged b d) = one_check c d

-- so no second outcome is the table's
module _ (u : Port) (img : List ℕ) (size : length img ≡ 20480) (s t : List ℕ) (r q : Registers) (l m : List ℕ) where
  pub one_outcome : {packet : List ℕ} (w : Whole u packet) → Effect w img s r l → Effect w img t q m → (s ≡ t) × (r ≡ q) × (l ≡ m)
  one_outcome (takes_ff o) (p, x, n) (p', x', n') = (one_page p p', x ∙ sym x', n ∙ sym n')
  one_outcome (takes_41_or_49 o h) (y, p) (y', p') = let e = one_programming u img size p p' in (y ∙ sym y', e.0, e.1)
  one_outcome (takes_20 o) (y, p) (y', p') = let e = one_erasing u img size _ (λ r s l m. one_block u img size) p p' in (y ∙ sym y', e.0, e.1)
  one_outcome (takes_a7 o) (y, p) (y', p') = let e = one_erasing u img size _ (λ r s l m. all_blocks u img size) p p' in (y ∙ sym y', e.0, e.1)
  one_outcome (takes_50 o) (y, x, n) (y', x', n') = (y ∙ sym y', x ∙ sym x', n ∙ sym n')
  one_outcome takes_70 (y, x, n) (y', x', n') = (y ∙ sym y', x ∙ sym x', n ∙ sym n')
  one_outcome (takes_f5 h) (y, x, n) (y', x', n') = (y ∙ sym y', one_id u img size x x', n ∙ sym n')
  one_outcome takes_fb (y, x, n) (y', x', n') = (y ∙ sym y', x ∙ sym x', n ∙ sym n')
  one_outcome (takes_b0_to_b4 h) (y, x, n) (y', x', n') = (y ∙ sym y', x ∙ sym x', n ∙ sym n')
  one_outcome takes_00 (y, x, n) (y', x', n') = (y ∙ sym y', x ∙ sym x', n ∙ sym n')
