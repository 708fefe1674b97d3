-- A page read replies the page that the flash shows, or 256 bytes FF where it shows none.
use Prim.Native.Nat.{ℕ, ◌+◌, ◌*◌}
use native.Mathlib.Omega.{arith}
use mathlib.Core.Bool.{true}
use mathlib.Core.Logic.{inr}
use mathlib.Core.Path.{◌≡◌, refl, ap, sym, ◌∙◌, subst}
use mathlib.Core.List.{List, [], ◌∷◌}
use lib.ListN.{length, take, drop, replicate}
use Rattle.std.proofs.Common.{Some, None}
use Rattle.flash.specs.Blocks.{spot, part, find, sized, page_address}
use Rattle.flash.specs.Image.{byte_at, page_part}
use Rattle.flash.proofs.Places.{rising}
use Rattle.flash.proofs.Outcomes.{true_sized}
use Rattle.flash.proofs.Pages.{page_is, page_outside_empty, page_long, page_bytes}
use Rattle.unit.specs.declared.Unit.{Unit as Port}
use Rattle.unit.specs.Model.{ended, is_open}
use Rattle.protocol.specs.Outcome.{says}
use Rattle.protocol.specs.Endings.{page_reply, finished}
use Rattle.protocol.specs.Step.{run}
use Rattle.protocol.specs.Rows.{Ready, Ends, Kept, Page}
use Rattle.protocol.specs.Rows.Row.{after_ff}
use Rattle.protocol.proofs.RowsLaws.{ends}
use Rattle.protocol.proofs.RowsFront.{row_comes_to}

full_reply : (l : List ℕ) → length l ≡ 256 → page_reply l ≡ l
unfolding page_reply
full_reply [] h = absurd (omega arith)
full_reply (x ∷ l) h = refl

module _ {u : Port} (ready : Ready u) (opened : is_open u.registers ≡ true) (img : List ℕ) (size : length img ≡ 20480) (mid high : ℕ) where
  address : page_address mid high ≡ 256 * mid + 65536 * high
  address = omega arith

  replied : (l : List ℕ) → page_reply (page_part part img mid high) ≡ l → Ends u u.registers (Kept img) l (run u img (0xFF ∷ mid ∷ high ∷ []))
  unfolding finished
  replied l e =
      subst (Ends u u.registers (Kept img) l) (sym (row_comes_to ready img after_ff (inr opened) ∙ ap (says (ended u u.registers) img) e))
      (ends u u.registers (Kept img) img l refl)

  -- the same, as the part of the image from the page's place on
  pub read_part : {i k : ℕ} → find part (256 * mid + 65536 * high) ≡ Some (spot i k) → Ends u u.registers (Kept img) (take 256 (drop k img)) (run u img (0xFF ∷ mid ∷ high ∷ []))
  read_part {i} {k} e =
      let s : sized part img ≡ true = true_sized part img size in
      let f : find part (page_address mid high) ≡ Some (spot i k) = ap (find part) address ∙ e in
      let page : List ℕ = page_part part img mid high in
      replied (take 256 (drop k img)) (full_reply page (page_long part img mid high rising i k s f) ∙ page_is part img mid high i k s f)

  -- P1: FF, mid, high: replies the 256 bytes of the page
  pub read_inside : {i k : ℕ} → find part (256 * mid + 65536 * high) ≡ Some (spot i k)
      → (page : List ℕ) × Page img (256 * mid + 65536 * high) page × Ends u u.registers (Kept img) page (run u img (0xFF ∷ mid ∷ high ∷ []))
  read_inside {i} {k} e =
      let s : sized part img ≡ true = true_sized part img size in
      let f : find part (page_address mid high) ≡ Some (spot i k) = ap (find part) address ∙ e in
      let long = page_long part img mid high rising i k s f in
      let page : List ℕ = page_part part img mid high in (
        page,
        record { size = long; bytes = λ j h. page_bytes part img mid high rising i k s f j h ∙ ap (λ (a : ℕ). byte_at part img (a + j)) address },
        replied page (full_reply page long),
      )

  -- P1: outside, 256 times FF
  pub read_outside : find part (256 * mid + 65536 * high) ≡ None → Ends u u.registers (Kept img) (replicate 256 0xFF) (run u img (0xFF ∷ mid ∷ high ∷ []))
  unfolding page_reply
  read_outside e = replied (replicate 256 0xFF) (ap page_reply (page_outside_empty part img mid high (ap (find part) address ∙ e)))
