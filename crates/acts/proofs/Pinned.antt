-- "Show that no second outcome satisfies the same statement": what a clause of this crate equates has the registers, the image or the area that the call leaves in it.
use Prim.Native.Nat.{ℕ}
use mathlib.Core.Path.{◌≡◌, ap, sym, ◌∙◌}
use mathlib.Core.List.{List, []}
use Rattle.unit.specs.declared.State.{State}
use Rattle.unit.specs.declared.Settings.{Settings}
use Rattle.unit.specs.declared.Registers.{Registers}
use Rattle.protocol.specs.Outcome.{Outcome}
use Rattle.acts.specs.Clauses.{ProgramEnsures, EraseEnsures, EraseAllEnsures, CheckIdEnsures, ShowPageEnsures}

-- the registers and the image that an outcome has
abbrev rest : Outcome → Registers × List ℕ
rest o = (o.unit.registers, o.image)

module _ (s : State) (t : Settings) (image : List ℕ) (x y : Registers × List ℕ) where
  pub acts_program_pinned : (address : ℕ) (new : List ℕ) (most : ℕ)
      → ProgramEnsures s t image address new most x.0 x.1 → ProgramEnsures s t image address new most y.0 y.1 → x ≡ y
  acts_program_pinned address new most p q = ap rest (p [] ∙ sym (q []))

  pub acts_erase_pinned : (address confirm : ℕ) → EraseEnsures s t image address confirm x.0 x.1 → EraseEnsures s t image address confirm y.0 y.1 → x ≡ y
  acts_erase_pinned address confirm p q = ap rest (p [] ∙ sym (q []))

  pub acts_erase_all_pinned : (confirm : ℕ) → EraseAllEnsures s t image confirm x.0 x.1 → EraseAllEnsures s t image confirm y.0 y.1 → x ≡ y
  acts_erase_all_pinned confirm p q = ap rest (p [] ∙ sym (q []))

pub acts_check_id_pinned : (registers : Registers) (t : Settings) (image xs : List ℕ) (x y : Registers)
    → CheckIdEnsures registers t image xs x → CheckIdEnsures registers t image xs y → x ≡ y
acts_check_id_pinned registers t image xs x y p q = p ∙ sym q

pub acts_show_page_pinned : (image reply : List ℕ) (mid high : ℕ) (x y : List ℕ)
    → ShowPageEnsures image reply mid high x → ShowPageEnsures image reply mid high y → x ≡ y
acts_show_page_pinned image reply mid high x y p q = p ∙ sym q
