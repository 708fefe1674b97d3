-- A phase and its position say the same: each is told by the other.
use Prim.Native.Nat.{ℕ}
use mathlib.Core.Path.{◌≡◌, refl, ap, ◌∙◌}
use Rattle.unit.specs.declared.Phase.{Phase}
use Rattle.unit.specs.declared.Phase.TheVariants.{Asleep, Awake}
use Rattle.unit.specs.declared.Place.TheVariants.{Command, PageRead, PageProgram, UnitProgram, BlockErase, EraseAll, IdCheck}
use Rattle.unit.specs.Phases.{Kind, Position, position_of, inside}
use Rattle.unit.specs.Phases.Kind.{page_read, page_program, unit_program, block_erase, all_erase, id_check}
use Rattle.unit.specs.Phases.Position.{sleeping, commanding, within}

pub position_inside : (k : Kind) (n : ℕ) → position_of (Awake (inside k n)) ≡ within k n
position_inside page_read n = refl
position_inside page_program n = refl
position_inside unit_program n = refl
position_inside block_erase n = refl
position_inside all_erase n = refl
position_inside id_check n = refl

abbrev phase_at : Position → Phase
phase_at (sleeping n) = Asleep n
phase_at commanding = Awake Command
phase_at (within k n) = Awake (inside k n)

phase_at_lem : (f : Phase) → f ≡ phase_at (position_of f)
phase_at_lem (Asleep n) = refl
phase_at_lem (Awake Command) = refl
phase_at_lem (Awake (PageRead n)) = refl
phase_at_lem (Awake (PageProgram n)) = refl
phase_at_lem (Awake (UnitProgram n)) = refl
phase_at_lem (Awake (BlockErase n)) = refl
phase_at_lem (Awake (EraseAll n)) = refl
phase_at_lem (Awake (IdCheck n)) = refl

pub phase_inside : (f : Phase) {k : Kind} {n : ℕ} → position_of f ≡ within k n → f ≡ Awake (inside k n)
phase_inside f e = phase_at_lem f ∙ ap phase_at e

pub phase_commanding : (f : Phase) → position_of f ≡ commanding → f ≡ Awake Command
phase_commanding f e = phase_at_lem f ∙ ap phase_at e

pub phase_sleeping : (f : Phase) {n : ℕ} → position_of f ≡ sleeping n → f ≡ Asleep n
phase_sleeping f e = phase_at_lem f ∙ ap phase_at e
