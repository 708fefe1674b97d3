-- What a byte leaves is the step's, by the unit's position.
use Prim.Native.Nat.{ℕ}
use mathlib.Core.Path.{◌≡◌, ap, sym, ◌∙◌}
use mathlib.Core.List.{List}
use Rattle.unit.specs.declared.Unit.{Unit as Port}
use Rattle.unit.specs.Phases.{Position, position_of}
use Rattle.protocol.specs.Outcome.{Outcome}
use Rattle.protocol.specs.Step.{step, step_at}
use Rattle.protocol.specs.Calls.{Left, answered}
use Rattle.protocol.proofs.Steps.{step_at_lem}

pub step_says : (u : Port) (img area : List ℕ) (b : ℕ) (p : Position) (l : Left) → position_of u.phase ≡ p → l ≡ answered (step_at p u img b) 1 area → l ≡ answered (step u img b) 1 area
step_says u img area b p l e d = d ∙ ap (λ (o : Outcome). answered o 1 area) (sym (step_at_lem u img b e))
