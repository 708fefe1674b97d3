-- What one byte leads to: the next unit, the whole image, the reply.
use Rattle.std.specs.Prelude.{ℕ, List, []}
use Rattle.unit.specs.declared.Unit.{Unit as Port}

pub record Outcome : Type 0 where
  pub unit : Port
  pub image : List ℕ
  pub reply : List ℕ

abbrev pub says : Port → List ℕ → List ℕ → Outcome
says u img r = record { unit = u; image = img; reply = r }

abbrev pub quiet : Port → List ℕ → Outcome
quiet u img = says u img []
