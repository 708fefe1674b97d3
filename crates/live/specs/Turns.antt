-- What a byte of the line leads to in the live program: what the port's call leaves, and whether the image is no longer the stored one.
use Rattle.std.specs.Prelude.{ℕ, Bool, not, List}
use Rattle.slices.specs.Lists.{same}
use Rattle.unit.specs.declared.Unit.{Unit as Port}
use Rattle.protocol.specs.Calls.{Left, left, numbered, byte_call}
use Rattle.live.specs.declared.Turn.{Turn}

pub record Turned : Type 0 where
  pub all : Left
  pub changed : Bool

abbrev pub turned : Turn → List ℕ → List ℕ → Turned
turned r img area = record { all = left (numbered r.answer) img area; changed = r.changed }

unfoldable pub turn_call : Port → List ℕ → List ℕ → List ℕ → ℕ → Turned
turn_call u img stored area b =
    let l = byte_call u img area b in
    record { all = l; changed = not (same stored l.image) }
