-- What it is to write on at a line.
use Rattle.std.specs.Prelude.{◌≡◌, ℕ, ◌+◌, List, ◌++◌, length, take, drop}
use Rattle.lines.specs.declared.Line.{Line}

-- `new` is `old` with a text behind what it had, in the same buffer, whose other bytes stay
pub record Adds (text : List ℕ) (old new : Line) : Type 0 where
  pub same_buffer : new.out.ghost_name ≡ old.out.ghost_name
  pub same_length : length new.out.now ≡ length old.out.now
  pub end : new.len ≡ old.len + length text
  pub bytes : new.out.now ≡ take old.len old.out.now ++ text ++ drop new.len old.out.now
