-- A reply at the front of an area that has room for it: how the answers' lengths and areas come about.
use Prim.Native.Nat.{ℕ, ◌≤◌}
use native.Mathlib.Omega.{arith}
use mathlib.Core.Path.{◌≡◌, ap}
use mathlib.Core.List.{List, ◌++◌}
use lib.ListN.{length, drop}
use lib.Seq.{take_all}
use Rattle.slices.specs.Lists.{front}
use Rattle.unit.specs.declared.Unit.{Unit as Port}
use Rattle.protocol.specs.Outcome.{says}
use Rattle.protocol.specs.Calls.{answered}
use Rattle.protocol.specs.Commands.{version_bytes}
use Rattle.commands.specs.declared.Reply.{Reply}
use Rattle.commands.specs.declared.Reply.TheVariants.{Nothing, Byte, Status, Version}
use Rattle.commands.specs.Clauses.{bytes_of, PutEnsures}
use Rattle.port.specs.Parts.{done}

-- the front of an area that is long enough
pub front_fits : (l area : List ℕ) → length l ≤ length area → front l area ≡ l ++ drop (length l) area
unfolding front
front_fits l area h = rw (take_all (length area) l h)

pub replied : (u : Port) (img l area : List ℕ) (n : ℕ) (area' : List ℕ) → n ≡ length l → area' ≡ front l area → n ≤ length area
    → done u 1 n img area' ≡ answered (says u img l) 1 area
replied u img l area n area' e f h = rw (e, f, front_fits l area (omega arith))

-- a reply by value is short
few_bytes : (r : Reply) → length (bytes_of r) ≤ 8
unfolding version_bytes
few_bytes Nothing = omega arith
few_bytes (Byte b) = omega arith
few_bytes (Status srd srd1) = omega arith
few_bytes Version = omega arith

pub put_at_front : (u : Port) (img area : List ℕ) (r : Reply) (n : ℕ) (area' : List ℕ) → PutEnsures r area n area' → 256 ≤ length area
    → done u 1 n img area' ≡ answered (says u img (bytes_of r)) 1 area
put_at_front u img area r n area' e h =
    let l : n ≡ length (bytes_of r) = ap (λ (p : ℕ × List ℕ). p.0) e in
    replied u img (bytes_of r) area n area' l (ap (λ (p : ℕ × List ℕ). p.1) e) (omega (arith, few_bytes r))
