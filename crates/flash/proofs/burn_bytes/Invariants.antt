-- `flash::burn_bytes` meets its contract: after i turns the first i data are burnt, and the flag says whether the first i bytes hold theirs.
use Rattle.std.proofs.Common.{◌≡◌, take}
use Rattle.flash.specs.Image.{burn}
use Rattle.flash.proofs.Turns.{good}
use Rattle.flash.proofs.burn_bytes.Given as goal

abbrev pub invariant-loop-i : goal.invariant-loop-i
invariant-loop-i l =
    (l.bytes ≡ burn l.initial.bytes (take l.i l.new))
    × (l.good ≡ good l.initial.bytes l.new l.i)
