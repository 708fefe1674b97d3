-- A number's tenth is less than it, where it has more digits than one.
use Rattle.lines.proofs.Line.+put_decimal.Given as goal

abbrev pub decreases-put_decimal : goal.decreases-put_decimal
decreases-put_decimal l = l.n
