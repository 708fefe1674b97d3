-- A number of one digit is that digit; of a longer one the last digit stands behind those of its tenth.
use Rattle.std.proofs.Common.{◌≡◌, ◌%◌, arith, rules, ap, sym, length, length-append}
use Rattle.std.proofs.lemmas.Fmt.{decimal_digit, decimal_step}
use Rattle.lines.proofs.Writes.{adds_then}
use Rattle.lines.proofs.Line.+put_decimal.Goals as goal
use Rattle.lines.proofs.Line.+put_decimal.Goals.{then-n-ge10, else-n-ge10}

pub put_decimal-requires : goal.put_decimal-requires
put_decimal-requires t c =
    (search rules, omega (arith, simp length-append at (ap length (decimal_step c.args.n c.if-n-ge10.true c.ranges.n.fits))))

pub put-requires : goal.put-requires
put-requires t c =
    elim c.if-n-ge10.branch [
      | then-n-ge10 w ↦
          rw w.self-is
          (omega (arith, w.put_decimal.ensures.end, w.put_decimal.ensures.same_length, simp length-append at (ap length (decimal_step c.args.n w.if-n-ge10.true c.ranges.n.fits))))
      | else-n-ge10 w ↦ rw w.self-is (omega (arith, ap length (decimal_digit c.args.n w.if-n-ge10.false)))
    ]

pub returns : goal.returns
returns t c =
    elim c.if-n-ge10.branch [
      | then-n-ge10 w ↦
          rw (decimal_step c.args.n w.if-n-ge10.true c.ranges.n.fits) (adds_then (omega arith) w.put_decimal.ensures (rw w.self-is at c.put.ensures))
      | else-n-ge10 w ↦
          let one : c.args.n % 10 ≡ c.args.n = omega (arith, w.if-n-ge10.false) in
          rw (decimal_digit c.args.n w.if-n-ge10.false, sym one) (rw w.self-is at c.put.ensures)
    ]
