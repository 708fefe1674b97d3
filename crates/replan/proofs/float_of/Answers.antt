-- The test asks whether the pattern is a NaN's: without its sign it is above the infinity's.
use Rattle.std.proofs.Common.{◌≡◌, true, refl, sym, ◌∙◌, subst}
use lib.Dec.{T}
use lib.Ieee.{Float, nan, inf, fin, binary64, is_nan, div, of_bits}
use lib.Ieee.Bits.{nan_bits_is, nan_bits_above}
use borrow.Author.Tests.{lt-ltb}
use Rattle.std.proofs.lemmas.Float.{not_nan_f64_bits}
use Rattle.replan.proofs.float_of.Goals as goal

nan_made : div binary64 (of_bits binary64 0) (of_bits binary64 0) ≡ nan
unfolding div of_bits
nan_made = refl

is_the_nan : (x : Float) → is_nan x ≡ true → nan ≡ x
unfolding is_nan
is_the_nan nan e = refl
is_the_nan (inf s) e = absurd (subst T (sym e) tt)
is_the_nan (fin s m d) e = absurd (subst T (sym e) tt)

pub float_from_bits-result : goal.float_from_bits-result
float_from_bits-result c = not_nan_f64_bits c.args.pattern c.if-pattern-gt9218868437227405312.false

pub returns-then-pattern-gt9218868437227405312 : goal.returns-then-pattern-gt9218868437227405312
returns-then-pattern-gt9218868437227405312 c = nan_made ∙ is_the_nan _ (sym (nan_bits_is binary64 c.args.pattern) ∙ nan_bits_above binary64 c.args.pattern ∙ lt-ltb _ _ c.if-pattern-gt9218868437227405312.true)
