-- "fixed bit for bit" (document 01, "Forms by place"): what each float of an answer is, so that an equation of floats is one of bit patterns.
use Rattle.std.specs.Prelude.{◌≡◌, false, true, ℕ, ◌^◌, ◌<◌, ℤ, Float}
use Rattle.std.specs.Float.{fin, binary64}
use Rattle.std.specs.Float.Ieee.{le, of_bits, to_bits}
use Rattle.rates.specs.Clocks.{float}

-- finite, with the sign plus, at most 1,250,000 (what the divider 0 reaches at 20,000,000, far above every plan), and the value of exactly one pattern of 64 bits
pub record Plain (x : Float) : Type 0 where
  pub digits : ℕ
  pub exponent : ℤ
  pub plus : x ≡ fin false digits exponent
  pub most : le x (float 1250000) ≡ true
  pub pattern_fits : to_bits binary64 x < 2 ^ 64
  pub pattern_reads : of_bits binary64 (to_bits binary64 x) ≡ x
  pub pattern_only : (b : ℕ) → b < 2 ^ 64 → of_bits binary64 b ≡ x → b ≡ to_bits binary64 x
