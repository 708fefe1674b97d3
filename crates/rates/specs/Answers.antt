-- Item 7 in words of its own: which answer is given when, and what a refused plan is.
use Rattle.std.specs.Prelude.{◌≡◌, false, true, ◌⊎◌, ℕ, pos}
use Rattle.std.specs.Float.{fin}
use Rattle.std.specs.Float.Ieee.{le}
use Rattle.rates.specs.declared.Clock.{Clock}
use Rattle.rates.specs.declared.Clock.TheVariants.{Fixed8, Fixed7, External}
use Rattle.rates.specs.declared.Planned.{Planned}
use Rattle.rates.specs.Clocks.{float, hertz}
use Rattle.rates.specs.Nearest.{Nearest}

-- a clock that is taken
abbrev pub Taken : Clock → Type 0
Taken Fixed8 = Unit
Taken Fixed7 = Unit
Taken (External f) = (le (float 2000000) f ≡ true) × (le f (float 20000000) ≡ true)

-- a rate that may be wanted
abbrev pub Listed : ℕ → Type 0
Listed rate = (rate ≡ 9600) ⊎ (rate ≡ 19200) ⊎ (rate ≡ 38400) ⊎ (rate ≡ 57600) ⊎ (rate ≡ 115200)

-- an answer of this refusal: the divider is 0, and both floats are +0
pub record Refused (n : ℕ) (a : Planned) : Type 0 where
  pub number : a.refusal ≡ n
  pub no_rate : a.plan.reached ≡ fin false 0 (pos 0)
  pub no_distance : a.plan.distance ≡ fin false 0 (pos 0)
  pub no_divider : a.plan.divider ≡ 0

-- the answer to a clock and a wanted rate
pub data Answer (c : Clock) (rate : ℕ) (a : Planned) : Type 0 where
  plan_made : Taken c → Listed rate → a.refusal ≡ 0 → Nearest (hertz c) rate 255 a.plan → Answer c rate a
  clock_refused : (Taken c → ⊥) → Refused 9 a → Answer c rate a
  rate_refused : Taken c → (Listed rate → ⊥) → Refused 10 a → Answer c rate a
