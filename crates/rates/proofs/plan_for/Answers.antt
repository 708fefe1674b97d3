-- Each answer is the rule's where the tests went so: a fixed clock is in range, and the search finds the one plan.
use Rattle.std.proofs.Common.{◌≡◌, Bool, sym, ap, ◌∙◌}
use lib.Ieee.{Float}
use Rattle.rates.specs.declared.Clock.{Clock}
use Rattle.rates.specs.Clocks.{hertz, in_range, is_taken}
use Rattle.rates.specs.Search.{best_up_to}
use Rattle.rates.proofs.Answers.{taken_in_range, made, not_listed, not_taken}
use Rattle.rates.proofs.plan_for.Goals as goal

-- the range test found b of the clock's hertz
tested : (c : Clock) (f : Float) (b : Bool) → f ≡ hertz c → b ≡ in_range f → is_taken c ≡ b
tested c f b h e = sym (taken_in_range c) ∙ ap in_range (sym h) ∙ sym e

pub returns-then-not-is_in_range : goal.returns-then-not-is_in_range
returns-then-not-is_in_range c =
    not_taken c.args.clock c.args.rate (tested _ _ _ c.hertz-f.ensures c.if-not-is_in_range.ensures)

pub returns-then-not-is_listed : goal.returns-then-not-is_listed
returns-then-not-is_listed c =
    not_listed c.args.clock c.args.rate (tested _ _ _ c.hertz-f.ensures c.if-not-is_in_range.ensures) (sym c.if-not-is_listed.ensures)

pub returns : goal.returns
returns c =
    made c.args.clock c.args.rate
    (tested _ _ _ c.hertz-f.ensures c.if-not-is_in_range.ensures)
    (sym c.if-not-is_listed.ensures)
    _ (c.best.ensures ∙ ap (λ (f : Float). best_up_to f c.args.rate 255) c.hertz-f.ensures)
