-- `commands::commanded` meets its contract: each arm is the table's row for its byte, and those that hand the byte on say so of every unit.
use Rattle.std.proofs.Common.{◌≡◌, ◌∙◌, ◌-◌, ◌≤◌, ap, sym, refl, arith, false, List, ℕ}
use Rattle.std.proofs.lemmas.Bool.Decides.{nat_tests}
use Rattle.unit.specs.declared.Unit.{Unit as Port}
use Rattle.protocol.specs.Commands.{Command, status, version, time, rate, commands, meaning, needs_open, effect, dropped, commanded}
use Rattle.commands.proofs.commanded.Goals as goal

means_rate : (b r : ℕ) → 0xB0 ≤ b → b ≤ 0xB4 → r ≡ b - 0xB0 → meaning b ≡ rate r
unfolding meaning commands
means_rate b r low high e = grind (arith, nat_tests)

-- a command that a closed unit takes too has its effect on every unit
takes : {c : Command} (u : Port) (img : List ℕ) (b : ℕ) → meaning b ≡ c → needs_open c ≡ false → commanded (meaning b) u img b ≡ effect c u img b
unfolding commanded dropped
takes {c} u img b m h = grind (arith, m, h)

pub returns-in-80 : goal.returns-in-80
unfolding meaning commands
returns-in-80 c t img = rw c.in-80.is (c.clear_status.ensures t img 0x50)

pub returns-in-112 : goal.returns-in-112
unfolding meaning commands needs_open
returns-in-112 c t img = c.show_status.ensures t img _ ∙ sym (takes {c = status} _ img c.args.b (ap meaning c.in-112.is) refl)

pub returns-in-251 : goal.returns-in-251
unfolding meaning commands needs_open
returns-in-251 c t img = c.show_version.ensures t img _ ∙ sym (takes {c = version} _ img c.args.b (ap meaning c.in-251.is) refl)

pub returns-in-0 : goal.returns-in-0
unfolding meaning commands needs_open
returns-in-0 c t img = c.take_time.ensures t img _ ∙ sym (takes {c = time} _ img c.args.b (ap meaning c.in-0.is) refl)

pub returns-in-176-to-180 : goal.returns-in-176-to-180
unfolding needs_open
returns-in-176-to-180 c t img = c.set_rate.ensures t img ∙ sym (takes _ img c.args.b (means_rate c.args.b _ (omega arith) (omega arith) (omega arith)) refl)
