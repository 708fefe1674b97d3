-- `port::step_in` meets its contract: asleep and at a command the reply that is handed back by value is the step's.
use mathlib.Core.Path.{◌≡◌, ap, sym, ◌∙◌}
use Rattle.std.proofs.Common.{rules}
use Rattle.unit.specs.declared.Phase.{Phase}
use Rattle.unit.specs.declared.Phase.TheVariants.{Awake}
use Rattle.unit.specs.declared.Place.TheVariants.{Command}
use Rattle.unit.specs.Phases.{position_of}
use Rattle.unit.specs.Phases.Position.{commanding}
use Rattle.protocol.specs.Outcome.{Outcome}
use Rattle.protocol.specs.Commands.{commanded, meaning}
use Rattle.protocol.specs.Step.{asleep, step_at}
use Rattle.protocol.specs.Calls.{answered}
use Rattle.port.specs.Parts.{under}
use Rattle.port.proofs.Steps.{step_says}
use Rattle.port.proofs.step_in.Goals as goal

pub returns-in-Asleep : goal.returns-in-Asleep
unfolding step_at
returns-in-Asleep c =
    let a = c.args in
    let u = a.u.now in
    step_says (under a.phase u) a.image.now a.reply.now a.b _ _ (ap position_of c.in-Asleep.is)
    (c.answer.ensures a.image.now
    ∙ ap (λ (o : Outcome). answered o 1 a.reply.now)
    (c.asleep-outcome.ensures u.settings u.collected a.image.now
    ∙ ap (λ (f : Phase). asleep c.in-Asleep.n (under f u) a.image.now a.b) (sym c.in-Asleep.is)))

pub returns-in-Awake-Command : goal.returns-in-Awake-Command
unfolding step_at
returns-in-Awake-Command c =
    let a = c.args in
    let u = a.u.now in
    let at : a.phase ≡ Awake Command = search rules in
    step_says (under a.phase u) a.image.now a.reply.now a.b commanding _ (ap position_of at)
    (c.answer-in-Awake-Command.ensures a.image.now
    ∙ ap (λ (o : Outcome). answered o 1 a.reply.now)
    (rw c.at_command.ensures at c.commanded-outcome.ensures u.settings a.image.now
    ∙ ap (λ (f : Phase). commanded (meaning a.b) (under f u) a.image.now a.b) (sym at)))
