-- `port::byte` meets its contract: it refuses with what was found, and else is the step over the unit that it lends.
use mathlib.Core.Path.{ap, sym, ◌∙◌}
use lib.ListN.{get_or}
use mir.Val.{Fits}
use mir.Syntax.{w8}
use Rattle.std.proofs.Common.{rules}
use Rattle.protocol.proofs.Refusals.{byte_done}
use Rattle.protocol.specs.declared.Numbered.{Numbered}
use Rattle.port.specs.Parts.{found}
use Rattle.port.proofs.Given.{given, byte_says}
use Rattle.port.proofs.byte.Goals as goal

pub returns-in_err-check : goal.returns-in_err-check
returns-in_err-check c =
    let a = c.args in
    let e = byte_says a.u a.image.now a.reply.now c.in_err-check.field-0.0 c.in_err-check.ensures a.b in
    search rules

pub step_in-phase-requires : goal.step_in-phase-requires
step_in-phase-requires c =
    let s = c in
    let a = s.args in
    given a.u a.image.now a.reply.now (ap (λ (n : Numbered). n.refusal) (sym c.check.ensures ∙ ap (found a.u) c.in_ok-check.was)) (search rules) (λ i. let given_unit = c.well_formed.0 in let f : Fits w8 (get_or a.u.collected i 0) = search rules in f.fits)

pub returns : goal.returns
returns c =
    let a = c.args in
    c.step_in-phase.ensures ∙ sym (byte_done a.u a.image.now a.reply.now a.b (ap (λ (n : Numbered). n.refusal) (sym c.check.ensures ∙ ap (found a.u) c.in_ok-check.was)))
