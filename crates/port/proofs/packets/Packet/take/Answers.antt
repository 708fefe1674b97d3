-- `port::packets::Packet::take` meets its contract: with its byte stored, all that is collected shows whether the packet's bytes have come, and what they are.
use native.Mathlib.Numerals.{add-one}
use native.Mathlib.Omega.{arith}
use mathlib.Core.Path.{ap, sym, ◌∙◌}
use Rattle.unit.specs.declared.Phase.TheVariants.{Awake}
use Rattle.unit.specs.Phases.{inside}
use Rattle.unit.specs.Model.{longer}
use Rattle.unit.proofs.Positions.{position_inside}
use Rattle.unit.proofs.Inside.{few, few_collected}
use Rattle.protocol.specs.Outcome.{Outcome}
use Rattle.protocol.specs.Calls.{answered}
use Rattle.port.specs.Parts.{kind_of, under}
use Rattle.port.proofs.Given.{fine_sound}
use Rattle.port.proofs.PacketLaws.{goes_on, ends, finished_alike}
use Rattle.port.proofs.packets.Packet.take.Goals as goal

pub bounds-u-n : goal.bounds-u-n
bounds-u-n c = few_collected (fine_sound c.requires) (position_inside (kind_of c.args.self) c.args.n)

pub overflow_add-n : goal.overflow_add-n
overflow_add-n c =
    let h = few_collected (fine_sound c.requires) (position_inside (kind_of c.args.self) c.args.n) in
    record { fits = omega arith }

pub returns-then-n-need : goal.returns-then-n-need
unfolding longer
returns-then-n-need c =
    let a = c.args in
    let u = under (Awake (inside (kind_of a.self) a.n)) a.u.now in
    let s = fine_sound c.requires in
    let p = position_inside (kind_of a.self) a.n in
    let room = few_collected s p in
    rw (c.place.ensures, add-one)
    (ap (λ (o : Outcome). answered o 1 a.reply.now)
    (sym (goes_on (kind_of a.self) u a.image.now a.n a.b (omega (arith, c.requires.long)) (few s p) (omega (arith, c.need.ensures)))))

pub returns : goal.returns
returns c =
    let a = c.args in
    let u = under (Awake (inside (kind_of a.self) a.n)) a.u.now in
    let s = fine_sound c.requires in
    let p = position_inside (kind_of a.self) a.n in
    let room = few_collected s p in
    c.end.ensures
    ∙ ap (λ (o : Outcome). answered o 1 a.reply.now)
    (finished_alike (kind_of a.self) u a.u.now.phase _ a.image.now _
    ∙ sym (ends (kind_of a.self) u a.image.now a.n a.b (omega (arith, c.requires.long)) (few s p) (omega (arith, c.need.ensures))))
