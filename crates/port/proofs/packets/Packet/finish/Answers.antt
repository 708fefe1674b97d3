-- `port::packets::Packet::finish` meets its contract: a page read answers its page, which fits the area; the others reply nothing.
use mathlib.Core.Path.{ap, sym, ◌∙◌}
use Rattle.unit.specs.Model.{ended}
use Rattle.protocol.specs.Outcome.{Outcome}
use Rattle.protocol.specs.Calls.{answered}
use Rattle.protocol.proofs.Cases.{page_reply_long}
use Rattle.port.proofs.Areas.{replied}
use Rattle.port.proofs.PacketLaws.{page_shown, all_erased}
use Rattle.port.proofs.packets.Packet.finish.Goals as goal

pub returns-in-PageRead : goal.returns-in-PageRead
returns-in-PageRead c =
    let u = c.args.u.now in
    let img = c.args.image.now in
    let area = c.args.reply.now in
    rw c.in-PageRead.is
    (replied (ended u u.registers) img _ area 256 _ (sym (page_reply_long img _ _)) c.show_page.ensures c.requires
    ∙ ap (λ (o : Outcome). answered o 1 area) (sym (page_shown u img u.collected)))

pub returns-in-EraseAll : goal.returns-in-EraseAll
unfolding ended
returns-in-EraseAll c =
    let u = c.args.u.now in
    rw c.in-EraseAll.is
    (ap (λ (o : Outcome). answered o 1 c.args.reply.now)
    ((rw c.state.ensures at c.erase_all.ensures u.collected) ∙ sym (all_erased u c.args.image.now u.collected)))
