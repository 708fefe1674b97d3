-- `port::packets::program_page` meets its contract: the address and the data are those parts of what has come, and a page may reach the end of its bank.
use mathlib.Core.Path.{sym, ◌∙◌}
use Rattle.unit.specs.Model.{ended}
use Rattle.port.proofs.PacketLaws.{page_programmed}
use Rattle.port.proofs.packets.program_page.Goals as goal

pub returns : goal.returns
unfolding ended
returns c =
    let u = c.args.u.now in
    (rw (c.state.ensures, c.page_address.ensures) at c.program.ensures u.collected) ∙ sym (page_programmed u c.args.image.now u.collected)
