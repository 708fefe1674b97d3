-- `port::packets::erase_block` meets its contract: the address and the confirm byte are those parts of what has come.
use mathlib.Core.Path.{sym, ◌∙◌}
use Rattle.unit.specs.Model.{ended}
use Rattle.port.proofs.PacketLaws.{block_erased}
use Rattle.port.proofs.packets.erase_block.Goals as goal

pub returns : goal.returns
unfolding ended
returns c =
    let u = c.args.u.now in
    (rw (c.state.ensures, c.page_address-address.ensures) at c.erase.ensures u.collected) ∙ sym (block_erased u c.args.image.now u.collected)
