-- `port::packets::program_unit` meets its contract: the address, the size and the data are those parts of what has come, and a unit program may not reach the last byte of its bank.
use mathlib.Core.Path.{sym, ◌∙◌}
use Rattle.unit.specs.Model.{ended}
use Rattle.port.proofs.PacketLaws.{bytes_programmed}
use Rattle.port.proofs.packets.program_unit.Goals as goal

pub returns : goal.returns
unfolding ended
returns c =
    let u = c.args.u.now in
    (rw (c.state.ensures, c.byte_address.ensures) at c.program.ensures u.collected) ∙ sym (bytes_programmed u c.args.image.now u.collected)
