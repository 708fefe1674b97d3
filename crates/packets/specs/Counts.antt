-- Document 02, Item 5: how many complete ID packets a reading has. All of them are wrong: of a reading's packets none is the right one, and its right packet stands apart from them.
use Rattle.std.specs.Prelude.{ℕ, suc, List, [], ◌∷◌}
use Rattle.packets.specs.Pieces.{Packet, lone, check}
use Rattle.packets.specs.Readings.{Log, slept, stayed_shut, opened}

-- the ID packets among some packets
abbrev pub checks : List Packet → ℕ
checks [] = 0
checks (lone b ∷ ps) = checks ps
checks (check low mid high ds ∷ ps) = suc (checks ps)

-- the wrong ID packets of a log: those before its right one, if it has one
abbrev pub wrong_checks : Log → ℕ
wrong_checks (slept dull _) = 0
wrong_checks (stayed_shut dull wake packets rest) = checks packets
wrong_checks (opened dull wake packets unread) = checks packets
