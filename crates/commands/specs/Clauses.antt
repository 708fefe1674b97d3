-- What a byte leads to while the unit sleeps, and at a command position, over the parts of a unit: its state by value, its collected bytes lent.
-- It holds whatever the unit's settings, its image and, asleep, its collected bytes are: such a byte reads none of them.
use Rattle.std.specs.Prelude.{ℕ, ◌≡◌, List, [], ◌∷◌, length}
use Rattle.slices.specs.Lists.{front}
use Rattle.unit.specs.declared.State.{State}
use Rattle.unit.specs.declared.Settings.{Settings}
use Rattle.unit.specs.Model.{whole}
use Rattle.protocol.specs.Outcome.{Outcome, says}
use Rattle.protocol.specs.Commands.{meaning, version_bytes, commanded}
use Rattle.protocol.specs.Step.{asleep}
use Rattle.commands.specs.declared.Said.{Said}
use Rattle.commands.specs.declared.Reply.{Reply}
use Rattle.commands.specs.declared.Reply.TheVariants.{Nothing, Byte, Status, Version}

-- the bytes of a reply
abbrev pub bytes_of : Reply → List ℕ
bytes_of Nothing = []
bytes_of (Byte b) = b ∷ []
bytes_of (Status srd srd1) = srd ∷ srd1 ∷ []
bytes_of Version = version_bytes

-- how long a reply is, and an area with it at the front
abbrev pub put : Reply → List ℕ → ℕ × List ℕ
put r area = (length (bytes_of r), front (bytes_of r) area)

abbrev pub PutEnsures : Reply → List ℕ → ℕ → List ℕ → Type 0
PutEnsures r area n area' = let left : ℕ × List ℕ = (n, area') in left ≡ put r area

-- an answer with no reply
abbrev pub quietly : State → Said
quietly s = record { state = s; reply = Nothing }

-- what was said: the outcome whose reply these bytes are
abbrev pub said : Said → Settings → List ℕ → List ℕ → Outcome
said r t got img = says (whole r.state t got) img (bytes_of r.reply)

-- asleep, with n zeros counted
abbrev pub AsleepEnsures : State → ℕ → ℕ → Said → Type 0
AsleepEnsures s n b r = (t : Settings) (got img : List ℕ) → said r t got img ≡ asleep n (whole s t got) img b

-- at a command position
abbrev pub CommandedEnsures : State → List ℕ → ℕ → Said → List ℕ → Type 0
CommandedEnsures s got b r got' = (t : Settings) (img : List ℕ) → said r t got' img ≡ commanded (meaning b) (whole s t got) img b
