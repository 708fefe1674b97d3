-- Document 01, "When a call says no": the three calls, complete for every input, and the clauses that the port's contracts are.
use Rattle.std.specs.Prelude.{ℕ, suc, ◌-◌, ◌≡◌, cond, not, List, [], ◌∷◌, ◌++◌, length, drop, ltb, eqb, Result, Ok, Err}
use Rattle.flash.specs.Blocks.{part, sized}
use Rattle.unit.specs.declared.Unit.{Unit as Port}
use Rattle.unit.specs.declared.Inputs.{Inputs}
use Rattle.unit.specs.Model.{fresh, idle}
use Rattle.unit.specs.Range.{in_range}
use Rattle.protocol.specs.declared.Refusal.{Refusal}
use Rattle.protocol.specs.declared.Refusal.TheVariants.{Image, Protection, Area, Unit}
use Rattle.protocol.specs.declared.Refused.{Refused}
use Rattle.protocol.specs.declared.Answer.{Answer}
use Rattle.protocol.specs.declared.Started.{Started}
use Rattle.protocol.specs.declared.Numbered.{Numbered}
use Rattle.protocol.specs.Outcome.{Outcome}
use Rattle.protocol.specs.Step.{step}

-- the number of a start's refusal, or 0: the lowest that applies
unfoldable pub start_refusal : List ℕ → Inputs → ℕ
start_refusal img inputs = cond (not (sized part img)) 1 (cond (ltb 15 inputs.protection) 2 0)

-- a start: the fresh unit, or the refusal's number and the idle unit
unfoldable pub start_call : List ℕ → Inputs → Started
start_call img inputs =
    cond (eqb (start_refusal img inputs) 0)
    (record { refusal = 0; unit = fresh img inputs })
    (record { refusal = start_refusal img inputs; unit = idle })

-- the number of a byte's or a run's refusal, or 0: the lowest that applies
unfoldable pub refusal : Port → List ℕ → List ℕ → ℕ
refusal u img area =
    cond (not (sized part img)) 1 (cond (ltb (length area) 256) 3 (cond (not (in_range u)) 4 0))

-- all that a byte's or a run's call leaves: its answer, the image and the reply area
pub record Left : Type 0 where
  pub answer : Numbered
  pub image : List ℕ
  pub area : List ℕ

abbrev pub left : Numbered → List ℕ → List ℕ → Left
left r img area = record { answer = r; image = img; area = area }

-- a refusal: the unit as given, no byte taken, no reply, image and area unchanged
abbrev pub refusing : ℕ → Port → Numbered
refusing n u = record { refusal = n; unit = u; taken = 0; reply_len = 0 }

abbrev pub refused : ℕ → Port → List ℕ → List ℕ → Left
refused n u img area = left (refusing n u) img area

-- a success: the reply fills the front of the area, and the rest keeps its bytes
abbrev pub answered : Outcome → ℕ → List ℕ → Left
answered o taken area =
    left
    (record { refusal = 0; unit = o.unit; taken = taken; reply_len = length o.reply })
    o.image
    (o.reply ++ drop (length o.reply) area)

unfoldable pub byte_call : Port → List ℕ → List ℕ → ℕ → Left
byte_call u img area b =
    cond (eqb (refusal u img area) 0) (answered (step u img b) 1 area) (refused (refusal u img area) u img area)

-- where a run stops: what its bytes led to, and how many it took
pub record Walk : Type 0 where
  pub outcome : Outcome
  pub taken : ℕ

abbrev pub walk : Port → List ℕ → List ℕ → ℕ → Walk
walk u img r n = record { outcome = record { unit = u; image = img; reply = r }; taken = n }

-- a run in an area with so much room: byte by byte, up to its end or to a byte that finds under 256 bytes of it left
abbrev pub walked : ℕ → Port → List ℕ → List ℕ → Walk
walked room u img [] = walk u img [] 0
walked room u img (b ∷ bs) =
    let o = step u img b in
    let w = walked (room - length o.reply) o.unit o.image bs in
    let more = walk w.outcome.unit w.outcome.image (o.reply ++ w.outcome.reply) (suc w.taken) in
    cond (ltb room 256) (walk u img [] 0) more

unfoldable pub run_call : Port → List ℕ → List ℕ → List ℕ → Left
run_call u img bytes area =
    let w = walked (length area) u img bytes in
    cond (eqb (refusal u img area) 0) (answered w.outcome w.taken area) (refused (refusal u img area) u img area)

-- the document's number of each refusal
abbrev pub number_of : Refusal → ℕ
number_of Image = 1
number_of Protection = 2
number_of Area = 3
number_of Unit = 4

-- a start's result by its number: a refused one hands a unit back
abbrev pub started : Result Port Refused → Started
started (Ok u) = record { refusal = 0; unit = u }
started (Err e) = record { refusal = number_of e.refusal; unit = e.unit }

-- and that of a byte or a run: a refused one hands a unit back, has taken no byte and replies nothing
abbrev pub numbered : Result Answer Refused → Numbered
numbered (Ok a) = record { refusal = 0; unit = a.unit; taken = a.taken; reply_len = a.reply_len }
numbered (Err e) = refusing (number_of e.refusal) e.unit

-- the clauses: what a start answers of an image and the inputs
abbrev pub StartEnsures : List ℕ → Inputs → Started → Type 0
StartEnsures img inputs r = r ≡ start_call img inputs

-- what a byte's call answers, and leaves of the image and the reply area
abbrev pub ByteEnsures : Port → List ℕ → List ℕ → ℕ → Numbered → List ℕ → List ℕ → Type 0
ByteEnsures u img area b r img' area' = left r img' area' ≡ byte_call u img area b

-- what a run's call does
abbrev pub RunEnsures : Port → List ℕ → List ℕ → List ℕ → Numbered → List ℕ → List ℕ → Type 0
RunEnsures u img area bytes r img' area' = left r img' area' ≡ run_call u img bytes area
