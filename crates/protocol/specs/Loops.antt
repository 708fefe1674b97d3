-- Document 01, "When a call says no": "a run of bytes equals its bytes one by one, replies joined". What a caller of `byte` writes who has no `run`.
use Rattle.std.specs.Prelude.{ℕ, suc, ◌+◌, cond, List, [], ◌∷◌, ◌++◌, take, drop, eqb}
use Rattle.unit.specs.declared.Unit.{Unit as Port}
use Rattle.protocol.specs.Outcome.{quiet}
use Rattle.protocol.specs.Calls.{Left, left, refusal, refused, answered, byte_call}

-- no byte taken, and no refusal
abbrev pub untaken : Port → List ℕ → List ℕ → Left
untaken u img area = answered (quiet u img) 0 area

-- a call that took its byte, and what the calls after it leave: the bytes taken and the replies' lengths are added up, and its reply stands in front
abbrev pub joined : Left → Left → Left
joined l rest =
    let n = l.answer.reply_len in
    let r = rest.answer in
    left
    (record { refusal = 0; unit = r.unit; taken = suc r.taken; reply_len = n + r.reply_len })
    rest.image
    (take n l.area ++ rest.area)

-- byte called in a loop: each call is given what the last one left, and of the area the part that no reply has filled; the loop ends with the bytes, or at a call that refuses
abbrev pub looped : Port → List ℕ → List ℕ → List ℕ → Left
looped u img [] area = untaken u img area
looped u img (b ∷ bs) area =
    let l = byte_call u img area b in
    let rest = looped l.answer.unit l.image bs (drop l.answer.reply_len l.area) in
    cond (eqb l.answer.refusal 0) (joined l rest) (untaken u img area)

-- what would refuse a first byte is refused so, with no byte to give as well
unfoldable pub byte_calls : Port → List ℕ → List ℕ → List ℕ → Left
byte_calls u img bytes area =
    let l = looped u img bytes area in
    cond (eqb (refusal u img area) 0) l (refused (refusal u img area) u img area)
