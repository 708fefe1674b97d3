-- Document 01, "When a call says no", of calls on a unit in range and an image of the right size: what each answers its caller, by the bytes that it took.
use Rattle.std.specs.Prelude.{ℕ, ◌-◌, ◌≤◌, ◌<◌, ◌≡◌, ◌⊎◌, List, [], ◌∷◌, ◌++◌, length, take, drop}
use Rattle.packets.specs.Pieces.{joined}
use Rattle.unit.specs.declared.Unit.{Unit as Port}
use Rattle.protocol.specs.Calls.{Left}
use Rattle.demands.specs.Histories.{Call, brings, area_of, Entry, unit_after, image_after, taken}
use Rattle.demands.specs.Refusals.{HandsBack}

-- the replies of some bytes, joined
abbrev pub replies : List Entry → List ℕ
replies es = joined (λ (e : Entry). e.reply) es

-- a call that took the bytes of these entries, the first of those that it brought: each found 256 bytes of the reply area left, and the call stopped at its end or before one that did not;
-- it says how many; their replies fill the front of the area, and the rest keeps its bytes; the unit and the image are those after the last
pub record Took (u : Port) (img : List ℕ) (c : Call) (l : Left) (es : List Entry) : Type 0 where
  pub bytes : taken es ≡ take (length es) (brings c)
  pub room : (j : ℕ) → j < length es → 256 ≤ length (area_of c) - length (replies (take j es))
  pub stop : (length es ≡ length (brings c)) ⊎ (length (area_of c) - length (replies es) < 256)
  pub number : l.answer.taken ≡ length es
  pub reply_length : l.answer.reply_len ≡ length (replies es)
  pub area : l.area ≡ replies es ++ drop (length (replies es)) (area_of c)
  pub unit : l.answer.unit ≡ unit_after u es (length es)
  pub image : l.image ≡ image_after img es (length es)

-- a call with a reply area under 256 bytes is refused with 3, hands everything back and takes no byte; one with 256 bytes or more is not refused
pub data CallAnswered (u : Port) (img : List ℕ) (c : Call) (l : Left) (es : List Entry) : Type 0 where
  too_small : length (area_of c) < 256 → l.answer.refusal ≡ 3 → HandsBack u img (area_of c) l → es ≡ [] → CallAnswered u img c l es
  large_enough : 256 ≤ length (area_of c) → l.answer.refusal ≡ 0 → Took u img c l es → CallAnswered u img c l es

-- each call of a list, on the unit and the image that the last one left, with what it left and its part of the trace
pub data EachAnswered : Port → List ℕ → List Call → List Left → List Entry → Type 0 where
  none : {u : Port} {img : List ℕ} → EachAnswered u img [] [] []
  each : {u : Port} {img : List ℕ} {c : Call} {cs : List Call} {l : Left} {ls : List Left} {es fs : List Entry}
      → CallAnswered u img c l es → EachAnswered l.answer.unit l.image cs ls fs → EachAnswered u img (c ∷ cs) (l ∷ ls) (es ++ fs)
