-- Demand 3: "The unit first opens exactly at the byte that completes the first right ID packet [..]. [..] Until then the image stays unchanged, and two units fed the same bytes,
-- on images with the same seven ID bytes and neither blank, give equal replies and registers, whatever else the flash holds."
-- With document 02's Item 5: "opens at the first right packet, provided fewer than three complete wrong packets came before it."
use Rattle.std.specs.Prelude.{ℕ, suc, ◌+◌, ◌<◌, ◌≡◌, List, [], ◌∷◌, take}
use Rattle.packets.specs.Readings.{Opening}
use Rattle.packets.specs.Counts.{checks}
use Rattle.unit.specs.declared.Unit.{Unit as Port}
use Rattle.unit.specs.declared.Inputs.{Inputs}
use Rattle.protocol.specs.Calls.{Left}
use Rattle.demands.specs.Record.{Open, lock_after}
use Rattle.demands.specs.Histories.{Call, Entry, History, unit_after, At}

-- before the k-th byte the unit has not been open
abbrev pub ShutBefore : Port → List Entry → ℕ → Type 0
ShutBefore u es k = (j : ℕ) → j < k → Open (unit_after u es j) → ⊥

-- the unit is open after k bytes, and after no fewer
pub record FirstOpen (u : Port) (es : List Entry) (k : ℕ) : Type 0 where
  pub opens : Open (unit_after u es k)
  pub before : ShutBefore u es k

-- the bytes end with the first right ID packet, and fewer complete wrong ones came before it than lock a unit
pub record OpeningInTime (ids bs : List ℕ) : Type 0 where
  pub opening : Opening ids bs
  pub few : checks opening.packets < lock_after

-- two bytes are answered alike: their replies are equal, and the units after them may differ in their settings alone: phase, SRD, SRD1, rate, the count of wrong ID checks and collected bytes are equal
pub record SameHeard (e f : Entry) : Type 0 where
  pub reply : e.reply ≡ f.reply
  pub phase : e.unit.phase ≡ f.unit.phase
  pub registers : e.unit.registers ≡ f.unit.registers
  pub collected : e.unit.collected ≡ f.unit.collected

-- two entries show the same: the same byte of the same call was taken, and answered alike
pub record SameShown (e f : Entry) : Type 0 where
  pub call : e.call ≡ f.call
  pub place : e.place ≡ f.place
  pub byte : e.byte ≡ f.byte
  pub heard : SameHeard e f

-- two calls left the same for their callers to see, beside the unit: the refusal's number, the bytes taken, the reply's length and the whole reply area
pub record SameAnswer (l m : Left) : Type 0 where
  pub refusal : l.answer.refusal ≡ m.answer.refusal
  pub taken : l.answer.taken ≡ m.answer.taken
  pub reply_length : l.answer.reply_len ≡ m.answer.reply_len
  pub area : l.area ≡ m.area

-- how many bytes some calls took
abbrev pub taken_by : List Left → ℕ
taken_by [] = 0
taken_by (l ∷ ls) = l.answer.taken + taken_by ls

-- what each of two lists of calls left, call by call
pub data EachSame : List Left → List Left → Type 0 where
  none : EachSame [] []
  both : {l m : Left} {ls ms : List Left} → SameAnswer l m → EachSame ls ms → EachSame (l ∷ ls) (m ∷ ms)

-- two histories with the same calls show the same up to the byte that opens the first one, that byte included: its entry has one that shows the same in the second;
-- and the first m calls, refused ones too, left the same, where none of the bytes that they took but perhaps the last opened it
pub record Unseen {img img' : List ℕ} {inputs inputs' : Inputs} {cs : List Call} (h : History img inputs cs) (h' : History img' inputs' cs) : Type 0 where
  pub bytes : (k : ℕ) (e : Entry) → At h.calls.trace k e → ShutBefore h.started.unit h.calls.trace (suc k) → (f : Entry) × At h'.calls.trace k f × SameShown e f
  pub calls : (m : ℕ) → ShutBefore h.started.unit h.calls.trace (taken_by (take m h.calls.lefts)) → EachSame (take m h.calls.lefts) (take m h'.calls.lefts)
