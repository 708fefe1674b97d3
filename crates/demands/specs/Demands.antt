-- The three demands as types, a field for each sentence in its order (document 00, as documents 01 and 02 fix it; Items 3 and 5 number no refusal). Quoted is the inspector's text.
-- `StartEnsures`, `ByteEnsures` and `RunEnsures` are the clauses that the port's three functions are proved to meet: names here, and what they unfold to need not be believed.
-- That the code comes back from every call and touches nothing outside the lent memory is proved by its check, and is no statement about clauses. A start is lent its image to read alone, and no reply area: it can change neither.
use Rattle.std.specs.Prelude.{ℕ, suc, ◌+◌, ◌≤◌, ◌<◌, ◌≡◌, ◌↔◌, List, length, get_or, take}
use Rattle.packets.specs.Pieces.{Each}
use Rattle.packets.specs.Readings.{Bytes, Reading}
use Rattle.unit.specs.declared.Unit.{Unit as Port}
use Rattle.unit.specs.declared.Inputs.{Inputs}
use Rattle.unit.specs.declared.Phase.TheVariants.{Awake}
use Rattle.unit.specs.declared.Place.{Place}
use Rattle.unit.specs.declared.Place.TheVariants.{Command}
use Rattle.protocol.specs.declared.Started.{Started}
use Rattle.protocol.specs.Calls.{Left, StartEnsures}
use Rattle.demands.specs.Flash.{InBlock, Protected, ids, Blank}
use Rattle.demands.specs.Histories.{Call, brings, area_of, Answers, Entry, Calls, History, Fit, unit_after, image_after, taken, At, bytes_to}
use Rattle.demands.specs.Refusals.{StartExact, Exact}
use Rattle.demands.specs.Answered.{EachAnswered}
use Rattle.demands.specs.Changes.{Begins, Permitted, FullEffect, Change}
use Rattle.demands.specs.Table.{Table, Covered, Inside, Between, Renumbered, Resumes}
use Rattle.demands.specs.Opening.{ShutBefore, FirstOpen, OpeningInTime, SameHeard, Unseen}

pub record Demand1 : Type 0 where
  -- "Whatever bytes arrive, in whatever number, every call comes back": each start and any calls have an answer, so that what follows is said of something
  pub start_answers : (img : List ℕ) (inputs : Inputs) → (r : Started) × StartEnsures img inputs r
  pub calls_answer : (u : Port) (img : List ℕ) (cs : List Call) → Each (λ (c : Call). Bytes (brings c)) cs → Calls u img cs
  -- "A call refuses a wrong image size, a protection number out of range, [..] and only then. A refusal hands back [..] (at start, the fixed idle unit)"
  pub start : (img : List ℕ) (inputs : Inputs) (r : Started) → StartEnsures img inputs r → StartExact img inputs r
  -- "A call refuses a wrong image size, [..] too little reply room, a unit record out of its ranges, [..] and only then. A refusal hands back the unit as given [..], no reply, and image and reply area unchanged.":
  -- a byte and a run, whatever they bring, on any record
  pub call : (u : Port) (img : List ℕ) (c : Call) (l : Left) → Answers u img c l → Exact u img (area_of c) l

-- From any unit in range and any image of the right size, whatever calls follow. The last three sentences follow from the first; they are the inspector's own.
pub record Demand2 : Type 0 where
  -- every start, refused or not, hands out such a unit: so these are the calls of every history, and those on the idle unit of a refused start
  pub starts : (img : List ℕ) (inputs : Inputs) (r : Started) → StartEnsures img inputs r → (lent : List ℕ) → length lent ≡ 20480 → Fit r.unit lent
  -- "After each byte, the reply, both status registers, the next unit and the whole image are those of the protocol specification as document 01 fixes it": what each byte did
  pub table : {u : Port} {img : List ℕ} {cs : List Call} → Fit u img → (c : Calls u img cs) → Table c
  -- each byte is one of these, where the calls found the unit between packets; a unit inside a packet is such a unit after one more call
  pub covers : {u : Port} {img : List ℕ} {cs : List Call} → Fit u img → Between u → (c : Calls u img cs) → (k : ℕ) (e : Entry) → At c.trace k e → Covered u c.trace k e.byte
  pub resumes : {u : Port} {img : List ℕ} {b n : ℕ} → Fit u img → Inside b n u.phase → Resumes u img b n
  -- what the calls answered of it: the refusal's number, the bytes taken, the reply's length, the whole reply area, the unit and the image
  pub calls : {u : Port} {img : List ℕ} {cs : List Call} → Fit u img → (c : Calls u img cs) → EachAnswered u img cs c.lefts c.trace
  -- "A run of bytes equals its bytes one by one" (document 01): the first k bytes settle what they do, whichever calls brought them
  pub one_by_one : {u : Port} {img : List ℕ} {cs ds : List Call} → Fit u img → (c : Calls u img cs) (d : Calls u img ds)
      → (k : ℕ) → take k (taken c.trace) ≡ take k (taken d.trace) → Renumbered (take k c.trace) (take k d.trace)
  -- "From any awake state, at most 259 further bytes bring the unit to a command position" (document 01)
  pub settles : {u : Port} {img : List ℕ} {cs : List Call} → Fit u img → (c : Calls u img cs) → (j : ℕ) {p : Place} → (unit_after u c.trace j).phase ≡ Awake p
      → j + 259 ≤ length c.trace → (i : ℕ) × (i ≤ 259) × ((unit_after u c.trace (j + i)).phase ≡ Awake Command)
  -- "Every permitted program or erase takes its full effect at its packet's last byte."
  pub full_effect : {u : Port} {img : List ℕ} {cs : List Call} → Fit u img → (c : Calls u img cs) → (j k : ℕ) → j ≤ k → k < length c.trace
      → Begins (unit_after u c.trace j) → Permitted u.settings.protection (bytes_to c.trace j k) → FullEffect u.settings.protection img c.trace j k
  -- "Nothing else changes the image,": of calls that found the unit between packets, as in `covers`
  pub nothing_else : {u : Port} {img : List ℕ} {cs : List Call} → Fit u img → Between u → (c : Calls u img cs) → (k : ℕ) (e : Entry) → At c.trace k e
      → Change u.settings.protection u img c.trace k e.image
  -- "and no stream changes a protected block."
  pub protected_kept : {u : Port} {img : List ℕ} {cs : List Call} → Fit u img → (c : Calls u img cs) → {i x : ℕ} → Protected u.settings.protection i → InBlock i x
      → (k : ℕ) → get_or (image_after img c.trace k) x 0 ≡ get_or img x 0

-- "Start on an image whose reset vector isn't blank."
pub record Demand3 : Type 0 where
  -- "The unit first opens exactly at the byte that completes the first right ID packet: right address, size seven, the seven stored bytes", "provided fewer than three complete wrong packets came before it" (document 02, Item 5)
  pub opens : {img : List ℕ} {inputs : Inputs} {cs : List Call} (h : History img inputs cs) → (Blank img → ⊥) → (k : ℕ) → k ≤ length h.calls.trace
      → FirstOpen h.started.unit h.calls.trace k ↔ OpeningInTime (ids img) (take k (taken h.calls.trace))
  -- "Which bytes form packets is settled by the written packet rules, which allow only one reading.": each list of bytes has one
  pub reads : (id bs : List ℕ) → length id ≡ 7 → Bytes bs → Reading id bs
  pub one_reading : (id bs : List ℕ) → length id ≡ 7 → (r s : Reading id bs) → r.log ≡ s.log
  -- "Until then the image stays unchanged,": the byte that opens included
  pub unchanged : {img : List ℕ} {inputs : Inputs} {cs : List Call} (h : History img inputs cs) → (Blank img → ⊥) → (k : ℕ)
      → ShutBefore h.started.unit h.calls.trace k → image_after img h.calls.trace k ≡ img
  -- "and two units fed the same bytes, on images with the same seven ID bytes and neither blank, give equal replies and registers, whatever else the flash holds.": whatever calls brought the bytes, in whatever areas
  pub fed_the_same : {img img' : List ℕ} {inputs inputs' : Inputs} {cs cs' : List Call} (h : History img inputs cs) (h' : History img' inputs' cs')
      → ids img ≡ ids img' → (Blank img → ⊥) → (Blank img' → ⊥)
      → (k : ℕ) (e f : Entry) → At h.calls.trace k e → At h'.calls.trace k f → take (suc k) (taken h.calls.trace) ≡ take (suc k) (taken h'.calls.trace)
      → ShutBefore h.started.unit h.calls.trace (suc k) → SameHeard e f
  -- and, until then, given the same calls they take the same bytes, refuse the same calls and leave the same reply areas
  pub unseen : {img img' : List ℕ} {inputs inputs' : Inputs} {cs : List Call} (h : History img inputs cs) (h' : History img' inputs' cs)
      → ids img ≡ ids img' → (Blank img → ⊥) → (Blank img' → ⊥) → Unseen h h'
