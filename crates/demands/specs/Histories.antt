-- Calls, byte calls and run calls mixed, each given the unit and image that the last one left; a history is a start, then calls. Every call is one that meets the port's own clause.
-- Their trace has an entry for each byte that was taken.
use Rattle.std.specs.Prelude.{ℕ, zero, suc, ◌-◌, ◌≤◌, ◌≡◌, List, [], ◌∷◌, ◌++◌, length, get_or, take, drop}
use Rattle.packets.specs.Pieces.{Each}
use Rattle.packets.specs.Readings.{Bytes}
use Rattle.unit.specs.declared.Unit.{Unit as Port}
use Rattle.unit.specs.declared.Inputs.{Inputs}
use Rattle.protocol.specs.declared.Started.{Started}
use Rattle.protocol.specs.Calls.{Left, StartEnsures, ByteEnsures, RunEnsures}
use Rattle.demands.specs.Record.{InRange}

-- a call, with its reply area as it is lent
pub data Call : Type 0 where
  byte : ℕ → List ℕ → Call
  run : List ℕ → List ℕ → Call

-- the bytes that a call brings, and its area
abbrev pub brings : Call → List ℕ
brings (byte b area) = b ∷ []
brings (run bs area) = bs

abbrev pub area_of : Call → List ℕ
area_of (byte b area) = area
area_of (run bs area) = area

-- what a call leaves is what its clause says
abbrev pub Answers : Port → List ℕ → Call → Left → Type 0
Answers u img (byte b area) l = ByteEnsures u img area b l.answer l.image l.area
Answers u img (run bs area) l = RunEnsures u img area bs l.answer l.image l.area

-- a byte that was taken: the number of its call from 0, its place in that call, the byte, its reply, and the unit and the image after it
pub record Entry : Type 0 where
  pub call : ℕ
  pub place : ℕ
  pub byte : ℕ
  pub reply : List ℕ
  pub unit : Port
  pub image : List ℕ

-- what lies between the replies of two fronts of a call is the reply of the byte between them
abbrev pub entry : ℕ → ℕ → ℕ → ℕ → Left → Entry
entry m j b before l =
    record {
      call = m;
      place = j;
      byte = b;
      reply = drop before (take l.answer.reply_len l.area);
      unit = l.answer.unit;
      image = l.image;
    }

-- the entries of call m, whose front of j bytes leaves `fronts j`: from byte j on, n of them
abbrev pub entries_from : ℕ → List ℕ → (ℕ → Left) → ℕ → ℕ → List Entry
entries_from m bs fronts j zero = []
entries_from m bs fronts j (suc n) =
    entry m j (get_or bs j 0) (fronts j).answer.reply_len (fronts (suc j)) ∷ entries_from m bs fronts (suc j) n

-- the fronts of a call: what the same call leaves on each front of its bytes that it took. A byte call has replied nothing before its byte
pub data Fronts (u : Port) (img : List ℕ) : Call → Left → (ℕ → Left) → Type 0 where
  of_byte : {b : ℕ} {area : List ℕ} {l : Left} {fronts : ℕ → Left} → (fronts 0).answer.reply_len ≡ 0 → fronts 1 ≡ l → Fronts u img (byte b area) l fronts
  of_run : {bs area : List ℕ} {l : Left} {fronts : ℕ → Left}
      → ((j : ℕ) → j ≤ l.answer.taken → RunEnsures u img area (take j bs) (fronts j).answer (fronts j).image (fronts j).area) → Fronts u img (run bs area) l fronts

-- calls from the m-th on, what each left, and the entries of the bytes that were taken; a refused call takes none
pub data Goes : ℕ → Port → List ℕ → List Call → List Left → List Entry → Type 0 where
  ends : {m : ℕ} {u : Port} {img : List ℕ} → Goes m u img [] [] []
  goes : {m : ℕ} {u : Port} {img : List ℕ} {c : Call} {cs : List Call} {l : Left} {ls : List Left} {fronts : ℕ → Left} {es : List Entry}
      → Answers u img c l → Fronts u img c l fronts → Goes (suc m) l.answer.unit l.image cs ls es
      → Goes m u img (c ∷ cs) (l ∷ ls) (entries_from m (brings c) fronts 0 l.answer.taken ++ es)

-- calls on a unit and an image: what they bring are bytes
pub record Calls (u : Port) (img : List ℕ) (cs : List Call) : Type 0 where
  pub bytes : Each (λ (c : Call). Bytes (brings c)) cs
  pub lefts : List Left
  pub trace : List Entry
  pub goes : Goes 0 u img cs lefts trace

-- a history: a start on an image of the right size with a protection number in its range, then calls
pub record History (img : List ℕ) (inputs : Inputs) (cs : List Call) : Type 0 where
  pub size : length img ≡ 20480
  pub protection : inputs.protection ≤ 15
  pub started : Started
  pub start : StartEnsures img inputs started
  pub calls : Calls started.unit img cs

-- a unit and an image that a call refuses only for its reply area, whether a start led there or not: a record in range, whose 259 collected are bytes, and the image's size
pub record Fit (u : Port) (img : List ℕ) : Type 0 where
  pub range : InRange u
  pub room : length u.collected ≡ 259
  pub bytes : Bytes u.collected
  pub size : length img ≡ 20480

-- the unit and the image after k bytes of a trace, from a unit and an image on; past the trace's end they stay
abbrev pub unit_after : Port → List Entry → ℕ → Port
unit_after u es zero = u
unit_after u [] (suc k) = u
unit_after u (e ∷ es) (suc k) = unit_after e.unit es k

abbrev pub image_after : List ℕ → List Entry → ℕ → List ℕ
image_after img es zero = img
image_after img [] (suc k) = img
image_after img (e ∷ es) (suc k) = image_after e.image es k

-- the bytes that a trace's entries took, in order
abbrev pub taken : List Entry → List ℕ
taken [] = []
taken (e ∷ es) = e.byte ∷ taken es

-- the k-th entry of a trace, from 0
pub data At : List Entry → ℕ → Entry → Type 0 where
  here : {e : Entry} {es : List Entry} → At (e ∷ es) zero e
  later : {e f : Entry} {es : List Entry} {k : ℕ} → At es k f → At (e ∷ es) (suc k) f

-- the bytes of a trace from the j-th to the k-th, both among them
abbrev pub bytes_to : List Entry → ℕ → ℕ → List ℕ
bytes_to es j k = take (suc k - j) (drop j (taken es))
