-- Every list of calls that bring bytes has a history: what each call leaves is what its clause computes, and so is what it leaves on each front of its bytes.
use Prim.Native.Nat.{ℕ, zero, suc, ◌≤◌}
use mathlib.Core.Path.{◌≡◌, refl}
use mathlib.Core.List.{List, [], ◌∷◌, ◌++◌}
use lib.ListN.{length, take}
use Rattle.packets.specs.Pieces.{Each}
use Rattle.packets.specs.Readings.{Bytes}
use Rattle.unit.specs.declared.Unit.{Unit as Port}
use Rattle.unit.specs.declared.Inputs.{Inputs}
use Rattle.protocol.specs.Calls.{Left, refused, start_call, byte_call, run_call}
use Rattle.demands.specs.Histories.{Call, brings, Answers, Entry, entries_from, Fronts, Goes, Calls, History}
use Rattle.demands.specs.Histories.Call.{byte, run as a_run}
use Rattle.demands.specs.Histories.Fronts.{of_byte, of_run}
use Rattle.demands.specs.Histories.Goes.{ends, goes}

-- what each call of a list leaves
abbrev pub left_of : Port → List ℕ → Call → Left
left_of u img (byte b area) = byte_call u img area b
left_of u img (a_run bs area) = run_call u img bs area

abbrev pub lefts_of : Port → List ℕ → List Call → List Left
lefts_of u img [] = []
lefts_of u img (c ∷ cs) =
    let l = left_of u img c in
    let ls = lefts_of l.answer.unit l.image cs in
    l ∷ ls

pub answers_left : (u : Port) (img : List ℕ) (c : Call) (l : Left) → Answers u img c l → l ≡ left_of u img c
answers_left u img (byte b area) l a = a
answers_left u img (a_run bs area) l a = a

left_answers : (u : Port) (img : List ℕ) (c : Call) → Answers u img c (left_of u img c)
left_answers u img (byte b area) = refl
left_answers u img (a_run bs area) = refl

-- and on each front of its bytes
abbrev pub fronts_of : Port → List ℕ → Call → ℕ → Left
fronts_of u img (byte b area) zero = refused 0 u img area
fronts_of u img (byte b area) (suc j) = byte_call u img area b
fronts_of u img (a_run bs area) j = run_call u img (take j bs) area

pub fronts_are : (u : Port) (img : List ℕ) (c : Call) → Fronts u img c (left_of u img c) (fronts_of u img c)
fronts_are u img (byte b area) = of_byte refl refl
fronts_are u img (a_run bs area) = of_run (λ j q. refl)

-- the trace of calls from the m-th on
abbrev pub trace_of : ℕ → Port → List ℕ → List Call → List Entry
trace_of m u img [] = []
trace_of m u img (c ∷ cs) =
    let l = left_of u img c in
    let es = trace_of (suc m) l.answer.unit l.image cs in
    entries_from m (brings c) (fronts_of u img c) 0 l.answer.taken ++ es

pub goes_on : (m : ℕ) (u : Port) (img : List ℕ) (cs : List Call) → Goes m u img cs (lefts_of u img cs) (trace_of m u img cs)
goes_on m u img [] = ends
goes_on m u img (c ∷ cs) =
    let l = left_of u img c in
    goes (left_answers u img c) (fronts_are u img c) (goes_on (suc m) l.answer.unit l.image cs)

abbrev pub calls_exist : (u : Port) (img : List ℕ) (cs : List Call) → Each (λ (c : Call). Bytes (brings c)) cs → Calls u img cs
calls_exist u img cs y = record { bytes = y; lefts = lefts_of u img cs; trace = trace_of 0 u img cs; goes = goes_on 0 u img cs }

abbrev pub history_exists : (img : List ℕ) (inputs : Inputs) (cs : List Call) → length img ≡ 20480 → inputs.protection ≤ 15 → Each (λ (c : Call). Bytes (brings c)) cs → History img inputs cs
history_exists img inputs cs size p y =
    record {
      size = size;
      protection = p;
      started = start_call img inputs;
      start = refl;
      calls = calls_exist (start_call img inputs).unit img cs y;
    }
