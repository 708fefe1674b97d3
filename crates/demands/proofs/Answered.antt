-- A call that is not refused answers with the run of the bytes that it took, and that run's reply is the replies of its bytes, joined.
use Prim.Native.Nat.{ℕ, zero, suc, ◌-◌, ◌<◌}
use native.Mathlib.Omega.{arith}
use native.Mathlib.Decide.{dec_lt}
use mathlib.Core.Path.{◌≡◌, refl, ap, sym, ◌∙◌, subst⁻¹}
use mathlib.Core.Logic.{◌⊎◌, inl, inr}
use mathlib.Core.List.{List, [], ◌∷◌, ◌++◌}
use lib.ListN.{length, take, drop}
use lib.Seq.{length-take-le, take-take}
use Rattle.unit.specs.declared.Unit.{Unit as Port}
use Rattle.unit.specs.declared.Inputs.{Inputs}
use Rattle.protocol.specs.declared.Started.{Started}
use Rattle.protocol.specs.Outcome.{Outcome}
use Rattle.protocol.specs.Step.{step, run}
use Rattle.protocol.specs.Calls.{Left, answered}
use Rattle.protocol.proofs.Runs.{Stopped}
use Rattle.demands.specs.Histories.{Call, brings, area_of, Entry, Calls, History, Fit, taken}
use Rattle.demands.specs.Refusals.{HandsBack}
use Rattle.demands.specs.Answered.{replies, Took, CallAnswered, EachAnswered}
use Rattle.demands.specs.Answered.CallAnswered.{too_small, large_enough}
use Rattle.demands.specs.Answered.EachAnswered.{none, each}
use Rattle.demands.proofs.Entries.{steps_of, steps_long, steps_unit, steps_image, walk_of, Called}
use Rattle.demands.proofs.Entries.Called.{small, took}
use Rattle.demands.proofs.Bridge.{Went, went, start_is, start_fit}
use Rattle.demands.proofs.Bridge.Went.{stays, calls}
use Rattle.demands.proofs.Demand1.{hands_back}

-- the entries of some bytes' steps: the bytes, the joined replies, and those of the first of them
steps_taken : (m j : ℕ) (u : Port) (img bs : List ℕ) → taken (steps_of m j u img bs) ≡ bs
steps_taken m j u img [] = refl
steps_taken m j u img (b ∷ bs) = ap (λ (l : List ℕ). b ∷ l) (steps_taken m (suc j) (step u img b).unit (step u img b).image bs)

steps_replies : (m j : ℕ) (u : Port) (img bs : List ℕ) → replies (steps_of m j u img bs) ≡ (run u img bs).reply
steps_replies m j u img [] = refl
steps_replies m j u img (b ∷ bs) = ap (λ (l : List ℕ). (step u img b).reply ++ l) (steps_replies m (suc j) (step u img b).unit (step u img b).image bs)

steps_front : (m j : ℕ) (u : Port) (img bs : List ℕ) (i : ℕ) → take i (steps_of m j u img bs) ≡ steps_of m j u img (take i bs)
steps_front m j u img bs zero = refl
steps_front m j u img [] (suc i) = refl
steps_front m j u img (b ∷ bs) (suc i) =
    let o : Outcome = step u img b in
    let e : Entry = record { call = m; place = j; byte = b; reply = o.reply; unit = o.unit; image = o.image } in
    ap (λ (es : List Entry). e ∷ es) (steps_front m (suc j) o.unit o.image bs i)

-- a call that took n bytes
module _ (m : ℕ) (u : Port) (img : List ℕ) (c : Call) (n : ℕ) (st : Stopped (length (area_of c)) u img (brings c) (walk_of u img (brings c) n)) where
  abbrev bs : List ℕ
  bs = take n (brings c)

  abbrev es : List Entry
  es = steps_of m 0 u img bs

  long : length es ≡ n
  long = steps_long m 0 u img bs ∙ length-take-le n (brings c) st.most

  said : replies es ≡ (run u img bs).reply
  said = steps_replies m 0 u img bs

  said_before : (j : ℕ) → j < n → replies (take j es) ≡ (run u img (take j (brings c))).reply
  said_before j h =
      ap replies (steps_front m 0 u img bs j)
      ∙ (steps_replies m 0 u img (take j bs) ∙ ap (λ (l : List ℕ). (run u img l).reply) (take-take j n (brings c) (omega arith)))

  stops : (length es ≡ length (brings c)) ⊎ (length (area_of c) - length (replies es) < 256)
  stops = go (dec_lt n (length (brings c)))
    where
      go : Dec (n < length (brings c)) → (length es ≡ length (brings c)) ⊎ (length (area_of c) - length (replies es) < 256)
      go (yes h) = inr (omega (arith, st.why h, ap length said))
      go (no h) = inl (omega (arith, long, st.most))

  took_these : (l : Left) → l ≡ answered (run u img bs) n (area_of c) → Took u img c l es
  took_these l e =
      record {
        bytes = steps_taken m 0 u img bs ∙ ap (λ (i : ℕ). take i (brings c)) (sym long);
        room = λ j h. omega (arith, st.before j (omega (arith, long)), ap length (said_before j (omega (arith, long))));
        stop = stops;
        number = ap (λ (x : Left). x.answer.taken) e ∙ sym long;
        reply_length = ap (λ (x : Left). x.answer.reply_len) e ∙ ap length (sym said);
        area = ap (λ (x : Left). x.area) e ∙ ap (λ (r : List ℕ). r ++ drop (length r) (area_of c)) (sym said);
        unit = ap (λ (x : Left). x.answer.unit) e ∙ sym (steps_unit m 0 u img bs);
        image = ap (λ (x : Left). x.image) e ∙ sym (steps_image m 0 u img bs);
      }

called_answered : {m : ℕ} {u : Port} {img : List ℕ} {c : Call} {l : Left} {es : List Entry} → Called m u img c l es → CallAnswered u img c l es
called_answered {u = u} {img = img} {c = c} (small h e f) =
    too_small h (ap (λ (x : Left). x.answer.refusal) e) (subst⁻¹ (HandsBack u img (area_of c)) e (hands_back u img (area_of c) 3)) f
called_answered {m} {u} {img} {c} {l} (took n h st e f) =
    large_enough h (ap (λ (x : Left). x.answer.refusal) e) (subst⁻¹ (Took u img c l) f (took_these m u img c n st l e))

went_answered : {m : ℕ} {u : Port} {img : List ℕ} {cs : List Call} {ls : List Left} {es : List Entry} → Went m u img cs ls es → EachAnswered u img cs ls es
went_answered stays = none
went_answered (calls s size y k w) = each (called_answered k) (went_answered w)

-- of calls on a unit in range and an image of the right size exactly those with an area under 256 bytes are refused, with 3; what each of the others answers its caller
pub each_answered : {u : Port} {img : List ℕ} {cs : List Call} → Fit u img → (c : Calls u img cs) → EachAnswered u img cs c.lefts c.trace
each_answered f c = went_answered (went f c)

-- in a history the start does not refuse, and of the calls after it exactly those with an area under 256 bytes do
pub history_refusals : {img : List ℕ} {inputs : Inputs} {cs : List Call} (h : History img inputs cs)
    → (h.started.refusal ≡ 0) × EachAnswered h.started.unit img cs h.calls.lefts h.calls.trace
history_refusals h = (ap (λ (r : Started). r.refusal) (start_is h), each_answered (start_fit h) h.calls)
