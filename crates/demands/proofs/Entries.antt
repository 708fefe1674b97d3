-- What one call leaves, and its entries, in terms of the step: a call is refused with 3 where its area is small, and else its entries are the steps of the bytes that it took.
-- A front of a run is a run of its own, which stops at its end, so the replies of two fronts differ by the reply of the byte between them.
use Prim.Native.Nat.{ℕ, zero, suc, ◌+◌, ◌-◌, ◌≤◌, ◌<◌}
use native.Mathlib.Omega.{arith}
use native.Mathlib.Decide.{dec_lt}
use mathlib.Core.Path.{◌≡◌, refl, ap, ap₂, sym, ◌∙◌, subst}
use mathlib.Core.List.{List, [], ◌∷◌, ◌++◌}
use lib.ListN.{length, get_or, take, drop}
use lib.Seq.{length-take-le, take_all, take-take, take-suc, drop-cons, take-append_seam, drop-append_seam}
use Rattle.slices.specs.Lists.{Bytes}
use Rattle.unit.specs.declared.Unit.{Unit as Port}
use Rattle.unit.proofs.Ranged.{Sound, in_range_lem}
use Rattle.protocol.specs.Outcome.{Outcome, says, quiet}
use Rattle.protocol.specs.Step.{step, run}
use Rattle.protocol.specs.Calls.{Left, refusal, refused, answered, byte_call, Walk, walked, run_call}
use Rattle.protocol.proofs.Reasons.Reason.{room as no_room}
use Rattle.protocol.proofs.Steps.{run_one, run_append}
use Rattle.protocol.proofs.Runs.{Stopped, stopped, run_answers}
use Rattle.protocol.proofs.Refusals.{exactly, all_right, byte_done, byte_refused, run_refused}
use Rattle.demands.specs.Histories.{Call, brings, area_of, Answers, Entry, entry, entries_from, Fronts, unit_after, image_after}
use Rattle.demands.specs.Histories.Call.{byte, run as a_run}
use Rattle.demands.specs.Histories.Fronts.{of_byte, of_run}
use Rattle.demands.proofs.Traces.{Stepped}
use Rattle.demands.proofs.Traces.Stepped.{done, next}

-- the steps of these bytes as entries of call m, from its byte j on
abbrev pub steps_of : ℕ → ℕ → Port → List ℕ → List ℕ → List Entry
steps_of m j u img [] = []
steps_of m j u img (b ∷ bs) =
    let o = step u img b in
    let rest = steps_of m (suc j) o.unit o.image bs in
    record { call = m; place = j; byte = b; reply = o.reply; unit = o.unit; image = o.image } ∷ rest

pub steps_stepped : (m j : ℕ) (u : Port) (img bs : List ℕ) → Bytes bs → Stepped u img (steps_of m j u img bs)
steps_stepped m j u img [] y = done
steps_stepped m j u img (b ∷ bs) y =
    next (record { small = y.0; leads = refl }) (steps_stepped m (suc j) (step u img b).unit (step u img b).image bs y.1)

pub steps_long : (m j : ℕ) (u : Port) (img bs : List ℕ) → length (steps_of m j u img bs) ≡ length bs
steps_long m j u img [] = refl
steps_long m j u img (b ∷ bs) = ap suc (steps_long m (suc j) (step u img b).unit (step u img b).image bs)

pub steps_unit : (m j : ℕ) (u : Port) (img bs : List ℕ) → unit_after u (steps_of m j u img bs) (length (steps_of m j u img bs)) ≡ (run u img bs).unit
steps_unit m j u img [] = refl
steps_unit m j u img (b ∷ bs) = steps_unit m (suc j) (step u img b).unit (step u img b).image bs

pub steps_image : (m j : ℕ) (u : Port) (img bs : List ℕ) → image_after img (steps_of m j u img bs) (length (steps_of m j u img bs)) ≡ (run u img bs).image
steps_image m j u img [] = refl
steps_image m j u img (b ∷ bs) = steps_image m (suc j) (step u img b).unit (step u img b).image bs

-- a run that took n bytes, as a walk
abbrev pub walk_of : Port → List ℕ → List ℕ → ℕ → Walk
walk_of u img bs n = record { outcome = run u img (take n bs); taken = n }

-- what a call leaves of a sound unit and an image of the right size, and its entries: refused for a small area; or n bytes were taken, as a run of them stops
pub data Called (m : ℕ) (u : Port) (img : List ℕ) (c : Call) (l : Left) (es : List Entry) : Type 0 where
  small : length (area_of c) < 256 → l ≡ refused 3 u img (area_of c) → es ≡ [] → Called m u img c l es
  took : (n : ℕ) → 256 ≤ length (area_of c) → Stopped (length (area_of c)) u img (brings c) (walk_of u img (brings c) n)
      → l ≡ answered (run u img (take n (brings c))) n (area_of c) → es ≡ steps_of m 0 u img (take n (brings c)) → Called m u img c l es

-- one byte more
pub run_suc : (u : Port) (img bs : List ℕ) (j : ℕ) → j < length bs
    → let o = run u img (take j bs) in let s = step o.unit o.image (get_or bs j 0) in run u img (take (suc j) bs) ≡ says s.unit s.image (o.reply ++ s.reply)
run_suc u img bs j h =
    let o : Outcome = run u img (take j bs) in
    ap (run u img) (take-suc bs j 0 h)
    ∙ (run_append u img (take j bs) (get_or bs j 0 ∷ [])
    ∙ ap (λ (s : Outcome). says s.unit s.image (o.reply ++ s.reply)) (run_one o.unit o.image (get_or bs j 0)))

-- the entry between two fronts is the step between them
between : (m j b : ℕ) (o s : Outcome) (n : ℕ) (area : List ℕ)
    → entry m j b (length o.reply) (answered (says s.unit s.image (o.reply ++ s.reply)) n area)
    ≡ record { call = m; place = j; byte = b; reply = s.reply; unit = s.unit; image = s.image }
between m j b o s n area =
    let r : List ℕ = o.reply ++ s.reply in
    ap (λ (l : List ℕ). record { call = m; place = j; byte = b; reply = l; unit = s.unit; image = s.image })
    (ap (drop (length o.reply)) (take-append_seam r (drop (length r) area)) ∙ drop-append_seam o.reply s.reply)

-- so the entries of a run are its steps
module _ (m : ℕ) (u : Port) (img bs area : List ℕ) (fronts : ℕ → Left) (n : ℕ) (most : n ≤ length bs)
    (are : (j : ℕ) → j ≤ n → fronts j ≡ answered (run u img (take j bs)) j area) where
  entries_are : (i j : ℕ) → j + i ≡ n → let o = run u img (take j bs) in entries_from m bs fronts j i ≡ steps_of m j o.unit o.image (take i (drop j bs))
  entries_are zero j h = refl
  entries_are (suc i) j h =
      let o : Outcome = run u img (take j bs) in
      let b : ℕ = get_or bs j 0 in
      let s : Outcome = step o.unit o.image b in
      let e : run u img (take (suc j) bs) ≡ says s.unit s.image (o.reply ++ s.reply) = run_suc u img bs j (omega arith) in
      let first : Entry = record { call = m; place = j; byte = b; reply = s.reply; unit = s.unit; image = s.image } in
      let head : entry m j b (fronts j).answer.reply_len (fronts (suc j)) ≡ first =
      ap₂ (λ (f g : Left). entry m j b f.answer.reply_len g) (are j (omega arith)) (are (suc j) (omega arith))
      ∙ (ap (λ (r : Outcome). entry m j b (length o.reply) (answered r (suc j) area)) e ∙ between m j b o s (suc j) area) in
      let tail : entries_from m bs fronts (suc j) i ≡ steps_of m (suc j) s.unit s.image (take i (drop (suc j) bs)) =
      entries_are i (suc j) (omega arith) ∙ ap (λ (r : Outcome). steps_of m (suc j) r.unit r.image (take i (drop (suc j) bs))) e in
      ap₂ (λ (x : Entry) (xs : List Entry). x ∷ xs) head tail
      ∙ ap (λ (l : List ℕ). steps_of m j o.unit o.image (take (suc i) l)) (sym (drop-cons bs j 0 (omega arith)))

-- a front of what a walk took is a walk that stops at its end
front_stops : (room : ℕ) (u : Port) (img bs : List ℕ) (n : ℕ) → Stopped room u img bs (walk_of u img bs n) → (j : ℕ) → j ≤ n → Stopped room u img (take j bs) (walk_of u img bs j)
front_stops room u img bs n s j h =
    let long : length (take j bs) ≡ j = length-take-le j bs (omega (arith, s.most)) in
    record {
      is = ap (run u img) (sym (take_all j (take j bs) (omega arith)));
      most = omega arith;
      before = λ i l. omega (arith, s.before i (omega arith), ap (λ (xs : List ℕ). length (run u img xs).reply) (take-take i j bs (omega arith)));
      why = λ l. absurd (omega arith);
    }

-- a sound unit and an image of the right size
module _ (m : ℕ) {u : Port} (s : Sound u) (img : List ℕ) (size : length img ≡ 20480) where
  -- a call with a small area
  module _ (area : List ℕ) (h : length area < 256) where
    number : refusal u img area ≡ 3
    number = exactly u img area (no_room size h)

    byte_small : (b : ℕ) → byte_call u img area b ≡ refused 3 u img area
    byte_small b = byte_refused u img area b (λ e. omega (arith, number)) ∙ ap (λ (n : ℕ). refused n u img area) number

    run_small : (bs : List ℕ) → run_call u img bs area ≡ refused 3 u img area
    run_small bs = run_refused u img area bs (λ e. omega (arith, number)) ∙ ap (λ (n : ℕ). refused n u img area) number

  -- a call with room
  module _ (area : List ℕ) (h : 256 ≤ length area) where
    fine : refusal u img area ≡ 0
    fine = all_right u img area size h (in_range_lem s)

    one_stops : (b : ℕ) → Stopped (length area) u img (b ∷ []) (walk_of u img (b ∷ []) 1)
    one_stops b = record { is = refl; most = omega arith; before = only; why = λ l. absurd (omega arith) }
      where
        only : (j : ℕ) → j < 1 → 256 ≤ length area - length (run u img (take j (b ∷ []))).reply
        only zero l = omega arith
        only (suc j) l = absurd (omega arith)

    byte_roomy : (b : ℕ) → byte_call u img area b ≡ answered (run u img (b ∷ [])) 1 area
    byte_roomy b = byte_done u img area b fine ∙ ap (λ (o : Outcome). answered o 1 area) (sym (run_one u img b))

    run_stops : (bs : List ℕ) → let n = (walked (length area) u img bs).taken in Stopped (length area) u img bs (walk_of u img bs n)
    run_stops bs =
        let w : Walk = walked (length area) u img bs in
        let st = stopped (length area) u img bs in
        subst (λ (o : Outcome). Stopped (length area) u img bs (record { outcome = o; taken = w.taken })) st.is st

    run_roomy : (bs : List ℕ) (n : ℕ) → Stopped (length area) u img bs (walk_of u img bs n) → run_call u img bs area ≡ answered (run u img (take n bs)) n area
    run_roomy bs n st = run_answers u img bs area (walk_of u img bs n) fine st

  pub call_is : {c : Call} {l : Left} {fronts : ℕ → Left} → Answers u img c l → Fronts u img c l fronts → Called m u img c l (entries_from m (brings c) fronts 0 l.answer.taken)
  call_is {c = byte b area} {l = l} {fronts = fronts} a (of_byte z f) = go (dec_lt (length area) 256)
    where
      go : Dec (length area < 256) → Called m u img (byte b area) l (entries_from m (b ∷ []) fronts 0 l.answer.taken)
      go (yes h) =
          let e : l ≡ refused 3 u img area = a ∙ byte_small area h b in
          small h e (ap (λ (x : Left). entries_from m (b ∷ []) fronts 0 x.answer.taken) e)
      go (no h) =
          let r : 256 ≤ length area = omega arith in
          let e : l ≡ answered (run u img (b ∷ [])) 1 area = a ∙ byte_roomy area r b in
          took 1 r (one_stops area r b) e
          (ap (λ (x : Left). entries_from m (b ∷ []) fronts 0 x.answer.taken) e
          ∙ (ap₂ (λ (n : ℕ) (x : Left). entry m 0 b n x ∷ []) z (f ∙ (a ∙ byte_done u img area b (fine area r)))
          ∙ ap (λ (x : Entry). x ∷ []) (between m 0 b (quiet u img) (step u img b) 1 area)))
  call_is {c = a_run bs area} {l = l} {fronts = fronts} a (of_run f) = go (dec_lt (length area) 256)
    where
      go : Dec (length area < 256) → Called m u img (a_run bs area) l (entries_from m bs fronts 0 l.answer.taken)
      go (yes h) =
          let e : l ≡ refused 3 u img area = a ∙ run_small area h bs in
          small h e (ap (λ (x : Left). entries_from m bs fronts 0 x.answer.taken) e)
      go (no h) =
          let r : 256 ≤ length area = omega arith in
          let n : ℕ = (walked (length area) u img bs).taken in
          let st = run_stops area r bs in
          let e : l ≡ answered (run u img (take n bs)) n area = a ∙ run_roomy area r bs n st in
          let are : (j : ℕ) → j ≤ n → fronts j ≡ answered (run u img (take j bs)) j area =
          λ j q. f j (omega (arith, ap (λ (x : Left). x.answer.taken) e)) ∙ run_answers u img (take j bs) area (walk_of u img bs j) (fine area r) (front_stops (length area) u img bs n st j q) in
          took n r st e
          (ap (λ (x : Left). entries_from m bs fronts 0 x.answer.taken) e
          ∙ entries_are m u img bs area fronts n st.most are n 0 (omega arith))
