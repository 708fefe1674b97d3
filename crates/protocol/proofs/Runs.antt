-- A run is its bytes one by one, because a walk takes the step of each byte in turn; it stops at its end or before the first byte that finds under 256 bytes of room, and these two facts pin it.
use Prim.Native.Nat.{ℕ, zero, suc, ◌+◌, ◌-◌, ◌≤◌, ◌<◌}
use native.Mathlib.Omega.{arith}
use native.Mathlib.Decide.{dec_lt}
use mathlib.Core.Bool.{Bool, true, false, cond}
use mathlib.Core.Path.{◌≡◌, refl, ap, ap₂, sym, ◌∙◌}
use mathlib.Core.List.{List, [], ◌∷◌, ◌++◌, append_assoc, append-nil}
use lib.ListN.{length, take, drop, length-append, length-drop}
use lib.Seq.{take-append_seam, drop-append_seam, drop-drop}
use lib.Dec.{ltb, eqb}
use borrow.Author.Tests.{ltb-true, ltb-false, le-ltb, eqb-true}
use Rattle.slices.specs.Lists.{Bytes}
use Rattle.slices.proofs.Lists.{cond_elim}
use Rattle.unit.specs.declared.Unit.{Unit as Port}
use Rattle.unit.proofs.Ranged.{Sound, sound, in_range_lem}
use Rattle.protocol.specs.Outcome.{Outcome, says}
use Rattle.protocol.specs.Step.{step, run}
use Rattle.protocol.specs.Calls.{Left, left, refusal, refused, answered, byte_call, Walk, walk, walked, run_call}
use Rattle.protocol.specs.Loops.{untaken, joined, looped, byte_calls}
use Rattle.protocol.proofs.Sound.{sound_step, size_step, short_reply}
use Rattle.protocol.proofs.Refusals.{not_refused, all_right, byte_number, byte_done, run_done}

-- a walk in an area with so much room: the run of the bytes that it took, of which each found 256 bytes left, and the next one, if there is one, does not
pub record Stopped (room : ℕ) (u : Port) (img bs : List ℕ) (w : Walk) : Type 0 where
  pub is : w.outcome ≡ run u img (take w.taken bs)
  pub most : w.taken ≤ length bs
  pub before : (j : ℕ) → j < w.taken → 256 ≤ room - length (run u img (take j bs)).reply
  pub why : w.taken < length bs → room - length w.outcome.reply < 256

-- a byte, and a walk after it
abbrev after : Port → List ℕ → ℕ → Walk → Walk
after u img b w = walk w.outcome.unit w.outcome.image ((step u img b).reply ++ w.outcome.reply) (suc w.taken)

stopped_at_once : (room : ℕ) (u : Port) (img bs : List ℕ) → (0 < length bs → room < 256) → Stopped room u img bs (walk u img [] 0)
stopped_at_once room u img bs h =
    record { is = refl; most = omega arith; before = λ j l. absurd (omega arith); why = λ l. omega (arith, h l) }

stopped_after : (room : ℕ) (u : Port) (img : List ℕ) (b : ℕ) (bs : List ℕ) → 256 ≤ room → (w : Walk)
    → Stopped (room - length (step u img b).reply) (step u img b).unit (step u img b).image bs w → Stopped room u img (b ∷ bs) (after u img b w)
stopped_after room u img b bs h w s =
    record {
      is = ap (λ (r : Outcome). says r.unit r.image ((step u img b).reply ++ r.reply)) s.is;
      most = omega (arith, s.most);
      before = found;
      why = λ l. omega (arith, s.why (omega arith), length-append (step u img b).reply w.outcome.reply);
    }
  where
    found : (j : ℕ) → j < suc w.taken → 256 ≤ room - length (run u img (take j (b ∷ bs))).reply
    found zero l = omega arith
    found (suc j) l =
        let o : Outcome = step u img b in
        omega (arith, s.before j (omega arith), length-append o.reply (run o.unit o.image (take j bs)).reply)

pub stopped : (room : ℕ) (u : Port) (img bs : List ℕ) → Stopped room u img bs (walked room u img bs)
stopped room u img [] = stopped_at_once room u img [] (λ l. absurd (omega arith))
stopped room u img (b ∷ bs) =
    let o : Outcome = step u img b in
    let rest = walked (room - length o.reply) o.unit o.image bs in
    let s = stopped (room - length o.reply) o.unit o.image bs in
    cond_elim (Stopped room u img (b ∷ bs)) (ltb room 256) (walk u img [] 0) (after u img b rest)
    (λ t. stopped_at_once room u img (b ∷ bs) (λ l. ltb-true room 256 t))
    (λ t. stopped_after room u img b bs (ltb-false room 256 t) rest s)

-- its reply fits the room
pub walk_fits : (room : ℕ) (u : Port) (img bs : List ℕ) → length (walked room u img bs).outcome.reply ≤ room
walk_fits room u img [] = omega arith
walk_fits room u img (b ∷ bs) =
    let o : Outcome = step u img b in
    let rest = walked (room - length o.reply) o.unit o.image bs in
    let s = walk_fits (room - length o.reply) o.unit o.image bs in
    cond_elim (λ (w : Walk). length w.outcome.reply ≤ room) (ltb room 256) (walk u img [] 0) (after u img b rest)
    (λ t. omega arith)
    (λ t. omega (arith, ltb-false room 256 t, short_reply u img b, length-append o.reply rest.outcome.reply))

-- and no other walk stops so
module _ (room : ℕ) (u : Port) (img bs : List ℕ) where
  not_sooner : (v w : Walk) → Stopped room u img bs v → Stopped room u img bs w → v.taken < w.taken → ⊥
  not_sooner v w s t h =
      omega (arith, s.why (omega (arith, t.most)), t.before v.taken h, ap (λ (o : Outcome). length o.reply) s.is)

  pub one_stop : (v w : Walk) → Stopped room u img bs v → Stopped room u img bs w → v ≡ w
  one_stop v w s t =
      let same : v.taken ≡ w.taken = go (dec_lt v.taken w.taken) (dec_lt w.taken v.taken) in
      let out : v.outcome ≡ w.outcome = s.is ∙ (ap (λ (n : ℕ). run u img (take n bs)) same ∙ sym t.is) in
      ap₂ (λ (o : Outcome) (n : ℕ). record { outcome = o; taken = n }) out same
    where
      go : Dec (v.taken < w.taken) → Dec (w.taken < v.taken) → v.taken ≡ w.taken
      go (yes h) d = absurd (not_sooner v w s t h)
      go (no h) (yes d) = absurd (not_sooner w v t s d)
      go (no h) (no d) = omega arith

  pub walk_is : (w : Walk) → Stopped room u img bs w → walked room u img bs ≡ w
  walk_is w s = one_stop (walked room u img bs) w (stopped room u img bs) s

-- so a run's answer is that of any walk that stops so
pub run_answers : (u : Port) (img bytes area : List ℕ) (w : Walk) → refusal u img area ≡ 0 → Stopped (length area) u img bytes w → run_call u img bytes area ≡ answered w.outcome w.taken area
run_answers u img bytes area w e s =
    run_done u img area bytes e ∙ ap (λ (v : Walk). answered v.outcome v.taken area) (walk_is (length area) u img bytes w s)

-- a walk as the answer of a call
abbrev answer : List ℕ → Walk → Left
answer area w = answered w.outcome w.taken area

-- the loop, at a byte: it stops where the byte is refused, and else goes on in the rest of the area
module _ (u : Port) (img : List ℕ) (b : ℕ) (bs area : List ℕ) where
  loop_stops : (refusal u img area ≡ 0 → ⊥) → looped u img (b ∷ bs) area ≡ untaken u img area
  loop_stops h =
      cond_elim (λ (l : Left). l ≡ untaken u img area) (eqb (byte_call u img area b).answer.refusal 0) _ _
      (λ t. absurd (h (sym (byte_number u img area b) ∙ eqb-true (byte_call u img area b).answer.refusal 0 t)))
      (λ t. refl)

  loop_goes_on : refusal u img area ≡ 0
      → let o = step u img b in looped u img (b ∷ bs) area ≡ joined (answered o 1 area) (looped o.unit o.image bs (drop (length o.reply) area))
  loop_goes_on h =
      let o : Outcome = step u img b in
      ap go (byte_done u img area b h)
      ∙ ap (λ (rest : List ℕ). joined (answered o 1 area) (looped o.unit o.image bs rest)) (drop-append_seam o.reply (drop (length o.reply) area))
    where
      go : Left → Left
      go l =
          let rest = looped l.answer.unit l.image bs (drop l.answer.reply_len l.area) in
          cond (eqb l.answer.refusal 0) (joined l rest) (untaken u img area)

-- a byte's answer, and a walk's in the rest of the area, joined
joined_answer : (u : Port) (img : List ℕ) (b : ℕ) (area : List ℕ) (w : Walk)
    → let o = step u img b in joined (answered o 1 area) (answer (drop (length o.reply) area) w) ≡ answer area (after u img b w)
joined_answer u img b area w =
    let r : List ℕ = (step u img b).reply in
    let s : List ℕ = w.outcome.reply in
    let rest : List ℕ = drop (length r) area in
    let n : length r + length s ≡ length (r ++ s) = sym (length-append r s) in
    ap₂ (λ (n : ℕ) (l : List ℕ). left (record { refusal = 0; unit = w.outcome.unit; taken = suc w.taken; reply_len = n }) w.outcome.image l) n
    (ap (λ (front : List ℕ). front ++ (s ++ drop (length s) rest)) (take-append_seam r rest)
    ∙ (sym (append_assoc r s (drop (length s) rest))
    ∙ ap (λ (l : List ℕ). (r ++ s) ++ l) (drop-drop (length s) (length r) area ∙ ap (λ (n : ℕ). drop n area) n)))

loop_is_walk : {u : Port} → Sound u → (img : List ℕ) → length img ≡ 20480 → (bs : List ℕ) → Bytes bs → (area : List ℕ) → looped u img bs area ≡ answer area (walked (length area) u img bs)
loop_is_walk s img size [] y area = refl
loop_is_walk {u} s img size (b ∷ bs) y area =
    let o : Outcome = step u img b in
    let n : ℕ = length o.reply in
    let rest : Walk = walked (length area - n) o.unit o.image bs in
    let later = loop_is_walk {u = o.unit} (sound_step s img b y.0) o.image (size_step u img b ∙ size) bs y.1 (drop n area) in
    cond_elim (λ (w : Walk). looped u img (b ∷ bs) area ≡ answer area w) (ltb (length area) 256) (walk u img [] 0) (after u img b rest)
    (λ t. loop_stops u img b bs area (λ e. omega (arith, ltb-true (length area) 256 t, (not_refused u img area e).1)))
    (λ t.
    loop_goes_on u img b bs area (all_right u img area size (ltb-false (length area) 256 t) (in_range_lem s))
    ∙ (ap (joined (answered o 1 area)) (later ∙ ap (λ (room : ℕ). answer (drop n area) (walked room o.unit o.image bs)) (length-drop n area))
    ∙ joined_answer u img b area rest))

-- a run is byte called in a loop, whatever is lent: the premises say only that a byte is a byte and that 259 are collected
pub run_is_bytes : (u : Port) → length u.collected ≡ 259 → Bytes u.collected → (img bytes : List ℕ) → Bytes bytes → (area : List ℕ) → run_call u img bytes area ≡ byte_calls u img bytes area
unfolding run_call byte_calls
run_is_bytes u room got img bytes y area = go (eqb (refusal u img area) 0) refl
  where
    never : Left
    never = refused (refusal u img area) u img area

    go : (t : Bool) → eqb (refusal u img area) 0 ≡ t → cond t (answer area (walked (length area) u img bytes)) never ≡ cond t (looped u img bytes area) never
    go true e =
        let w = not_refused u img area (eqb-true (refusal u img area) 0 e) in
        sym (loop_is_walk (sound u w.2 room got) img w.0 bytes y area)
    go false e = refl

-- a run of one byte is that byte's call: a call that is not refused has room for it
pub run_of_one : (u : Port) (img area : List ℕ) (b : ℕ) → run_call u img (b ∷ []) area ≡ byte_call u img area b
unfolding run_call byte_call
run_of_one u img area b = go (eqb (refusal u img area) 0) refl
  where
    never : Left
    never = refused (refusal u img area) u img area

    go : (t : Bool) → eqb (refusal u img area) 0 ≡ t → cond t (answer area (walked (length area) u img (b ∷ []))) never ≡ cond t (answered (step u img b) 1 area) never
    go true e = rw (le-ltb (length area) 256 (not_refused u img area (eqb-true (refusal u img area) 0 e)).1, append-nil) refl
    go false e = refl
