-- A run's loop: before each byte the walk from here, joined to what has been said and taken, is the walk from the start; a byte more keeps that, and where the loop stops the walk from here is empty.
use mathlib.Core.Path.{◌≡◌, refl, ap, ◌∙◌, sym}
use mathlib.Core.List.{List, [], ◌++◌, append_assoc, append-nil}
use Prim.Native.Nat.{ℕ, suc, ◌+◌, ◌-◌, ◌<◌, ◌≤◌}
use native.Mathlib.Nat.{add-zero, zero-add, sub-zero}
use native.Mathlib.Numerals.{add-one}
use native.Mathlib.Omega.{arith}
use lib.ListN.{length, get_or, take, drop, length-append, length-drop, drop_of_length-le}
use lib.Seq.{take_all, drop-cons, take_at, drop_at, drop-drop}
use borrow.Author.Tests.{lt-ltb, le-ltb}
use Rattle.unit.specs.declared.Unit.{Unit as Port}
use Rattle.unit.proofs.Ranged.{Sound, in_range_lem}
use Rattle.protocol.specs.Step.{step}
use Rattle.protocol.specs.Calls.{Left, answered, Walk, walk, walked}
use Rattle.protocol.proofs.Sound.{sound_step}
use Rattle.port.specs.Parts.{done, landed, Fine}

-- a walk after so much has been said and taken
abbrev pub after : List ℕ → ℕ → Walk → Walk
after said n w = walk w.outcome.unit w.outcome.image (said ++ w.outcome.reply) (n + w.taken)

module _ (room : ℕ) (u : Port) (img bytes said : List ℕ) (n : ℕ) where
  pub walk_stops : n < length bytes → room < 256 → after said n (walked room u img (drop n bytes)) ≡ walk u img said n
  walk_stops h r = rw (drop-cons bytes n 0 h, lt-ltb room 256 r, append-nil, add-zero)

  walk_more : n < length bytes → 256 ≤ room
      → after said n (walked room u img (drop n bytes))
      ≡ after (said ++ (step u img (get_or bytes n 0)).reply) (n + 1) (walked (room - length (step u img (get_or bytes n 0)).reply) (step u img (get_or bytes n 0)).unit (step u img (get_or bytes n 0)).image (drop (n + 1) bytes))
  walk_more h r =
      let o = step u img (get_or bytes n 0) in
      let w : Walk = walked (room - length o.reply) o.unit o.image (drop (suc n) bytes) in
      let m : n + suc w.taken ≡ n + 1 + w.taken = omega arith in
      rw (drop-cons bytes n 0 h, le-ltb room 256 r)
      (ap (walk w.outcome.unit w.outcome.image (said ++ (o.reply ++ w.outcome.reply))) m
      ∙ (ap (λ (l : List ℕ). walk w.outcome.unit w.outcome.image l (n + 1 + w.taken)) (sym (append_assoc said o.reply w.outcome.reply))
      ∙ ap (λ (k : ℕ). after (said ++ o.reply) (n + 1) (walked (room - length o.reply) o.unit o.image (drop k bytes))) (sym (add-one n))))

-- where a run stands before a byte
pub record Running (img₀ bytes area₀ : List ℕ) (u₀ : Port) (img area : List ℕ) (u : Port) (taken used : ℕ) : Type 0 where
  pub said : List ℕ
  pub spoken : length said ≡ used
  pub fits : used ≤ length area₀
  pub area_is : area ≡ said ++ drop used area₀
  pub long : length area ≡ length area₀
  pub sized : length img ≡ 20480
  pub kept : length img ≡ length img₀
  pub sound : Sound u
  pub within : taken ≤ length bytes
  pub rest : after said taken (walked (length area₀ - used) u img (drop taken bytes)) ≡ walked (length area₀) u₀ img₀ bytes

-- the part that is lent to the step
part_is : (area₀ said area : List ℕ) (used k : ℕ) → length said ≡ used → area ≡ said ++ drop used area₀ → length area ≤ used + k → take k (drop used area) ≡ drop used area₀
part_is area₀ said area used k l e h =
    take_all k (drop used area) (rw length-drop (omega arith)) ∙ ap (drop used) e ∙ drop_at said (drop used area₀) used l

-- the area, once the part that was lent is back with a reply at its front
area_more : (area₀ said rep area : List ℕ) (used k : ℕ) → length said ≡ used → area ≡ said ++ drop used area₀ → length area ≤ used + k
    → take used area ++ ((rep ++ drop (length rep) (drop used area₀)) ++ drop k (drop used area)) ≡ (said ++ rep) ++ drop (used + length rep) area₀
area_more area₀ said rep area used k l e h =
    let t : take used area ≡ said = ap (take used) e ∙ take_at said (drop used area₀) used l in
    let z : drop k (drop used area) ≡ [] = drop_of_length-le (drop used area) {i = k} (rw length-drop (omega arith)) in
    rw (z, t, append-nil, drop-drop, append_assoc)

module _ (img₀ bytes area₀ : List ℕ) (u₀ : Port) (img area : List ℕ) (u : Port) (taken used : ℕ) (r : Running img₀ bytes area₀ u₀ img area u taken used) where
  -- a turn: one byte more
  pub turn : taken < length bytes → 256 ≤ length area - used → get_or bytes taken 0 < 256 → (v : Port) (k : ℕ) (img' ys : List ℕ)
      → done v 1 k img' ys ≡ answered (step u img (get_or bytes taken 0)) 1 (take (length area - used) (drop used area))
      → length img' ≡ length img → length ys ≡ length (take (length area - used) (drop used area))
      → Running img₀ bytes area₀ u₀ img' (take used area ++ (ys ++ drop (length area - used) (drop used area))) v (taken + 1) (used + k)
  turn more room small v k img' ys e li ly =
      let b : ℕ = get_or bytes taken 0 in
      let rep : List ℕ = (step u img b).reply in
      let p : take (length area - used) (drop used area) ≡ drop used area₀ = part_is area₀ r.said area used (length area - used) r.spoken r.area_is (omega arith) in
      let fu : v ≡ (step u img b).unit = ap (λ (o : Left). o.answer.unit) e in
      let fn : k ≡ length rep = ap (λ (o : Left). o.answer.reply_len) e in
      let fi : img' ≡ (step u img b).image = ap (λ (o : Left). o.image) e in
      let fy : ys ≡ rep ++ drop (length rep) (drop used area₀) = ap (λ (o : Left). o.area) e ∙ rw p in
      let ln : length rep + (length area₀ - used - length rep) ≡ length area₀ - used =
      sym (ap length fy ∙ simp (length-append, length-drop)) ∙ ly ∙ ap length p ∙ length-drop used area₀ in
      let ai : take used area ++ (ys ++ drop (length area - used) (drop used area)) ≡ (r.said ++ rep) ++ drop (used + k) area₀ =
      rw (fy, fn) (area_more area₀ r.said rep area used (length area - used) r.spoken r.area_is (omega arith)) in
      let left_over : length area₀ - (used + k) ≡ length area₀ - used - length rep = omega arith in
      record {
        said = r.said ++ rep;
        spoken = rw (length-append, r.spoken, fn);
        fits = omega arith;
        area_is = ai;
        long = ap length ai ∙ simp (length-append, length-drop) (omega arith);
        sized = li ∙ r.sized;
        kept = li ∙ r.kept;
        sound = rw fu (sound_step r.sound img b small);
        within = omega arith;
        rest = rw (left_over, fu, fi, ← walk_more (length area₀ - used) u img bytes r.said taken more (omega arith)) r.rest;
      }

  -- where a run stops
  pub stopped : after r.said taken (walked (length area₀ - used) u img (drop taken bytes)) ≡ walk u img r.said taken
      → done u taken used img area ≡ landed (walked (length area₀) u₀ img₀ bytes) area₀
  stopped e = rw (sym r.rest ∙ e, r.spoken, r.area_is)

  -- what the next byte is given: the unit, the image, and what is left of the area
  pub next_given : 256 ≤ length area - used → Fine u img (take (length area - used) (drop used area))
  next_given room =
      record {
        ranged = in_range_lem r.sound;
        long = r.sound.room;
        bytes = r.sound.bytes;
        image = r.sized;
        room = rw (part_is area₀ r.said area used (length area - used) r.spoken r.area_is (omega arith), length-drop) (omega arith);
      }

-- before the first byte
pub begins : (u : Port) (img bytes area : List ℕ) → Fine u img area → Sound u → Running img bytes area u img area u 0 0
begins u img bytes area f s =
    let w : Walk = walked (length area) u img bytes in
    record {
      said = [];
      spoken = refl;
      fits = omega arith;
      area_is = refl;
      long = refl;
      sized = f.image;
      kept = refl;
      sound = s;
      within = omega arith;
      rest = ap (λ (room : ℕ). after [] 0 (walked room u img bytes)) (sub-zero (length area)) ∙ ap (λ (k : ℕ). walk w.outcome.unit w.outcome.image w.outcome.reply k) (zero-add w.taken);
    }
