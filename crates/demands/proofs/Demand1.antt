-- The calls compute their number by the table of reasons, so each number has its reason and each reason its number; a refusal leaves what `refused` writes out.
use Prim.Native.Nat.{ℕ, ◌≤◌, ◌<◌}
use native.Mathlib.Omega.{arith}
use mathlib.Core.Bool.{Bool, true, false, false≢true}
use mathlib.Core.Path.{◌≡◌, refl, ap, sym, ◌∙◌, subst⁻¹}
use mathlib.Core.Logic.{◌≢◌, ◌⊎◌, inl, inr}
use lib.Dec.{eqb}
use borrow.Author.Tests.{eqb-true, eqb-false}
use mathlib.Core.List.{List}
use lib.ListN.{length}
use Rattle.unit.specs.declared.Unit.{Unit as Port}
use Rattle.unit.specs.declared.Inputs.{Inputs}
use Rattle.unit.specs.Range.{in_range}
use Rattle.protocol.specs.declared.Started.{Started}
use Rattle.protocol.specs.Calls.{start_refusal, refusal, Left, refused, StartEnsures, ByteEnsures, RunEnsures}
use Rattle.protocol.proofs.Reasons.{StartReason, Reason}
use Rattle.protocol.proofs.Reasons.StartReason.{fine as start_fine, image as start_image, protection}
use Rattle.protocol.proofs.Reasons.Reason.{fine, image, room, range}
use Rattle.protocol.proofs.Refusals.{start_reason, start_exactly, start_number, start_done, start_refused, reason, exactly, byte_number, run_number, byte_done, byte_refused, run_refused}
use Rattle.demands.specs.Record.{InRange, Idle, Fresh}
use Rattle.demands.specs.Flash.{Blank}
use Rattle.packets.specs.Readings.{Bytes}
use Rattle.unit.proofs.Ranged.{Sound}
use Rattle.unit.proofs.Builders.{sound_fresh, sound_idle}
use Rattle.demands.specs.Histories.{Call, brings, area_of, Answers, Fit}
use Rattle.demands.specs.Histories.Call.{byte, run as a_run}
use Rattle.demands.specs.Refusals.{HandsBack, StartExact, Exact}
use Rattle.demands.proofs.Records.{in_range_lem, fresh_is, idle_is}
use Rattle.demands.proofs.Bridge.{given_bytes, fit_sound, sound_fit, called_sound, called_size, call_called}

-- a start
module _ (img : List ℕ) (inputs : Inputs) where
  -- each number's reason, in the demands' words
  start_none : {n : ℕ} → StartReason img inputs n → n ≡ 0 → (length img ≡ 20480) × (inputs.protection ≤ 15)
  start_none (start_fine s p) e = (s, p)
  start_none (start_image s) e = absurd (omega arith)
  start_none (protection s p) e = absurd (omega arith)

  start_one : {n : ℕ} → StartReason img inputs n → n ≡ 1 → length img ≢ 20480
  start_one (start_fine s p) e = absurd (omega arith)
  start_one (start_image s) e = s
  start_one (protection s p) e = absurd (omega arith)

  start_two : {n : ℕ} → StartReason img inputs n → n ≡ 2 → (length img ≡ 20480) × (15 < inputs.protection)
  start_two (start_fine s p) e = absurd (omega arith)
  start_two (start_image s) e = absurd (omega arith)
  start_two (protection s p) e = (s, p)

  -- "A call refuses a wrong image size, a protection number out of range [..], and only then. A refusal hands back [..] (at start, the fixed idle unit)."
  pub start_exact : (r : Started) → StartEnsures img inputs r → StartExact img inputs r
  start_exact r q =
      record {
        none = (λ e. start_none start (sym number ∙ e), λ w. by (start_fine w.0 w.1));
        image = (λ e. start_one start (sym number ∙ e), λ w. by (start_image w));
        protection = (λ e. start_two start (sym number ∙ e), λ w. by (protection w.0 w.1));
        answer = answer start refl;
      }
    where
      start : StartReason img inputs (start_refusal img inputs)
      start = start_reason img inputs

      number : r.refusal ≡ start_refusal img inputs
      number = ap (λ (x : Started). x.refusal) q ∙ start_number img inputs

      by : {n : ℕ} → StartReason img inputs n → r.refusal ≡ n
      by x = number ∙ start_exactly img inputs x

      idling : (start_refusal img inputs ≡ 0 → ⊥) → Idle r.unit
      idling f = subst⁻¹ Idle (ap (λ (x : Started). x.unit) (q ∙ start_refused img inputs f)) idle_is

      answer : {n : ℕ} → StartReason img inputs n → start_refusal img inputs ≡ n
          → ((r.refusal ≡ 0) × Fresh (Blank img) inputs.protection r.unit) ⊎ (((r.refusal ≡ 1) ⊎ (r.refusal ≡ 2)) × Idle r.unit)
      answer (start_fine s p) e =
          inl (number ∙ e, subst⁻¹ (Fresh (Blank img) inputs.protection) (ap (λ (x : Started). x.unit) (q ∙ start_done img inputs e)) (fresh_is img inputs s))
      answer (start_image s) e = inr (inl (number ∙ e), idling (λ z. omega arith))
      answer (protection s p) e = inr (inr (number ∙ e), idling (λ z. omega arith))

-- a byte or a run
module _ (u : Port) (img area : List ℕ) where
  out_of_range : in_range u ≡ false → InRange u → ⊥
  out_of_range e r = false≢true (sym e ∙ (in_range_lem u).0 r)

  not_in_range : (InRange u → ⊥) → in_range u ≡ false
  not_in_range f = go (in_range u) refl
    where
      go : (t : Bool) → in_range u ≡ t → in_range u ≡ false
      go true e = absurd (f ((in_range_lem u).1 e))
      go false e = e

  for_none : {n : ℕ} → Reason u img area n → n ≡ 0 → (length img ≡ 20480) × (256 ≤ length area) × InRange u
  for_none (fine s h r) e = (s, h, (in_range_lem u).1 r)
  for_none (image s) e = absurd (omega arith)
  for_none (room s h) e = absurd (omega arith)
  for_none (range s h r) e = absurd (omega arith)

  for_image : {n : ℕ} → Reason u img area n → n ≡ 1 → length img ≢ 20480
  for_image (fine s h r) e = absurd (omega arith)
  for_image (image s) e = s
  for_image (room s h) e = absurd (omega arith)
  for_image (range s h r) e = absurd (omega arith)

  for_room : {n : ℕ} → Reason u img area n → n ≡ 3 → (length img ≡ 20480) × (length area < 256)
  for_room (fine s h r) e = absurd (omega arith)
  for_room (image s) e = absurd (omega arith)
  for_room (room s h) e = (s, h)
  for_room (range s h r) e = absurd (omega arith)

  for_range : {n : ℕ} → Reason u img area n → n ≡ 4 → (length img ≡ 20480) × (256 ≤ length area) × (InRange u → ⊥)
  for_range (fine s h r) e = absurd (omega arith)
  for_range (image s) e = absurd (omega arith)
  for_range (room s h) e = absurd (omega arith)
  for_range (range s h r) e = (s, h, out_of_range r)

  -- a refusal hands everything back
  pub hands_back : (n : ℕ) → HandsBack u img area (refused n u img area)
  hands_back n = record { unit = refl; taken = refl; reply = refl; image = refl; area_kept = refl }

  -- what has the call's number, and is a refusal where that is not 0
  exact : (l : Left) → l.answer.refusal ≡ refusal u img area → ((refusal u img area ≡ 0 → ⊥) → l ≡ refused (refusal u img area) u img area) → Exact u img area l
  exact l number back =
      record {
        none = (λ e. for_none why (sym number ∙ e), λ w. by (fine w.0 w.1 ((in_range_lem u).0 w.2)));
        image = (λ e. for_image why (sym number ∙ e), λ w. by (image w));
        room = (λ e. for_room why (sym number ∙ e), λ w. by (room w.0 w.1));
        range = (λ e. for_range why (sym number ∙ e), λ w. by (range w.0 w.1 (not_in_range w.2)));
        answer = answer why refl;
      }
    where
      why : Reason u img area (refusal u img area)
      why = reason u img area

      by : {n : ℕ} → Reason u img area n → l.answer.refusal ≡ n
      by x = number ∙ exactly u img area x

      given : (refusal u img area ≡ 0 → ⊥) → HandsBack u img area l
      given f = subst⁻¹ (HandsBack u img area) (back f) (hands_back (refusal u img area))

      answer : {n : ℕ} → Reason u img area n → refusal u img area ≡ n
          → (l.answer.refusal ≡ 0) ⊎ (((l.answer.refusal ≡ 1) ⊎ (l.answer.refusal ≡ 3) ⊎ (l.answer.refusal ≡ 4)) × HandsBack u img area l)
      answer (fine s h r) e = inl (number ∙ e)
      answer (image s) e = inr (inl (number ∙ e), given (λ z. omega arith))
      answer (room s h) e = inr (inr (inl (number ∙ e)), given (λ z. omega arith))
      answer (range s h r) e = inr (inr (inr (number ∙ e)), given (λ z. omega arith))

  -- "A call refuses a wrong image size, [..] too little reply room, a unit record out of its ranges, [..] and only then.
  -- A refusal hands back the unit as given [..], no reply, and image and reply area unchanged."
  pub byte_exact : (b : ℕ) (l : Left) → ByteEnsures u img area b l.answer l.image l.area → Exact u img area l
  byte_exact b l q = exact l (ap (λ (x : Left). x.answer.refusal) q ∙ byte_number u img area b) (λ f. q ∙ byte_refused u img area b f)

  -- the same of a run, of no bytes too
  pub run_exact : (bytes : List ℕ) (l : Left) → RunEnsures u img area bytes l.answer l.image l.area → Exact u img area l
  run_exact bytes l q = exact l (ap (λ (x : Left). x.answer.refusal) q ∙ run_number u img area bytes) (λ f. q ∙ run_refused u img area bytes f)

  -- a byte call takes its byte exactly where it is not refused
  pub byte_takes : (b : ℕ) (l : Left) → ByteEnsures u img area b l.answer l.image l.area
      → ((l.answer.refusal ≡ 0) × (l.answer.taken ≡ 1)) ⊎ ((l.answer.refusal ≢ 0) × (l.answer.taken ≡ 0))
  byte_takes b l q = go (eqb l.answer.refusal 0) refl
    where
      number : l.answer.refusal ≡ refusal u img area
      number = ap (λ (x : Left). x.answer.refusal) q ∙ byte_number u img area b

      go : (t : Bool) → eqb l.answer.refusal 0 ≡ t → ((l.answer.refusal ≡ 0) × (l.answer.taken ≡ 1)) ⊎ ((l.answer.refusal ≢ 0) × (l.answer.taken ≡ 0))
      go true t =
          let e : l.answer.refusal ≡ 0 = eqb-true l.answer.refusal 0 t in
          inl (e, ap (λ (x : Left). x.answer.taken) (q ∙ byte_done u img area b (sym number ∙ e)))
      go false t =
          let n : l.answer.refusal ≢ 0 = eqb-false l.answer.refusal 0 t in
          inr (n, ap (λ (x : Left). x.answer.taken) (q ∙ byte_refused u img area b (λ z. n (number ∙ z))))

-- the same of either call
pub call_exact : (u : Port) (img : List ℕ) (c : Call) (l : Left) → Answers u img c l → Exact u img (area_of c) l
call_exact u img (byte b area) l q = byte_exact u img area b l q
call_exact u img (a_run bs area) l q = run_exact u img area bs l q

-- U7 at the call, of a byte and of a run: a call that is not refused answers a unit in range, and leaves an image of the right size
pub call_stays : (u : Port) (img : List ℕ) (c : Call) (l : Left) → length u.collected ≡ 259 → Bytes u.collected → Bytes (brings c)
    → Answers u img c l → l.answer.refusal ≡ 0 → Fit l.answer.unit l.image
call_stays u img c l wide got given q e =
    let w = (call_exact u img c l q).none.0 e in
    let f : Fit u img = record { range = w.2; room = wide; bytes = got; size = w.0 } in
    let k = (call_called f c l q).1 in
    sound_fit (called_sound (fit_sound f) (given_bytes (brings c) given) k) (called_size k ∙ f.size)

-- every start, refused or not, hands out a unit in range: the fresh one or the idle one
pub start_fits : (img : List ℕ) (inputs : Inputs) (r : Started) → StartEnsures img inputs r → (lent : List ℕ) → length lent ≡ 20480 → Fit r.unit lent
start_fits img inputs r q lent size = go (start_reason img inputs) refl
  where
    idling : (start_refusal img inputs ≡ 0 → ⊥) → Fit r.unit lent
    idling n = sound_fit (subst⁻¹ Sound (ap (λ (x : Started). x.unit) (q ∙ start_refused img inputs n)) sound_idle) size

    go : {n : ℕ} → StartReason img inputs n → start_refusal img inputs ≡ n → Fit r.unit lent
    go (start_fine s p) e = sound_fit (subst⁻¹ Sound (ap (λ (x : Started). x.unit) (q ∙ start_done img inputs e)) (sound_fresh img inputs p)) size
    go (start_image s) e = idling (λ z. omega arith)
    go (protection s p) e = idling (λ z. omega arith)
