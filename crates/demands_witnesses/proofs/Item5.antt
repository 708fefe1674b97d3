-- The premises of Item 5's theorems can be met: histories on the image of the sessions, computed. After two wrong ID packets the right one opens; after three it does not;
-- wrong ones while open count, and right ones between them do not set the count back.
use Prim.Native.Nat.{ℕ, zero, suc, ◌≤◌, ◌<◌}
use native.Mathlib.Omega.{arith}
use mathlib.Core.Bool.{Bool, true, ◌&&◌, decide, decide_iff}
use mathlib.Core.Path.{◌≡◌, refl, ap, sym, ◌∙◌, subst, subst⁻¹}
use mathlib.Core.List.{List, [], ◌∷◌, ◌++◌, map}
use lib.ListN.{length, take}
use lib.Dec.{ltb}
use borrow.Author.Tests.{ltb-true}
use Rattle.packets.specs.Pieces.{Packet, check}
use Rattle.packets.specs.Readings.{Log, opened, log_bytes, Reads}
use Rattle.packets.specs.Counts.{checks}
use Rattle.packets.proofs.Decisions.{reads?}
use Rattle.packets.proofs.Openings.{opening_front}
use Rattle.slices.proofs.Lists.{and_both}
use Rattle.flash.specs.Blocks.{sized, holds, find, place_of}
use Rattle.flash.specs.Image.{byte_at, stored_id, is_blank}
use Rattle.unit.specs.declared.Unit.{Unit as Port}
use Rattle.unit.specs.Phases.{command_of, need}
use Rattle.unit.specs.Model.{inputs, begun, fresh, phased, longer, ended, is_open}
use Rattle.unit.specs.Range.{packet_fits, position_fits, srd_fits, srd1_fits, registers_fit, blank_fits, settings_fit, in_range}
use Rattle.protocol.specs.Commands.{commands, meaning, needs_open, effect, dropped, commanded}
use Rattle.protocol.specs.Endings.{right_id, is_right, judged, counted, after_check, finished}
use Rattle.protocol.specs.Step.{wakes, asleep, body, completes, in_packet, step_at, step}
use Rattle.protocol.specs.Calls.{refusal, byte_call, run_call}
use Rattle.protocol.specs.Sessions.{image}
use Rattle.demands.specs.Flash.{ids}
use Rattle.demands.specs.Histories.{Entry, History, unit_after, taken}
use Rattle.demands.specs.Locking.{FirstLocked}
use Rattle.demands.specs.Opening.{FirstOpen, OpeningInTime}
use Rattle.demands.proofs.Traces.{taken_long}
use Rattle.demands.proofs.Bridge.{entries_of, start_fresh, trace_is}
use Rattle.demands.proofs.Demand3.{opens_exactly}
use Rattle.demands_witnesses.proofs.Demand3.{calls, woken, history, filled}

-- the right ID packet; another last ID byte; size 0; another address, and one byte
abbrev right_id_lem : List ℕ
right_id_lem = 0xF5 ∷ 0xDF ∷ 0xFF ∷ 0x00 ∷ 0x07 ∷ 0x31 ∷ 0x32 ∷ 0x33 ∷ 0x34 ∷ 0x35 ∷ 0x36 ∷ 0x37 ∷ []

abbrev other_byte : List ℕ
other_byte = 0xF5 ∷ 0xDF ∷ 0xFF ∷ 0x00 ∷ 0x07 ∷ 0x31 ∷ 0x32 ∷ 0x33 ∷ 0x34 ∷ 0x35 ∷ 0x36 ∷ 0x38 ∷ []

abbrev no_bytes : List ℕ
no_bytes = 0xF5 ∷ 0xDF ∷ 0xFF ∷ 0x00 ∷ 0x00 ∷ []

abbrev other_address : List ℕ
other_address = 0xF5 ∷ 0xDE ∷ 0xFF ∷ 0x00 ∷ 0x01 ∷ 0x31 ∷ []

-- and the packets that they are
abbrev two_wrong : List Packet
two_wrong = check 0xDF 0xFF 0x00 (0x31 ∷ 0x32 ∷ 0x33 ∷ 0x34 ∷ 0x35 ∷ 0x36 ∷ 0x38 ∷ []) ∷ check 0xDF 0xFF 0x00 [] ∷ []

abbrev three_wrong : List Packet
three_wrong = two_wrong ++ check 0xDE 0xFF 0x00 (0x31 ∷ []) ∷ []

-- after two, the right one opens the unit, at the 46th byte taken
unfoldable pub after_two : List ℕ
after_two = other_byte ++ (no_bytes ++ right_id_lem)

pub two : History image (inputs 0) (calls after_two)
unfolding image after_two
two = history image 0 after_two refl (omega arith) refl

two_taken : taken (entries_of 0 (fresh image (inputs 0)) image (calls after_two)) ≡ woken after_two
unfolding after_two calls image sized holds find place_of byte_at stored_id is_blank begun fresh phased longer ended is_open command_of need packet_fits position_fits srd_fits srd1_fits registers_fit blank_fits settings_fit in_range commands meaning needs_open effect dropped commanded right_id is_right judged counted after_check finished wakes asleep body completes in_packet step_at step refusal byte_call run_call
two_taken = refl

abbrev log_of : List Packet → List ℕ → Log
log_of ps unread = opened [] (record { zeros = 16; last = 0xB0 }) ps unread

two_reads : Reads (ids image) (log_of two_wrong [])
unfolding image reads? decide
two_reads = (decide_iff (reads? (ids image) (log_of two_wrong []))).0 refl

pub two_opens : (h : History image (inputs 0) (calls after_two)) → FirstOpen h.started.unit h.calls.trace 46
unfolding image after_two
two_opens h =
    let e : taken h.calls.trace ≡ woken after_two = ap taken (trace_is h) ∙ two_taken in
    (opens_exactly h filled 46 (omega (arith, taken_long h.calls.trace, ap length e))).1
    (subst (λ (l : List ℕ). OpeningInTime (ids image) (take 46 l)) (sym e)
    (record { opening = record { dull = []; wake = record { zeros = 16; last = 0xB0 }; packets = two_wrong; reads = two_reads; whole = refl }; few = omega arith }))

-- after three it does not, nor does anything that follows
unfoldable pub after_three : List ℕ
after_three = other_byte ++ (no_bytes ++ (other_address ++ (right_id_lem ++ 0x70 ∷ [])))

pub three : History image (inputs 0) (calls after_three)
unfolding image after_three
three = history image 0 after_three refl (omega arith) refl

three_taken : taken (entries_of 0 (fresh image (inputs 0)) image (calls after_three)) ≡ woken after_three
unfolding after_three calls image sized holds find place_of byte_at stored_id is_blank begun fresh phased longer ended is_open command_of need packet_fits position_fits srd_fits srd1_fits registers_fit blank_fits settings_fit in_range commands meaning needs_open effect dropped commanded right_id is_right judged counted after_check finished wakes asleep body completes in_packet step_at step refusal byte_call run_call
three_taken = refl

three_reads : Reads (ids image) (log_of three_wrong (0x70 ∷ []))
unfolding image reads? decide
three_reads = (decide_iff (reads? (ids image) (log_of three_wrong (0x70 ∷ [])))).0 refl

three_whole : woken after_three ≡ log_bytes (ids image) (log_of three_wrong (0x70 ∷ []))
unfolding image after_three
three_whole = refl

pub three_never_open : (h : History image (inputs 0) (calls after_three)) (k : ℕ) → k ≤ length h.calls.trace → FirstOpen h.started.unit h.calls.trace k → ⊥
three_never_open h k l f =
    let e : taken h.calls.trace ≡ woken after_three = ap taken (trace_is h) ∙ three_taken in
    let o : OpeningInTime (ids image) (take k (woken after_three)) = subst (λ (l : List ℕ). OpeningInTime (ids image) (take k l)) e ((opens_exactly h filled k l).0 f) in
    let q = opening_front (ids image) (woken after_three) refl k o.opening (record { log = log_of three_wrong (0x70 ∷ []); reads = three_reads; whole = three_whole }) in
    let p : three_wrong ≡ o.opening.packets = cc in
    omega (arith, o.few, ap checks p)

-- it locks at the 40th byte taken, the last of the third wrong packet
few_before : ℕ → List Entry → Bool
few_before zero es = true
few_before (suc n) [] = true
few_before (suc n) (e ∷ es) = ltb e.unit.registers.mismatches 3 && few_before n es

few_at : (n : ℕ) (u : Port) (es : List Entry) → u.registers.mismatches < 3 → few_before n es ≡ true → (j : ℕ) → j ≤ n → (unit_after u es j).registers.mismatches < 3
unfolding few_before
few_at n u es l t zero h = l
few_at zero u es l t (suc j) h = absurd (omega arith)
few_at (suc n) u [] l t (suc j) h = l
few_at (suc n) u (e ∷ es) l t (suc j) h =
    let w = and_both (ltb e.unit.registers.mismatches 3) (few_before n es) t in
    few_at n e.unit es (ltb-true _ 3 w.0) w.1 j (omega arith)

locks : FirstLocked (fresh image (inputs 0)) (entries_of 0 (fresh image (inputs 0)) image (calls after_three)) 40
unfolding few_before after_three calls image sized holds find place_of byte_at stored_id is_blank begun fresh phased longer ended is_open command_of need packet_fits position_fits srd_fits srd1_fits registers_fit blank_fits settings_fit in_range commands meaning needs_open effect dropped commanded right_id is_right judged counted after_check finished wakes asleep body completes in_packet step_at step refusal byte_call run_call
locks =
    record {
      locked = record { closed = λ o. omega (arith, o); full = refl };
      before = λ j h k. omega (arith, k.full, few_at 39 (fresh image (inputs 0)) (entries_of 0 (fresh image (inputs 0)) image (calls after_three)) (omega arith) refl j (omega arith));
    }

pub three_lock : (h : History image (inputs 0) (calls after_three)) → FirstLocked h.started.unit h.calls.trace 40
three_lock h = subst⁻¹ (λ (u : Port). FirstLocked u h.calls.trace 40) (start_fresh h) (subst⁻¹ (λ (es : List Entry). FirstLocked (fresh image (inputs 0)) es 40) (trace_is h) locks)

-- right, wrong, right, wrong, right, wrong, right
unfoldable pub by_turns : List ℕ
by_turns = right_id_lem ++ (no_bytes ++ (right_id_lem ++ (no_bytes ++ (right_id_lem ++ (no_bytes ++ right_id_lem)))))

pub turns : History image (inputs 0) (calls by_turns)
unfolding image by_turns
turns = history image 0 by_turns refl (omega arith) refl

-- SRD1 and the count after each of them
abbrev pub AfterEach : Port → List Entry → Type 0
AfterEach u es =
    map {B = ℕ × ℕ} (λ (k : ℕ). ((unit_after u es k).registers.srd1, (unit_after u es k).registers.mismatches)) (29 ∷ 34 ∷ 46 ∷ 51 ∷ 63 ∷ 68 ∷ 80 ∷ [])
    ≡ (0x0C, 0) ∷ (0x04, 1) ∷ (0x0C, 1) ∷ (0x04, 2) ∷ (0x0C, 2) ∷ (0x04, 3) ∷ (0x04, 3) ∷ []

turns_computed : AfterEach (fresh image (inputs 0)) (entries_of 0 (fresh image (inputs 0)) image (calls by_turns))
unfolding by_turns calls image sized holds find place_of byte_at stored_id is_blank begun fresh phased longer ended is_open command_of need packet_fits position_fits srd_fits srd1_fits registers_fit blank_fits settings_fit in_range commands meaning needs_open effect dropped commanded right_id is_right judged counted after_check finished wakes asleep body completes in_packet step_at step refusal byte_call run_call
turns_computed = refl

pub turns_count : (h : History image (inputs 0) (calls by_turns)) → AfterEach h.started.unit h.calls.trace
turns_count h = subst⁻¹ (λ (u : Port). AfterEach u h.calls.trace) (start_fresh h) (subst⁻¹ (AfterEach (fresh image (inputs 0))) (trace_is h) turns_computed)
