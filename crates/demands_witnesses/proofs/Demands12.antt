-- The premises can be met: a history with a refused call in between, in which a permitted packet is carried out, and one in which a page program changes 0FFFF, computed on the image of the sessions; and a start's numbers.
use Prim.Native.Nat.{ℕ, ◌+◌, ◌-◌}
use native.Mathlib.Omega.{arith}
use mathlib.Core.Bool.{Bool, true, ◌&&◌}
use mathlib.Core.Path.{◌≡◌, refl, ap, subst, subst⁻¹}
use mathlib.Core.List.{List, [], ◌∷◌, ◌++◌, map}
use lib.ListN.{length, get_or, replicate, drop}
use lib.Dec.{ltb}
use borrow.Author.Tests.{ltb-true}
use Rattle.packets.specs.Pieces.{Each}
use Rattle.packets.specs.Readings.{Bytes}
use Rattle.slices.proofs.Lists.{and_both}
use Rattle.flash.specs.Blocks.{sized, holds, find, place_of, guarded, free}
use Rattle.flash.specs.Image.{byte_at, stored_id, is_blank, programmed, permitted, burnt, program}
use Rattle.unit.specs.declared.Unit.{Unit as Port}
use Rattle.unit.specs.Phases.{command_of, need}
use Rattle.unit.specs.Model.{begun, fresh, inputs, idle, with_srd, phased, longer, ended, is_open, standing}
use Rattle.unit.specs.Range.{packet_fits, position_fits, srd_fits, srd1_fits, registers_fit, blank_fits, settings_fit, in_range}
use Rattle.protocol.specs.declared.Started.{Started}
use Rattle.protocol.specs.Commands.{commands, meaning, needs_open, effect, dropped, commanded}
use Rattle.protocol.specs.Endings.{bank_end, programmed_by, programs, right_id, is_right, judged, counted, after_check, finished}
use Rattle.protocol.specs.Step.{wakes, asleep, body, completes, in_packet, step_at, step}
use Rattle.protocol.specs.Calls.{start_refusal, start_call, refusal, Left, byte_call, run_call}
use Rattle.protocol.specs.Sessions.{image}
use Rattle.demands.specs.Flash.{Protected}
use Rattle.demands.specs.Flash.InBlock.{block_0}
use Rattle.demands.specs.Flash.Address.{in_0}
use Rattle.demands.specs.Histories.{Call, brings, Entry, History, unit_after, image_after, bytes_to}
use Rattle.demands.specs.Histories.Call.{byte, run}
use Rattle.demands.specs.Changes.{Begins, Permitted, FullEffect}
use Rattle.demands.specs.Changes.Programs.{bytes}
use Rattle.demands.specs.Changes.Permitted.{program as may_program}
use Rattle.demands.proofs.Bridge.{entries_of, start_fresh, start_protection, start_fit, lefts_are, trace_is}
use Rattle.demands.proofs.Exists.{history_exists}
use Rattle.demands.proofs.Demand2.{protected_kept, full_effect}

-- sixteen zeros and B0; a 70 with one byte too little room; the right ID packet; 0F programmed over F0 at 02000, its last byte by a byte call
unfoldable pub area : List ℕ
area = replicate 256 0xEE

unfoldable pub calls : List Call
unfolding area
calls =
    run (replicate 16 0x00 ++ (0xB0 ∷ [])) area
    ∷ byte 0x70 (replicate 255 0xEE)
    ∷ run (0xF5 ∷ 0xDF ∷ 0xFF ∷ 0x00 ∷ 0x07 ∷ 0x31 ∷ 0x32 ∷ 0x33 ∷ 0x34 ∷ 0x35 ∷ 0x36 ∷ 0x37 ∷ []) area
    ∷ run (0x49 ∷ 0x00 ∷ 0x20 ∷ 0x00 ∷ 0x01 ∷ []) area
    ∷ byte 0x0F area
    ∷ []

-- its bytes are bytes
tested : List ℕ → Bool
tested [] = true
tested (b ∷ bs) = ltb b 256 && tested bs

bytes_by : (bs : List ℕ) → tested bs ≡ true → Bytes bs
unfolding tested
bytes_by [] e = tt
bytes_by (b ∷ bs) e = let w = and_both (ltb b 256) (tested bs) e in (ltb-true b 256 w.0, bytes_by bs w.1)

all_tested : List Call → Bool
all_tested [] = true
all_tested (c ∷ cs) = tested (brings c) && all_tested cs

all_bytes : (cs : List Call) → all_tested cs ≡ true → Each (λ (c : Call). Bytes (brings c)) cs
unfolding all_tested
all_bytes [] e = tt
all_bytes (c ∷ cs) e = let w = and_both (tested (brings c)) (all_tested cs) e in (bytes_by (brings c) w.0, all_bytes cs w.1)

pub a_history : History image (inputs 0) calls
unfolding image calls tested all_tested
a_history = history_exists image (inputs 0) calls refl (omega arith) (all_bytes calls refl)

-- the second call is refused, and takes no byte
pub refused_between : (h : History image (inputs 0) calls) → map (λ (l : Left). l.answer.refusal) h.calls.lefts ≡ 0 ∷ 3 ∷ 0 ∷ 0 ∷ 0 ∷ []
unfolding area calls image sized holds find place_of guarded free byte_at stored_id is_blank programmed permitted burnt program begun fresh phased longer ended is_open standing command_of need packet_fits position_fits srd_fits srd1_fits registers_fit blank_fits settings_fit in_range commands meaning needs_open effect dropped commanded bank_end programmed_by programs right_id is_right judged counted after_check finished wakes asleep body completes in_packet step_at step refusal byte_call run_call
refused_between h = ap (map (λ (l : Left). l.answer.refusal)) (lefts_are h)

-- 35 bytes were taken; after 29 of them the unit is open at a command position and no error stands; the unit program that follows leaves F0 AND 0F at place 0, from its last byte on
pub record Shows (u : Port) (es : List Entry) : Type 0 where
  pub long : length es ≡ 35
  pub begins : Begins (unit_after u es 29)
  pub packet : bytes_to es 29 34 ≡ 0x49 ∷ 0x00 ∷ 0x20 ∷ 0x00 ∷ 0x01 ∷ 0x0F ∷ []
  pub old : get_or (image_after image es 34) 0 0 ≡ 0xF0
  pub new : get_or (image_after image es 35) 0 0 ≡ 0x00

computed : Shows (fresh image (inputs 0)) (entries_of 0 (fresh image (inputs 0)) image calls)
unfolding area calls image sized holds find place_of guarded free byte_at stored_id is_blank programmed permitted burnt program begun fresh phased longer ended is_open standing command_of need packet_fits position_fits srd_fits srd1_fits registers_fit blank_fits settings_fit in_range commands meaning needs_open effect dropped commanded bank_end programmed_by programs right_id is_right judged counted after_check finished wakes asleep body completes in_packet step_at step refusal byte_call run_call
computed =
    record { long = refl; begins = record { at_a_command = refl; opened = refl; ready = refl }; packet = refl; old = refl; new = refl }

pub shows : (h : History image (inputs 0) calls) → Shows h.started.unit h.calls.trace
shows h = subst⁻¹ (λ (u : Port). Shows u h.calls.trace) (start_fresh h) (subst⁻¹ (Shows (fresh image (inputs 0))) (trace_is h) computed)

-- that packet is permitted, so it takes its full effect at its last byte
may : Permitted 0 (0x49 ∷ 0x00 ∷ 0x20 ∷ 0x00 ∷ 0x01 ∷ 0x0F ∷ [])
may =
    may_program (bytes {low = 0x00} {mid = 0x20} {high = 0x00} {ds = 0x0F ∷ []} (omega arith))
    (record { some = omega arith; bank = omega arith; free = λ j h. (0, 0x2000 + j - 0x2000, in_0 {a = 0x2000 + j} (omega arith) (omega arith), refl) })

pub carried_out : (h : History image (inputs 0) calls) → FullEffect 0 image h.calls.trace 29 34
carried_out h =
    let w = shows h in
    let p : h.started.unit.settings.protection ≡ 0 = start_protection h in
    subst (λ (p : ℕ). FullEffect p image h.calls.trace 29 34) p
    (full_effect (start_fit h) h.calls 29 34 (omega arith) (omega (arith, w.long)) w.begins (subst⁻¹ (λ (p : ℕ). Permitted p (bytes_to h.calls.trace 29 34)) p (subst⁻¹ (Permitted 0) w.packet may)))

-- with block 0 protected the same calls leave it alone
pub protected_byte : (h : History image (inputs 1) calls) (k : ℕ) → get_or (image_after image h.calls.trace k) 0 0 ≡ 0xF0
unfolding image
protected_byte h k = protected_kept (start_fit h) h.calls {i = 0} {x = 0} (subst⁻¹ (λ (p : ℕ). Protected p 0) (start_protection h) refl) (block_0 (omega arith)) k

-- each number of a start is given (session 12): an image of 20,479 or 20,481 bytes; protection 15 and 16
pub starts : map (λ (r : Started). r.refusal) (start_call (drop 1 image) (inputs 0) ∷ start_call (0xFF ∷ image) (inputs 0) ∷ start_call image (inputs 15) ∷ start_call image (inputs 16) ∷ []) ≡ 1 ∷ 1 ∷ 0 ∷ 2 ∷ []
unfolding image sized start_refusal start_call
starts = refl

-- each number of a byte's call is given: none; the image too short; one byte too little room; SRD 81
pub byte_numbers : map (λ (l : Left). l.answer.refusal)
    (byte_call idle image area 0x70 ∷ byte_call idle (drop 1 image) area 0x70 ∷ byte_call idle image (drop 1 area) 0x70 ∷ byte_call (ended idle (with_srd idle.registers 0x81)) image area 0x70 ∷ [])
    ≡ 0 ∷ 1 ∷ 3 ∷ 4 ∷ []
unfolding area idle image sized holds find place_of guarded free byte_at stored_id is_blank programmed permitted burnt program begun fresh phased longer ended is_open standing command_of need packet_fits position_fits srd_fits srd1_fits registers_fit blank_fits settings_fit in_range commands meaning needs_open effect dropped commanded bank_end programmed_by programs right_id is_right judged counted after_check finished wakes asleep body completes in_packet step_at step refusal byte_call run_call
byte_numbers = refl

-- a page program to page 0FF00 can change 0FFFF: sixteen zeros and B0; the right ID packet; 256 times 00 for page 0FF00, whose last byte is the 288th
unfoldable pub page_calls : List Call
unfolding area
page_calls =
    run (replicate 16 0x00 ++ (0xB0 ∷ [])) area
    ∷ run (0xF5 ∷ 0xDF ∷ 0xFF ∷ 0x00 ∷ 0x07 ∷ 0x31 ∷ 0x32 ∷ 0x33 ∷ 0x34 ∷ 0x35 ∷ 0x36 ∷ 0x37 ∷ []) area
    ∷ run (0x41 ∷ 0xFF ∷ 0x00 ∷ replicate 256 0x00) area
    ∷ []

pub page_history : History image (inputs 0) page_calls
unfolding image page_calls tested all_tested
page_history = history_exists image (inputs 0) page_calls refl (omega arith) (all_bytes page_calls refl)

-- 0FFFF before that byte, and after it
abbrev pub LastByteChanges : List Entry → Type 0
LastByteChanges es = (get_or (image_after image es 287) 20479 0 ≡ 0xFF) × (get_or (image_after image es 288) 20479 0 ≡ 0x00)

computed_change : LastByteChanges (entries_of 0 (fresh image (inputs 0)) image page_calls)
unfolding area page_calls image sized holds find place_of guarded free byte_at stored_id is_blank programmed permitted burnt program begun fresh phased longer ended is_open standing command_of need packet_fits position_fits srd_fits srd1_fits registers_fit blank_fits settings_fit in_range commands meaning needs_open effect dropped commanded bank_end programmed_by programs right_id is_right judged counted after_check finished wakes asleep body completes in_packet step_at step refusal byte_call run_call
computed_change = (refl, refl)

pub page_changes : (h : History image (inputs 0) page_calls) → LastByteChanges h.calls.trace
page_changes h = subst⁻¹ LastByteChanges (trace_is h) computed_change
