-- The premises of demand 3 can be met, and both sides of its equivalence: histories on the image of the sessions, computed, one that opens inside a run call and one that never opens;
-- and a second image with the same ID bytes that holds 00 where the first holds FF.
use Prim.Native.Nat.{ℕ, ◌≤◌}
use native.Mathlib.Omega.{arith}
use mathlib.Core.Bool.{Bool, true, ◌&&◌, decide, decide_iff}
use mathlib.Core.Logic.{◌≢◌}
use mathlib.Core.Path.{◌≡◌, refl, ap, sym, ◌∙◌, subst}
use mathlib.Core.List.{List, [], ◌∷◌, ◌++◌}
use lib.ListN.{length, get_or, take, drop, replicate}
use Rattle.packets.specs.Pieces.{lone, check}
use Rattle.packets.specs.Readings.{Log, stayed_shut, log_bytes, Reads, Opening}
use Rattle.packets.proofs.Decisions.{reads?}
use Rattle.packets.proofs.Openings.{shut_where}
use lib.Dec.{ltb}
use borrow.Author.Tests.{ltb-true}
use Rattle.packets.specs.Readings.{Bytes}
use Rattle.slices.proofs.Lists.{and_both}
use Rattle.flash.specs.Blocks.{sized, holds, find, place_of}
use Rattle.flash.specs.Image.{byte_at, stored_id, is_blank}
use Rattle.unit.specs.Phases.{command_of, need}
use Rattle.unit.specs.Model.{inputs, begun, fresh, phased, longer, ended, is_open}
use Rattle.unit.specs.Range.{packet_fits, position_fits, srd_fits, srd1_fits, registers_fit, blank_fits, settings_fit, in_range}
use Rattle.protocol.specs.Commands.{commands, meaning, needs_open, effect, dropped, commanded}
use Rattle.protocol.specs.Endings.{right_id, is_right, judged, counted, after_check, finished}
use Rattle.protocol.specs.Step.{wakes, asleep, body, completes, in_packet, step_at, step}
use Rattle.protocol.specs.Calls.{refusal, byte_call, run_call}
use Rattle.protocol.specs.Sessions.{image}
use Rattle.demands.specs.Flash.{ids, Blank}
use Rattle.demands.specs.Histories.{Call, Entry, History, taken, At}
use Rattle.demands.specs.Histories.Call.{byte, run}
use Rattle.demands.specs.Opening.{FirstOpen, OpeningInTime, SameShown, Unseen}
use Rattle.demands.proofs.Traces.{taken_long}
use Rattle.demands.proofs.Bridge.{entries_of, trace_is}
use Rattle.demands.proofs.Exists.{history_exists}
use Rattle.demands.proofs.Demand3.{opens_exactly, unseen}

-- each is a byte, computed
abbrev under : List ℕ → Bool
under [] = true
under (b ∷ bs) = ltb b 256 && under bs

bytes_by : (bs : List ℕ) → under bs ≡ true → Bytes bs
bytes_by [] e = tt
bytes_by (b ∷ bs) e = let w = and_both (ltb b 256) (under bs) e in (ltb-true b 256 w.0, bytes_by bs w.1)

-- sixteen zeros and B0; a 70 with one byte too little room; and these bytes in one run
unfoldable pub calls : List ℕ → List Call
calls bs =
    let area : List ℕ = replicate 256 0xEE in
    run (replicate 16 0x00 ++ (0xB0 ∷ [])) area ∷ byte 0x70 (replicate 255 0xEE) ∷ run bs area ∷ []

-- the right ID packet and a 70; and bytes with the right ID packet inside a longer one, another last ID byte, and a page read
unfoldable pub right : List ℕ
right = 0xF5 ∷ 0xDF ∷ 0xFF ∷ 0x00 ∷ 0x07 ∷ 0x31 ∷ 0x32 ∷ 0x33 ∷ 0x34 ∷ 0x35 ∷ 0x36 ∷ 0x37 ∷ 0x70 ∷ []

unfoldable pub wrong : List ℕ
wrong =
    0xF5 ∷ 0xDF ∷ 0xFF ∷ 0x00 ∷ 0x0C ∷ 0xF5 ∷ 0xDF ∷ 0xFF ∷ 0x00 ∷ 0x07 ∷ 0x31 ∷ 0x32 ∷ 0x33 ∷ 0x34 ∷ 0x35 ∷ 0x36 ∷ 0x37
    ∷ 0xF5 ∷ 0xDF ∷ 0xFF ∷ 0x00 ∷ 0x07 ∷ 0x31 ∷ 0x32 ∷ 0x33 ∷ 0x34 ∷ 0x35 ∷ 0x36 ∷ 0x38 ∷ 0xFF ∷ 0x00 ∷ 0x20 ∷ 0x70 ∷ []

-- another image with the same ID bytes
unfoldable pub other : List ℕ
unfolding image
other = replicate 20447 0x00 ++ drop 20447 image

-- the bytes that are taken: all but the refused 70
abbrev pub woken : List ℕ → List ℕ
woken bs = replicate 16 0x00 ++ (0xB0 ∷ bs)

pub filled : Blank image → ⊥
unfolding image
filled b = omega arith

pub history : (img : List ℕ) (p : ℕ) (bs : List ℕ) → length img ≡ 20480 → p ≤ 15 → under bs ≡ true → History img (inputs p) (calls bs)
unfolding calls
history img p bs size h e =
    history_exists img (inputs p) (calls bs) size h (bytes_by (replicate 16 0x00 ++ (0xB0 ∷ [])) refl, (bytes_by (0x70 ∷ []) refl, (bytes_by bs e, tt)))

right_taken : taken (entries_of 0 (fresh image (inputs 0)) image (calls right)) ≡ woken right
unfolding calls right image sized holds find place_of byte_at stored_id is_blank begun fresh phased longer ended is_open command_of need packet_fits position_fits srd_fits srd1_fits registers_fit blank_fits settings_fit in_range commands meaning needs_open effect dropped commanded right_id is_right judged counted after_check finished wakes asleep body completes in_packet step_at step refusal byte_call run_call
right_taken = refl

wrong_taken : taken (entries_of 0 (fresh image (inputs 0)) image (calls wrong)) ≡ woken wrong
unfolding calls wrong image sized holds find place_of byte_at stored_id is_blank begun fresh phased longer ended is_open command_of need packet_fits position_fits srd_fits srd1_fits registers_fit blank_fits settings_fit in_range commands meaning needs_open effect dropped commanded right_id is_right judged counted after_check finished wakes asleep body completes in_packet step_at step refusal byte_call run_call
wrong_taken = refl

-- it opens at the 29th byte taken, the twelfth of the run's thirteen; the refused call took none
pub opening : History image (inputs 0) (calls right)
unfolding image right
opening = history image 0 right refl (omega arith) refl

pub opens_inside : (h : History image (inputs 0) (calls right)) → FirstOpen h.started.unit h.calls.trace 29
unfolding image right
opens_inside h =
    let e : taken h.calls.trace ≡ woken right = ap taken (trace_is h) ∙ right_taken in
    (opens_exactly h filled 29 (omega (arith, taken_long h.calls.trace, ap length e))).1
    (subst (λ (l : List ℕ). OpeningInTime (ids image) (take 29 l)) (sym e)
    (record {
      opening = record { dull = []; wake = record { zeros = 16; last = 0xB0 }; packets = []; reads = (tt, (omega arith, refl), tt); whole = refl };
      few = omega arith;
    }))

-- it never opens
pub shut : History image (inputs 0) (calls wrong)
unfolding image wrong
shut = history image 0 wrong refl (omega arith) refl

abbrev wrong_log : Log
wrong_log =
    stayed_shut [] (record { zeros = 16; last = 0xB0 })
    (check 0xDF 0xFF 0x00 (0xF5 ∷ 0xDF ∷ 0xFF ∷ 0x00 ∷ 0x07 ∷ 0x31 ∷ 0x32 ∷ 0x33 ∷ 0x34 ∷ 0x35 ∷ 0x36 ∷ 0x37 ∷ [])
    ∷ check 0xDF 0xFF 0x00 (0x31 ∷ 0x32 ∷ 0x33 ∷ 0x34 ∷ 0x35 ∷ 0x36 ∷ 0x38 ∷ [])
    ∷ lone 0xFF
    ∷ lone 0x00
    ∷ lone 0x20
    ∷ lone 0x70
    ∷ []) []

wrong_reads : Reads (ids image) wrong_log
unfolding image reads? decide
wrong_reads = (decide_iff (reads? (ids image) wrong_log)).0 refl

wrong_whole : woken wrong ≡ log_bytes (ids image) wrong_log
unfolding wrong
wrong_whole = refl

pub never_opens : (h : History image (inputs 0) (calls wrong)) (k : ℕ) → k ≤ length h.calls.trace → FirstOpen h.started.unit h.calls.trace k → ⊥
never_opens h k l f =
    let e : taken h.calls.trace ≡ woken wrong = ap taken (trace_is h) ∙ wrong_taken in
    (shut_where (ids image) (woken wrong) refl (record { log = wrong_log; reads = wrong_reads; whole = wrong_whole })).0 tt k (omega (arith, taken_long h.calls.trace, ap length e))
    (subst (λ (l : List ℕ). Opening (ids image) (take k l)) e ((opens_exactly h filled k l).0 f).opening)

-- under another protection, on an image that holds 00 where the first holds FF: nothing tells them apart up to the byte that opens them
pub opening' : History other (inputs 15) (calls right)
unfolding image other right
opening' = history other 15 right refl (omega arith) refl

pub another : image ≢ other
unfolding image other
another e = let z : ◌≡◌ {A = ℕ} 0xF0 0x00 = ap (λ (l : List ℕ). get_or l 0 0) e in omega arith

pub not_told_apart : Unseen opening opening'
unfolding image other
not_told_apart = unseen opening opening' refl filled (λ b. omega arith)

-- the byte that opens them included
pub opening_byte : (e : Entry) → At opening.calls.trace 28 e → (f : Entry) × At opening'.calls.trace 28 f × SameShown e f
opening_byte e a = not_told_apart.bytes 28 e a (opens_inside opening).before
