-- A byte inside a packet, by all that is collected once it is stored: whether it is the packet's last shows there, and so do the bytes on which the packet acts.
use Prim.Native.Nat.{ℕ, zero, suc, ◌+◌, ◌-◌, ◌<◌, ◌≤◌}
use native.Mathlib.Omega.{arith}
use native.Mathlib.Nat.{sub-zero, zero-sub, suc-sub-suc}
use mathlib.Core.Bool.{Bool, true, false}
use mathlib.Core.Path.{◌≡◌, refl, ap, sym, ◌∙◌}
use mathlib.Core.List.{List, [], ◌∷◌, ◌++◌}
use lib.ListN.{length, get_or, take, drop, set}
use lib.Seq.{take-nil, take-suc-set, get_or-take, length-take-le}
use lib.Dec.{eqb, ltb}
use borrow.Author.Tests.{eqb-true, eqb-false, ltb-true, lt-ltb}
use Rattle.flash.specs.Blocks.{part, page_address, byte_address}
use Rattle.flash.specs.Image.{written, page_part, erase_block, erase_all}
use Rattle.unit.specs.declared.Unit.{Unit as Port}
use Rattle.unit.specs.declared.Phase.{Phase}
use Rattle.unit.specs.Phases.{Kind, need}
use Rattle.unit.specs.Phases.Kind.{page_read, page_program, unit_program, block_erase, all_erase, id_check}
use Rattle.unit.specs.Model.{whole, state, longer, ended}
use Rattle.unit.proofs.Lengths.{need_next, few_sized}
use Rattle.protocol.specs.Outcome.{says, quiet}
use Rattle.protocol.specs.Endings.{page_reply, bank_end, reaching, programmed_by, programs, erases, finished}
use Rattle.protocol.specs.Step.{body, in_packet}
use Rattle.protocol.proofs.Steps.{packet_last, packet_more, body_stored}
use Rattle.port.specs.Parts.{all_of}

-- whether a packet is short shows in all that is collected
few_all : (k : Kind) (n : ℕ) (got : List ℕ) → ltb n (need k (take n got)) ≡ ltb n (need k got)
unfolding need
few_all page_read n got = refl
few_all page_program n got = refl
few_all unit_program n got = sym (few_sized n got _ refl)
few_all block_erase n got = refl
few_all all_erase n got = refl
few_all id_check n got = sym (few_sized n got _ refl)

-- and so does its size, once its bytes have come
need_all : (k : Kind) (n : ℕ) (got : List ℕ) → n ≡ need k (take n got) → need k got ≡ n
unfolding need
need_all page_read n got e = sym e
need_all page_program n got e = sym e
need_all unit_program n got e = ap (λ (x : ℕ). 4 + x) (sym (get_or-take n got 3 0 (omega arith))) ∙ sym e
need_all block_erase n got e = sym e
need_all all_erase n got e = sym e
need_all id_check n got e = ap (λ (x : ℕ). 4 + x) (sym (get_or-take n got 3 0 (omega arith))) ∙ sym e

module _ (k : Kind) (u : Port) (img : List ℕ) (n b : ℕ) (room : n < length u.collected) (few : n < need k (take n u.collected)) where
  come : body n u b ≡ take (suc n) (set u.collected n b)
  come = body_stored n u b room

  pub goes_on : suc n < need k (set u.collected n b) → in_packet k n u img b ≡ quiet (longer u k n b) img
  goes_on h =
      let short = ltb-true (suc n) _ (few_all k (suc n) (set u.collected n b) ∙ lt-ltb (suc n) _ h) in
      packet_more k n u img b (λ e. omega (arith, short, e, ap (need k) come))

  last : need k (set u.collected n b) ≤ suc n → suc n ≡ need k (body n u b)
  last h = go (eqb (suc n) (need k (body n u b))) refl
    where
      go : (t : Bool) → eqb (suc n) (need k (body n u b)) ≡ t → suc n ≡ need k (body n u b)
      go true e = eqb-true (suc n) (need k (body n u b)) e
      go false e =
          let l : length (take n u.collected) ≡ n = length-take-le n u.collected (omega arith) in
          let here : need k (body n u b) ≡ need k (take n u.collected ++ b ∷ []) = ap (need k) (come ∙ take-suc-set u.collected n b room) in
          let less : suc (length (take n u.collected)) < need k (take n u.collected ++ b ∷ []) =
          need_next k (take n u.collected) b (rw l few) (λ q. eqb-false (suc n) (need k (body n u b)) e (ap suc (sym l) ∙ (q ∙ sym here))) in
          let short : ltb (suc n) (need k (set u.collected n b)) ≡ true =
          sym (few_all k (suc n) (set u.collected n b)) ∙ lt-ltb (suc n) _ (omega (arith, l, less, here, ap (need k) come)) in
          absurd (omega (arith, ltb-true (suc n) _ short))

  pub ends : need k (set u.collected n b) ≤ suc n → in_packet k n u img b ≡ finished k u img (all_of k (set u.collected n b))
  ends h =
      let e = last h in
      let all : need k (set u.collected n b) ≡ suc n = need_all k (suc n) (set u.collected n b) (e ∙ ap (need k) come) in
      packet_last k n u img b e ∙ ap (finished k u img) (come ∙ ap (λ (m : ℕ). take m (set u.collected n b)) (sym all))

-- what a packet does goes by the registers and the settings alone, besides the image and its own bytes
pub finished_alike : (k : Kind) (u : Port) (f : Phase) (got img xs : List ℕ) → finished k (whole (state f u.registers) u.settings got) img xs ≡ finished k u img xs
unfolding finished programs erases ended
finished_alike page_read u f got img xs = refl
finished_alike page_program u f got img xs = refl
finished_alike unit_program u f got img xs = refl
finished_alike block_erase u f got img xs = refl
finished_alike all_erase u f got img xs = refl
finished_alike id_check u f got img xs = refl

-- a part of a list, its two ends in either order
drop_take : (k m : ℕ) (l : List ℕ) → drop k (take m l) ≡ take (m - k) (drop k l)
drop_take zero m l = ap (λ (n : ℕ). take n l) (sym (sub-zero m))
drop_take (suc k) zero l = ap (λ (n : ℕ). take n (drop (suc k) l)) (sym (zero-sub (suc k)))
drop_take (suc k) (suc m) [] = sym (take-nil (suc m - suc k))
drop_take (suc k) (suc m) (x ∷ l) = drop_take k m l ∙ ap (λ (n : ℕ). take n (drop k l)) (sym (suc-sub-suc m k))

-- what a packet does, by the places of its bytes in all that is collected
module _ (u : Port) (img xs : List ℕ) where
  pub page_shown : finished page_read u img (all_of page_read xs) ≡ says (ended u u.registers) img (page_reply (page_part part img (get_or xs 0 0) (get_or xs 1 0)))
  unfolding finished need
  page_shown = rw (get_or-take 2 xs 0 0 (omega arith), get_or-take 2 xs 1 0 (omega arith))

  pub page_programmed : finished page_program u img (all_of page_program xs)
      ≡ programs u img (reaching 65536 u.settings.protection img (page_address (get_or xs 0 0) (get_or xs 1 0)) (take 256 (drop 2 xs)))
  unfolding finished programmed_by bank_end need
  page_programmed = rw (get_or-take 258 xs 0 0 (omega arith), get_or-take 258 xs 1 0 (omega arith), drop_take 2 258 xs)

  pub bytes_programmed : finished unit_program u img (all_of unit_program xs)
      ≡ programs u img (reaching 65535 u.settings.protection img (byte_address (get_or xs 0 0) (get_or xs 1 0) (get_or xs 2 0)) (take (4 + get_or xs 3 0 - 4) (drop 4 xs)))
  unfolding finished programmed_by bank_end need
  bytes_programmed =
      let m : ℕ = 4 + get_or xs 3 0 in
      rw (get_or-take m xs 0 0 (omega arith), get_or-take m xs 1 0 (omega arith), get_or-take m xs 2 0 (omega arith), drop_take 4 m xs)

  pub block_erased : finished block_erase u img (all_of block_erase xs)
      ≡ erases u img (get_or xs 2 0) (erase_block part u.settings.protection img (page_address (get_or xs 0 0) (get_or xs 1 0)))
  unfolding finished need
  block_erased = rw (get_or-take 3 xs 0 0 (omega arith), get_or-take 3 xs 1 0 (omega arith), get_or-take 3 xs 2 0 (omega arith))

  pub all_erased : finished all_erase u img (all_of all_erase xs) ≡ erases u img (get_or xs 0 0) (written (erase_all part u.settings.protection img) true)
  unfolding finished need
  all_erased = rw (get_or-take 1 xs 0 0 (omega arith))
