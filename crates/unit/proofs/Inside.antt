-- A unit inside a packet: it is open but for an ID check, its packet is short and fits the room, and one byte more that does not complete the packet leaves it so.
use Prim.Native.Nat.{ℕ, suc, ◌<◌}
use native.Mathlib.Omega.{arith}
use mathlib.Core.Bool.{Bool, true, ◌||◌}
use mathlib.Core.Path.{◌≡◌, refl, ap, sym, ◌∙◌}
use mathlib.Core.List.{List, [], ◌∷◌, ◌++◌}
use lib.ListN.{length, take, set, length-set}
use lib.Seq.{length-take-le, take-suc-set}
use lib.Dec.{ltb, eqb}
use borrow.Author.Tests.{ltb-true, lt-ltb}
use Rattle.unit.specs.declared.Unit.{Unit as Port}
use Rattle.unit.specs.declared.Phase.TheVariants.{Awake}
use Rattle.unit.specs.Phases.{Kind, Position, command_of, need, position_of, inside}
use Rattle.unit.specs.Phases.Kind.{page_read, page_program, unit_program, block_erase, all_erase, id_check}
use Rattle.unit.specs.Phases.Position.{within}
use Rattle.unit.specs.Model.{longer, is_open}
use Rattle.unit.specs.Range.{packet_fits, position_fits}
use Rattle.slices.proofs.Lists.{bytes_take, bytes_set, and_both, both_and}
use Rattle.unit.proofs.Lengths.{need_small, need_next}
use Rattle.unit.proofs.Positions.{position_inside}
use Rattle.unit.proofs.Ranged.{Sound}

-- the unit with one more byte of a packet
module _ (u : Port) (k : Kind) (n b : ℕ) where
  pub longer_phase : (longer u k n b).phase ≡ Awake (inside k (suc n))
  unfolding longer
  longer_phase = refl

  pub longer_registers : (longer u k n b).registers ≡ u.registers
  unfolding longer
  longer_registers = refl

  pub longer_settings : (longer u k n b).settings ≡ u.settings
  unfolding longer
  longer_settings = refl

  pub longer_collected : (longer u k n b).collected ≡ set u.collected n b
  unfolding longer
  longer_collected = refl

-- what fits of a position inside a packet
packet_fits_lem : {k : Kind} {n : ℕ} (opened : Bool) (got : List ℕ) (p : Position) → p ≡ within k n → position_fits p opened got ≡ true → ((eqb (command_of k) 0xF5 || opened) ≡ true) × (ltb n (need k (take n got)) ≡ true)
unfolding position_fits packet_fits
packet_fits_lem {k} {n} opened got p e h = and_both (eqb (command_of k) 0xF5 || opened) _ (rw e at h)

-- any packet but an ID check needs an open unit
needs_open_lem : (k : Kind) (opened : Bool) → (eqb (command_of k) 0xF5 || opened) ≡ true → (k ≡ id_check → ⊥) → opened ≡ true
unfolding command_of
needs_open_lem page_read opened e other = e
needs_open_lem page_program opened e other = e
needs_open_lem unit_program opened e other = e
needs_open_lem block_erase opened e other = e
needs_open_lem all_erase opened e other = e
needs_open_lem id_check opened e other = absurd (other refl)

module _ {u : Port} (s : Sound u) {k : Kind} {n : ℕ} (e : position_of u.phase ≡ within k n) where
  fits_inside : ((eqb (command_of k) 0xF5 || is_open u.registers) ≡ true) × (ltb n (need k (take n u.collected)) ≡ true)
  fits_inside = packet_fits_lem (is_open u.registers) u.collected (position_of u.phase) e s.position

  pub open_inside : (k ≡ id_check → ⊥) → is_open u.registers ≡ true
  open_inside other = needs_open_lem k (is_open u.registers) fits_inside.0 other

  pub few : n < need k (take n u.collected)
  few = ltb-true n (need k (take n u.collected)) fits_inside.1

  pub few_collected : n < 259
  few_collected = omega (arith, few, need_small k (take n u.collected) (bytes_take n u.collected s.bytes))

  -- one byte more that does not complete the packet
  module _ (b : ℕ) (small : b < 256) (left : suc n ≡ need k (take n u.collected ++ b ∷ []) → ⊥) where
    few_longer : suc n < need k (take (suc n) (set u.collected n b))
    few_longer =
        let got = u.collected in
        let room : n < length got = omega (arith, s.room, few_collected) in
        let all : length (take n got) ≡ n = length-take-le n got (omega arith) in
        let next = need_next k (take n got) b (omega (arith, few)) (λ q. left (ap suc (sym all) ∙ q)) in
        rw (take-suc-set got n b room) (omega arith)

    pub sound_longer : Sound (longer u k n b)
    unfolding longer position_fits packet_fits
    sound_longer =
        record {
          position = rw (position_inside k (suc n)) (both_and _ _ fits_inside.0 (lt-ltb _ _ few_longer));
          registers = s.registers;
          settings = s.settings;
          room = length-set u.collected n b ∙ s.room;
          bytes = bytes_set u.collected n b s.bytes small;
        }
