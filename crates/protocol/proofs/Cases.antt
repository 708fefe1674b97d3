-- Every byte leads to one of six outcomes: the rules have no other clause. What holds of each of them holds of every step, so the laws about steps go by these cases and not by the rules.
use Prim.Native.Nat.{ℕ, suc, min, ◌+◌, ◌%◌, ◌≤◌}
use native.Mathlib.Omega.{arith}
use mathlib.Core.Bool.{Bool, true, false, cond, not, ◌&&◌, ◌||◌, or-true}
use mathlib.Core.Logic.{◌⊎◌, inl, inr}
use mathlib.Core.Path.{◌≡◌, refl, ap, sym, ◌∙◌, subst⁻¹}
use mathlib.Core.List.{List, [], ◌∷◌}
use lib.ListN.{length, get_or}
use lib.Dec.{leb, eqb}
use borrow.Author.Tests.{eqb-true, eqb-false, leb-true, not-false}
use Rattle.flash.specs.Blocks.{part, sized, find, free}
use Rattle.flash.specs.Image.{Written, page_part, permitted, program, erase_block, erase_all}
use Rattle.slices.proofs.Lists.{and_both, cond_elim}
use Rattle.flash.proofs.Places.{rising}
use Rattle.flash.proofs.Outcomes.{sized_true, program_unsized, program_refused, erase_unsized, erase_refused, all_unsized}
use Rattle.flash.proofs.Pages.{page_paged}
use Rattle.unit.specs.declared.Unit.{Unit as Port}
use Rattle.unit.specs.declared.Registers.{Registers}
use Rattle.unit.specs.declared.Settings.{Settings}
use Rattle.unit.specs.declared.Phase.TheVariants.{Asleep, Awake}
use Rattle.unit.specs.declared.Place.TheVariants.{Command}
use Rattle.unit.specs.Phases.{Kind, command_of, need, inside, Position, position_of}
use Rattle.unit.specs.Phases.Kind.{page_read, page_program, unit_program, block_erase, all_erase, id_check}
use Rattle.unit.specs.Phases.Position.{sleeping, commanding, within}
use Rattle.unit.specs.Model.{with_srd, with_rate, phased, longer, ended, is_open, standing}
use Rattle.unit.specs.Range.{srd_fits}
use Rattle.unit.proofs.Positions.{phase_inside}
use Rattle.unit.proofs.Builders.{phased_registers, ended_registers}
use Rattle.unit.proofs.Inside.{longer_registers}
use Rattle.protocol.specs.Outcome.{Outcome, says, quiet}
use Rattle.protocol.specs.Commands.{Command as Meaning, commands, lookup, meaning, needs_open, version_bytes, effect, dropped, commanded}
use Rattle.protocol.specs.Commands.Command.{begin, clear, status, version, time, unknown, rate}
use Rattle.protocol.specs.Endings.{leaves, page_reply, bank_end, programmed_by, programs, erases, is_right, after_check, finished}
use Rattle.protocol.specs.Step.{wakes, asleep, body, completes, in_packet, step_at, step}
use Rattle.protocol.proofs.Carried.{Permitted, Carried, Done, Change}
use Rattle.protocol.proofs.Carried.Carried.{page, bytes, block, all}
use Rattle.protocol.proofs.Carried.Change.{none, last}

-- the registers that a packet may leave: those that were, or one of them set to a number that fits, or those after an ID check
pub data Leaves (t : Settings) (r : Registers) : Registers → Type 0 where
  as_were : Leaves t r r
  srd_set : (s : ℕ) → srd_fits s ≡ true → Leaves t r (with_srd r s)
  checks : (right : Bool) → Leaves t r (after_check t.blank r right)
  rate_set : (n : ℕ) → n ≤ 4 → Leaves t r (with_rate r n)

-- a taken packet ends: with a reply and the image as it was, or with a new image and no reply
pub data Ending (u : Port) (img : List ℕ) (b : ℕ) : Outcome → Type 0 where
  says_and_ends : (r : Registers) (said : List ℕ) → Leaves u.settings u.registers r → length said ≤ 256 → Ending u img b (says (ended u r) img said)
  writes_and_ends : (s : ℕ) (new : List ℕ) → srd_fits s ≡ true → Done u img b new → Ending u img b (leaves u s new)

-- a byte does nothing, leaves the unit asleep, wakes it, begins a packet, goes on inside one, or ends one
pub data Leads (u : Port) (img : List ℕ) (b : ℕ) : Outcome → Type 0 where
  nothing : Leads u img b (quiet u img)
  sleeps : (n : ℕ) → n ≤ 16 → Leads u img b (quiet (phased u (Asleep n)) img)
  wakes_up : Leads u img b (says (phased u (Awake Command)) img (0xB0 ∷ []))
  begins : (k : Kind) → (eqb (command_of k) 0xF5 || is_open u.registers) ≡ true → Leads u img b (quiet (phased u (Awake (inside k 0))) img)
  goes_on : (k : Kind) (n : ℕ) → position_of u.phase ≡ within k n → (suc n ≡ need k (body n u b) → ⊥) → Leads u img b (quiet (longer u k n b) img)
  ends : {o : Outcome} → Ending u img b o → Leads u img b o

-- a rule of the command table: a test of each row, and it holds of what a byte means
module _ (test : Meaning → Bool) where
  all_rows : List (ℕ × Meaning) → Bool
  all_rows [] = test unknown
  all_rows (r ∷ rs) = test r.1 && all_rows rs

  of_found : (b : ℕ) (rs : List (ℕ × Meaning)) → all_rows rs ≡ true → test (lookup b rs) ≡ true
  unfolding all_rows
  of_found b [] e = e
  of_found b (r ∷ rs) e =
      let w = and_both (test r.1) (all_rows rs) e in
      cond_elim (λ (c : Meaning). test c ≡ true) (eqb b r.0) r.1 (lookup b rs) (λ t. w.0) (λ t. of_found b rs w.1)

rate_fits : Meaning → Bool
rate_fits (begin k) = true
rate_fits clear = true
rate_fits status = true
rate_fits version = true
rate_fits time = true
rate_fits unknown = true
rate_fits (rate n) = leb n 4

rates_fit : (b : ℕ) → rate_fits (meaning b) ≡ true
unfolding meaning commands rate_fits all_rows
rates_fit b = of_found rate_fits b commands refl

-- a packet that is not dropped may begin
needs_open_lem : (k : Kind) → needs_open (begin k) ≡ not (eqb (command_of k) 0xF5)
unfolding needs_open command_of
needs_open_lem page_read = refl
needs_open_lem page_program = refl
needs_open_lem unit_program = refl
needs_open_lem block_erase = refl
needs_open_lem all_erase = refl
needs_open_lem id_check = refl

may_begin : (k : Kind) (opened : Bool) → cond opened false (needs_open (begin k)) ≡ false → (eqb (command_of k) 0xF5 || opened) ≡ true
may_begin k true e = or-true (eqb (command_of k) 0xF5)
may_begin k false e = ap (λ (t : Bool). t || false) (not-false (eqb (command_of k) 0xF5) (sym (needs_open_lem k) ∙ e))

-- a page's reply has 256 bytes, inside or outside
pub page_reply_long : (img : List ℕ) (mid high : ℕ) → length (page_reply (page_part part img mid high)) ≡ 256
unfolding page_reply
page_reply_long img mid high = go (page_part part img mid high) (page_paged part img mid high rising)
  where
    go : (xs : List ℕ) → (length xs ≡ 0) ⊎ (length xs ≡ 256) → length (page_reply xs) ≡ 256
    go [] e = refl
    go (x ∷ xs) (inl e) = absurd (omega arith)
    go (x ∷ xs) (inr e) = e

-- what a program and an erase leave fits
srd_fits_lem : (good : Bool) (bad : ℕ) → srd_fits bad ≡ true → srd_fits (cond good 0x80 bad) ≡ true
unfolding srd_fits
srd_fits_lem true bad h = refl
srd_fits_lem false bad h = h

not_standing : (u : Port) → standing u.registers ≡ false → u.registers.srd ≡ 0x80
unfolding standing
not_standing u e = eqb-true u.registers.srd 0x80 (go (eqb u.registers.srd 0x80) e)
  where
    go : (t : Bool) → cond t false true ≡ false → t ≡ true
    go true e = refl
    go false e = sym e

module _ (u : Port) (img : List ℕ) (b : ℕ) where
  -- a packet that ends with the image as it was
  tells : (said : List ℕ) → length said ≤ 256 → Ending u img b (says (ended u u.registers) img said)
  tells said h = says_and_ends u.registers said as_were h

  -- a packet that ends with this SRD
  reported : (s : ℕ) (new : List ℕ) → srd_fits s ≡ true → Change u img b new → Ending u img b (leaves u s new)
  reported s new h (none e) = subst⁻¹ (λ (l : List ℕ). Ending u img b (leaves u s l)) e (says_and_ends (with_srd u.registers s) [] (srd_set s h) (omega arith))
  reported s new h (last d) = writes_and_ends s new h d

  ending_programs : (w : Written) → (u.registers.srd ≡ 0x80 → Change u img b w.image) → Ending u img b (programs u img w)
  unfolding programs srd_fits
  ending_programs w f =
      cond_elim (Ending u img b) (standing u.registers) _ _ (λ t. tells [] (omega arith))
      (λ t. reported _ w.image (srd_fits_lem w.good 0x90 refl) (f (not_standing u t)))

  ending_erases : (confirm : ℕ) (w : Written) → (u.registers.srd ≡ 0x80 → confirm ≡ 0xD0 → Change u img b w.image) → Ending u img b (erases u img confirm w)
  unfolding erases srd_fits
  ending_erases confirm w f =
      cond_elim (Ending u img b) (eqb confirm 0xFF) _ _ (λ t. tells [] (omega arith))
      (λ t. cond_elim (Ending u img b) (standing u.registers) _ _ (λ s. tells [] (omega arith))
      (λ s. cond_elim (Ending u img b) (not (eqb confirm 0xD0)) _ _ (λ c. reported 0xB0 img refl (none refl))
      (λ c. reported _ w.image (srd_fits_lem w.good 0xA0 refl) (f (not_standing u s) (eqb-true confirm 0xD0 (not-false (eqb confirm 0xD0) c))))))

  -- this byte completes a packet
  module _ (k : Kind) (n : ℕ) (e : position_of u.phase ≡ within k n) (whole : suc n ≡ need k (body n u b)) where
    done : {new : List ℕ} → u.registers.srd ≡ 0x80 → sized part img ≡ true → Carried u.settings.protection img (body n u b) k new → Done u img b new
    unfolding body
    done ready s c =
        record { kind = k; received = n; place = phase_inside u.phase e; last = whole; ready = ready; size = sized_true part img s; carried = c }

  -- where a program, or an erase, changes the image, it is permitted
  module _ (p a : ℕ) where
    program_change : (k : Kind) (ds : List ℕ)
        → (sized part img ≡ true → Permitted k p a ds → Done u img b (program part p img a ds).image) → Change u img b (programmed_by k p img a ds).image
    unfolding programmed_by
    program_change k ds f =
        cond_elim (λ (w : Written). Change u img b w.image) (leb (a % 65536 + length ds) (bank_end k)) _ _
        (λ t. go (sized part img) refl (permitted part p a ds) refl (leb-true (a % 65536 + length ds) (bank_end k) t))
        (λ t. none refl)
      where
        go : (s : Bool) → sized part img ≡ s → (t : Bool) → permitted part p a ds ≡ t → a % 65536 + length ds ≤ bank_end k → Change u img b (program part p img a ds).image
        go false s q t h = none (ap (λ (w : Written). w.image) (program_unsized part p img a ds s))
        go true s false t h = none (ap (λ (w : Written). w.image) (program_refused part p img a ds t))
        go true s true t h = last (f s (record { bank = h; free = t }))

    erase_change : (sized part img ≡ true → free p (find part a) ≡ true → Done u img b (erase_block part p img a).image) → Change u img b (erase_block part p img a).image
    erase_change f = go (sized part img) refl (free p (find part a)) refl
      where
        go : (s : Bool) → sized part img ≡ s → (t : Bool) → free p (find part a) ≡ t → Change u img b (erase_block part p img a).image
        go false s q t = none (ap (λ (w : Written). w.image) (erase_unsized part p img a s))
        go true s false t = none (ap (λ (w : Written). w.image) (erase_refused part p img a t))
        go true s true t = last (f s t)

  erase_all_change : (p : ℕ) → (sized part img ≡ true → Done u img b (erase_all part p img)) → Change u img b (erase_all part p img)
  erase_all_change p f = go (sized part img) refl
    where
      go : (s : Bool) → sized part img ≡ s → Change u img b (erase_all part p img)
      go false s = none (all_unsized part p img s)
      go true s = last (f s)

  -- a packet's last byte
  pub packet_ends : (k : Kind) (n : ℕ) → position_of u.phase ≡ within k n → suc n ≡ need k (body n u b) → Ending u img b (finished k u img (body n u b))
  unfolding finished
  packet_ends page_read n e h = tells _ (omega (arith, page_reply_long img (get_or (body n u b) 0 0) (get_or (body n u b) 1 0)))
  packet_ends page_program n e h = ending_programs _ (λ r. program_change _ _ page_program _ (λ s m. done page_program n e h r s (page m)))
  packet_ends unit_program n e h = ending_programs _ (λ r. program_change _ _ unit_program _ (λ s m. done unit_program n e h r s (bytes m)))
  packet_ends block_erase n e h = ending_erases _ _ (λ r c. erase_change _ _ (λ s m. done block_erase n e h r s (block c m)))
  packet_ends all_erase n e h = ending_erases _ _ (λ r c. erase_all_change _ (λ s. done all_erase n e h r s (all c)))
  packet_ends id_check n e h = says_and_ends _ [] (checks (is_right img (body n u b))) (omega arith)

  -- a command byte that is taken
  leads_effect : (c : Meaning) → rate_fits c ≡ true → dropped c u ≡ false → Leads u img b (effect c u img b)
  unfolding effect rate_fits dropped srd_fits version_bytes
  leads_effect (begin k) f d = begins k (may_begin k (is_open u.registers) d)
  leads_effect clear f d = ends (reported 0x80 img refl (none refl))
  leads_effect status f d = ends (tells (u.registers.srd ∷ u.registers.srd1 ∷ []) (omega arith))
  leads_effect version f d = ends (tells version_bytes (omega arith))
  leads_effect (rate n) f d = ends (says_and_ends _ (b ∷ []) (rate_set n (leb-true n 4 f)) (omega arith))
  leads_effect time f d = ends (tells [] (omega arith))
  leads_effect unknown f d = nothing

  leads_at : (p : Position) → position_of u.phase ≡ p → Leads u img b (step_at p u img b)
  unfolding step_at asleep commanded in_packet completes
  leads_at (sleeping n) e =
      cond_elim (Leads u img b) (eqb b 0x00) _ _ (λ t. sleeps (min 16 (suc n)) (omega arith))
      (λ t. cond_elim (Leads u img b) (wakes n b) _ _ (λ s. wakes_up) (λ s. sleeps 0 (omega arith)))
  leads_at commanding e = cond_elim (Leads u img b) (dropped (meaning b) u) _ _ (λ t. nothing) (λ t. leads_effect (meaning b) (rates_fit b) t)
  leads_at (within k n) e =
      cond_elim (Leads u img b) (completes k n u b) _ _
      (λ t. ends (packet_ends k n e (eqb-true (suc n) (need k (body n u b)) t)))
      (λ t. goes_on k n e (eqb-false (suc n) (need k (body n u b)) t))

  pub leads : Leads u img b (step u img b)
  unfolding step
  leads = leads_at (position_of u.phase) refl

-- what holds of a unit's registers, and of all that a packet may leave of them, holds after any byte
pub registers_lead : (P : Registers → Type 0) {u : Port} {img : List ℕ} {b : ℕ} {o : Outcome}
    → P u.registers → ((r : Registers) → Leaves u.settings u.registers r → P r) → Leads u img b o → P o.unit.registers
registers_lead P k f nothing = k
registers_lead P {u} k f (sleeps n h) = subst⁻¹ P (phased_registers u _) k
registers_lead P {u} k f wakes_up = subst⁻¹ P (phased_registers u _) k
registers_lead P {u} k f (begins q h) = subst⁻¹ P (phased_registers u _) k
registers_lead P {u} k f (goes_on q n h l) = subst⁻¹ P (longer_registers u q n _) k
registers_lead P {u} k f (ends (says_and_ends r said l h)) = subst⁻¹ P (ended_registers u r) (f r l)
registers_lead P {u} k f (ends (writes_and_ends s new h d)) = subst⁻¹ P (ended_registers u _) (f _ (srd_set s h))
