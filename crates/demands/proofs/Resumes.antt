-- A unit inside a packet is the part-way of the same record at a command: a packet's bytes but the last change only the phase and the first collected bytes, and those it has.
use Prim.Native.Nat.{ℕ, zero, suc, ◌-◌, ◌≤◌, ◌<◌}
use native.Mathlib.Omega.{arith}
use mathlib.Core.Path.{◌≡◌, refl, ap, ap₂, sym, ◌∙◌, subst, subst⁻¹}
use mathlib.Core.Logic.{inl, inr}
use mathlib.Core.List.{List, [], ◌∷◌, ◌++◌}
use lib.ListN.{length, take, drop, replicate, length-append, length-replicate}
use lib.ListN.{take-append-drop}
use lib.Seq.{length-take-le, take-append-le, take_all, drop-append_seam}
use Rattle.slices.proofs.Lists.{bytes_take}
use Rattle.unit.specs.declared.Unit.{Unit as Port}
use Rattle.unit.specs.declared.Registers.{Registers}
use Rattle.unit.specs.declared.Settings.{Settings}
use Rattle.unit.specs.declared.Phase.{Phase}
use Rattle.unit.specs.declared.Phase.TheVariants.{Awake}
use Rattle.unit.specs.declared.Place.TheVariants.{Command}
use Rattle.unit.specs.Phases.{Kind, command_of, need, position_of}
use Rattle.unit.specs.Phases.Kind.{page_read, page_program, unit_program, block_erase, all_erase, id_check}
use Rattle.unit.specs.Phases.Position.{within}
use Rattle.unit.specs.Model.{whole, state, phased, is_open}
use Rattle.unit.specs.Range.{position_fits}
use Rattle.unit.proofs.Positions.{phase_inside}
use Rattle.unit.proofs.Ranged.{Sound, in_range_lem}
use Rattle.unit.proofs.Builders.{sound_phased, phased_phase, phased_registers, phased_settings, phased_collected}
use Rattle.unit.proofs.Inside.{few, few_collected}
use Rattle.protocol.specs.Outcome.{Outcome, says, quiet}
use Rattle.protocol.specs.Step.{run}
use Rattle.protocol.specs.Calls.{Left, answered, run_call}
use Rattle.protocol.specs.Rows.{Row, Taken, Partway}
use Rattle.protocol.proofs.RowsFront.{front}
use Rattle.protocol.proofs.Refusals.{all_right}
use Rattle.protocol.proofs.Runs.{Stopped, run_answers}
use Rattle.demands.specs.Histories.{Call, brings, Entry, entries_from, Goes, Calls, Fit, unit_after, image_after}
use Rattle.demands.specs.Histories.Call.{run as a_run}
use Rattle.demands.specs.Histories.Goes.{ends, goes}
use Rattle.demands.specs.Table.{Inside as InPacket, Renumbered, Resumes}
use Rattle.demands.specs.Table.Renumbered.{none, next}
use Rattle.demands.proofs.Records.{inside_within}
use Rattle.demands.proofs.Exists.{fronts_of, fronts_are}
use Rattle.demands.proofs.Entries.{walk_of, Called, call_is}
use Rattle.demands.proofs.Bridge.{bytes_given, fit_sound, sound_fit, called_long, called_unit, called_image}
use Rattle.demands.proofs.Effects.{command_ready}
use Rattle.demands.proofs.Filled.{filled, filled_row}
use Rattle.demands.proofs.Covers.{takes_inside}

-- calls numbered one higher take the same bytes
entries_renumbered : (m : ℕ) (bs : List ℕ) (fronts : ℕ → Left) (j n : ℕ) → Renumbered (entries_from (suc m) bs fronts j n) (entries_from m bs fronts j n)
entries_renumbered m bs fronts j zero = none
entries_renumbered m bs fronts j (suc n) = next refl refl refl refl (entries_renumbered m bs fronts (suc j) n)

renumbered_append : {es fs es' fs' : List Entry} → Renumbered es fs → Renumbered es' fs' → Renumbered (es ++ es') (fs ++ fs')
renumbered_append none r = r
renumbered_append (next a b c d s) r = next a b c d (renumbered_append s r)

renumber : {m : ℕ} {u : Port} {img : List ℕ} {cs : List Call} {ls : List Left} {es : List Entry} → Goes m u img cs ls es → (fs : List Entry) × Goes (suc m) u img cs ls fs × Renumbered fs es
renumber ends = ([], ends, none)
renumber {m} (goes {c = c} {l = l} {fronts = fronts} a f g) =
    let (fs, h, r) = renumber g in
    (entries_from (suc m) (brings c) fronts 0 l.answer.taken ++ fs, goes a f h, renumbered_append (entries_renumbered m (brings c) fronts 0 l.answer.taken) r)

-- after a trace that others follow
unit_then : (u : Port) (es fs : List Entry) → unit_after u (es ++ fs) (length es) ≡ unit_after u es (length es)
unit_then u [] fs = refl
unit_then u (e ∷ es) fs = unit_then e.unit es fs

image_then : (img : List ℕ) (es fs : List Entry) → image_after img (es ++ fs) (length es) ≡ image_after img es (length es)
image_then img [] fs = refl
image_then img (e ∷ es) fs = image_then e.image es fs

command_small : (q : Kind) → command_of q < 256
unfolding command_of
command_small page_read = omega arith
command_small page_program = omega arith
command_small unit_program = omega arith
command_small block_erase = omega arith
command_small all_erase = omega arith
command_small id_check = omega arith

-- units with the same fields
same_unit : (x y : Port) → x.phase ≡ y.phase → x.registers ≡ y.registers → x.settings ≡ y.settings → x.collected ≡ y.collected → x ≡ y
same_unit x y p r t l =
    ap₂ (λ (f : Phase) (g : Registers). whole (state f g) x.settings x.collected) p r
    ∙ ap₂ (λ (s : Settings) (m : List ℕ). whole (state y.phase y.registers) s m) t l

module _ {u : Port} {img : List ℕ} (f : Fit u img) (q : Kind) (n : ℕ) (place : position_of u.phase ≡ within q n) where
  abbrev from : Port
  from = phased u (Awake Command)

  abbrev since : List ℕ
  since = take n u.collected

  abbrev bytes : List ℕ
  bytes = command_of q ∷ since

  abbrev area : List ℕ
  area = replicate 256 0

  s : Sound u
  s = fit_sound f

  from_sound : Sound from
  unfolding position_fits
  from_sound = sound_phased s (Awake Command) refl

  from_fit : Fit from img
  from_fit = sound_fit from_sound f.size

  long : length since ≡ n
  long = length-take-le n u.collected (omega (arith, s.room, few_collected s place))

  row : Row q (command_of q) (filled q since)
  row = filled_row q since (bytes_take n u.collected s.bytes) (omega (arith, few s place, long))

  front_is : (i : ℕ) → i ≤ n → take i (filled q since) ≡ take i since
  front_is i h = take-append-le i since _ (omega (arith, long))

  -- the bytes since the command, one by one
  partway : (i : ℕ) → i ≤ n → Partway from img q (filled q since) i (run from img (take (suc i) bytes))
  partway i h =
      subst (λ (l : List ℕ). Partway from img q (filled q since) i (run from img (command_of q ∷ l))) (front_is i h)
      (front (command_ready (phased_phase u (Awake Command)) from_sound) img row (taken (takes_inside s q place)) i
      (omega (arith, length-append since (replicate (need q since - length since) 0x00), length-replicate {A = ℕ} (need q since - length since) 0x00, few s place, long)))
    where
      taken : Taken u q → Taken from q
      taken (inl e) = inl e
      taken (inr o) = inr (ap is_open (phased_registers u (Awake Command)) ∙ o)

  -- all of them lead to the unit, and reply nothing
  comes_to : run from img bytes ≡ quiet u img
  comes_to =
      let p = subst (λ (l : List ℕ). Partway from img q (filled q since) n (run from img l)) (take_all (suc n) bytes (omega (arith, long))) (partway n (omega arith)) in
      let o : Outcome = run from img bytes in
      let unit : o.unit ≡ u =
      same_unit o.unit u (p.phase ∙ sym (phase_inside u.phase place)) (p.registers ∙ phased_registers u (Awake Command)) (p.settings ∙ phased_settings u (Awake Command))
      (p.collected ∙ (ap₂ (λ (l m : List ℕ). l ++ drop n m) (front_is n (omega arith) ∙ take_all n since (omega (arith, long))) (phased_collected u (Awake Command)) ∙ take-append-drop n u.collected)) in
      ap₂ (λ (x : Port) (l : List ℕ). says x l o.reply) unit p.image ∙ ap (says u img) p.reply

  -- so a call of them takes them all
  stops : Stopped 256 from img bytes (walk_of from img bytes (suc n))
  stops =
      record {
        is = refl;
        most = omega (arith, long);
        before = λ j h. omega (arith, ap length (silent j h));
        why = λ h. absurd (omega (arith, long));
      }
    where
      silent : (j : ℕ) → j < suc n → (run from img (take j bytes)).reply ≡ []
      silent zero h = refl
      silent (suc i) h = (partway i (omega arith)).reply

  abbrev call : Call
  call = a_run bytes area

  abbrev answer : Left
  answer = run_call from img bytes area

  answers : answer ≡ answered (quiet u img) (suc n) area
  answers =
      run_answers from img bytes area (walk_of from img bytes (suc n)) (all_right from img area f.size (omega arith) (in_range_lem from_sound)) stops
      ∙ ap (λ (o : Outcome). answered o (suc n) area) (ap (run from img) (take_all (suc n) bytes (omega (arith, long))) ∙ comes_to)

  to_unit : answer.answer.unit ≡ u
  to_unit = ap (λ (l : Left). l.answer.unit) answers

  to_image : answer.image ≡ img
  to_image = ap (λ (l : Left). l.image) answers

  -- and calls on the unit go on after it
  onward : {cs : List Call} (c : Calls u img cs) → (d : Calls from img (call ∷ cs))
      × (unit_after from d.trace (suc n) ≡ u) × (image_after img d.trace (suc n) ≡ img) × Renumbered (drop (suc n) d.trace) c.trace
  onward {cs} c =
      let (fs, h, r) = renumber c.goes in
      let es : List Entry = entries_from 0 bytes (fronts_of from img call) 0 answer.answer.taken in
      let k : Called 0 from img call answer es = call_is 0 from_sound img f.size {c = call} {l = answer} refl (fronts_are from img call) in
      let count : length es ≡ suc n = called_long k ∙ ap (λ (l : Left). l.answer.taken) answers in
      let g : Goes 1 answer.answer.unit answer.image cs c.lefts fs =
      subst⁻¹ (λ (x : Port). Goes 1 x answer.image cs c.lefts fs) to_unit (subst⁻¹ (λ (l : List ℕ). Goes 1 u l cs c.lefts fs) to_image h) in (
        record { bytes = ((command_small q, bytes_given since (bytes_take n u.collected s.bytes)), c.bytes); lefts = answer ∷ c.lefts; trace = es ++ fs; goes = goes refl (fronts_are from img call) g },
        ap (unit_after from (es ++ fs)) (sym count) ∙ (unit_then from es fs ∙ (called_unit k ∙ to_unit)),
        ap (image_after img (es ++ fs)) (sym count) ∙ (image_then img es fs ∙ (called_image k ∙ to_image)),
        subst⁻¹ (λ (l : List Entry). Renumbered l c.trace) (ap (λ (m : ℕ). drop m (es ++ fs)) (sym count) ∙ drop-append_seam es fs) r,
      )

  resumes_at : Resumes u img (command_of q) n
  resumes_at =
      record {
        from = from;
        fit = from_fit;
        phase = phased_phase u (Awake Command);
        registers = phased_registers u (Awake Command);
        settings = phased_settings u (Awake Command);
        collected = phased_collected u (Awake Command);
        onward = onward;
      }

pub resumes : {u : Port} {img : List ℕ} {b n : ℕ} → Fit u img → InPacket b n u.phase → Resumes u img b n
resumes {u} {img} {b} {n} f i =
    let (q, e, p) = inside_within i in
    subst⁻¹ (λ (b : ℕ). Resumes u img b n) e (resumes_at f q n p)
