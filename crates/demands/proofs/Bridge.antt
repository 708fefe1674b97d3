-- The bridge from histories to the step: every clause is an equation, so each call of a history is one that the specification computes, and the history's trace is the run of the bytes that were taken.
use Prim.Native.Nat.{ℕ, suc}
use mathlib.Core.Path.{◌≡◌, refl, ap, ap₂, sym, ◌∙◌, subst⁻¹}
use mathlib.Core.List.{List, [], ◌∷◌, ◌++◌}
use lib.ListN.{length, take}
use lib.Seq.{length-take-le}
use Rattle.packets.specs.Pieces.{Each as EachGiven}
use Rattle.packets.specs.Readings.{Bytes as GivenBytes}
use Rattle.slices.specs.Lists.{Bytes}
use Rattle.slices.proofs.Lists.{bytes_take}
use Rattle.unit.specs.declared.Unit.{Unit as Port}
use Rattle.unit.specs.declared.Inputs.{Inputs}
use Rattle.unit.specs.declared.Settings.{Settings}
use Rattle.unit.specs.Model.{fresh}
use Rattle.unit.proofs.Ranged.{Sound, sound, in_range_lem}
use Rattle.unit.proofs.Builders.{sound_fresh, fresh_protection}
use Rattle.protocol.specs.declared.Started.{Started}
use Rattle.protocol.specs.Step.{run}
use Rattle.protocol.specs.Calls.{Left}
use Rattle.protocol.proofs.Reasons.StartReason.{fine}
use Rattle.protocol.proofs.Sound.{sound_run, size_run, settings_run}
use Rattle.protocol.proofs.Refusals.{start_exactly, start_done}
use Rattle.demands.specs.Histories.{Call, brings, Answers, Entry, entries_from, Fronts, Goes, Calls, History, Fit, unit_after, image_after, taken, At}
use Rattle.demands.specs.Histories.Goes.{ends, goes}
use Rattle.demands.proofs.Records.{in_range_lem as range_is}
use Rattle.demands.proofs.Traces.{Step, Stepped, stepped_append, entry_steps, taken_bytes, sound_after, size_after, unit_run, image_run}
use Rattle.demands.proofs.Traces.Stepped.{done}
use Rattle.demands.proofs.Exists.{left_of, lefts_of, answers_left, fronts_of, fronts_are}
use Rattle.demands.proofs.Entries.{steps_of, steps_stepped, steps_long, steps_unit, steps_image, Called, call_is}
use Rattle.demands.proofs.Entries.Called.{small, took}

-- the bytes that a caller gives, as the crates below say it
pub given_bytes : (bs : List ℕ) → GivenBytes bs → Bytes bs
given_bytes [] y = tt
given_bytes (b ∷ bs) y = (y.0, given_bytes bs y.1)

pub bytes_given : (bs : List ℕ) → Bytes bs → GivenBytes bs
bytes_given [] y = tt
bytes_given (b ∷ bs) y = (y.0, bytes_given bs y.1)

-- what a call leaves is the step's: the next unit is sound, the image keeps its size, and the entries are stepped and lead there
module _ {m : ℕ} {u : Port} {img : List ℕ} {c : Call} {l : Left} {es : List Entry} where
  pub called_sound : Sound u → Bytes (brings c) → Called m u img c l es → Sound l.answer.unit
  called_sound s y (small h e f) = subst⁻¹ (λ (x : Left). Sound x.answer.unit) e s
  called_sound s y (took n h st e f) = subst⁻¹ (λ (x : Left). Sound x.answer.unit) e (sound_run s img (take n (brings c)) (bytes_take n (brings c) y))

  pub called_size : Called m u img c l es → length l.image ≡ length img
  called_size (small h e f) = ap (λ (x : Left). length x.image) e
  called_size (took n h st e f) = ap (λ (x : Left). length x.image) e ∙ size_run u img (take n (brings c))

  pub called_stepped : Bytes (brings c) → Called m u img c l es → Stepped u img es
  called_stepped y (small h e f) = subst⁻¹ (Stepped u img) f done
  called_stepped y (took n h st e f) = subst⁻¹ (Stepped u img) f (steps_stepped m 0 u img (take n (brings c)) (bytes_take n (brings c) y))

  pub called_unit : Called m u img c l es → unit_after u es (length es) ≡ l.answer.unit
  called_unit (small h e f) = ap (λ (xs : List Entry). unit_after u xs (length xs)) f ∙ ap (λ (x : Left). x.answer.unit) (sym e)
  called_unit (took n h st e f) =
      ap (λ (xs : List Entry). unit_after u xs (length xs)) f
      ∙ (steps_unit m 0 u img (take n (brings c)) ∙ ap (λ (x : Left). x.answer.unit) (sym e))

  pub called_image : Called m u img c l es → image_after img es (length es) ≡ l.image
  called_image (small h e f) = ap (λ (xs : List Entry). image_after img xs (length xs)) f ∙ ap (λ (x : Left). x.image) (sym e)
  called_image (took n h st e f) =
      ap (λ (xs : List Entry). image_after img xs (length xs)) f
      ∙ (steps_image m 0 u img (take n (brings c)) ∙ ap (λ (x : Left). x.image) (sym e))

  -- its entries are the steps of the bytes that it took
  pub called_entries : Called m u img c l es → es ≡ steps_of m 0 u img (take l.answer.taken (brings c))
  called_entries (small h e f) = f ∙ ap (λ (x : Left). steps_of m 0 u img (take x.answer.taken (brings c))) (sym e)
  called_entries (took n h st e f) = f ∙ ap (λ (x : Left). steps_of m 0 u img (take x.answer.taken (brings c))) (sym e)

  pub called_long : Called m u img c l es → length es ≡ l.answer.taken
  called_long (small h e f) = ap length f ∙ ap (λ (x : Left). x.answer.taken) (sym e)
  called_long (took n h st e f) =
      ap length f
      ∙ (steps_long m 0 u img (take n (brings c))
      ∙ (length-take-le n (brings c) st.most ∙ ap (λ (x : Left). x.answer.taken) (sym e)))

-- calls one after the other, each on a sound unit and an image of the right size, each as the step says
pub data Went : ℕ → Port → List ℕ → List Call → List Left → List Entry → Type 0 where
  stays : {m : ℕ} {u : Port} {img : List ℕ} → Went m u img [] [] []
  calls : {m : ℕ} {u : Port} {img : List ℕ} {c : Call} {cs : List Call} {l : Left} {ls : List Left} {es fs : List Entry}
      → Sound u → length img ≡ 20480 → Bytes (brings c) → Called m u img c l es → Went (suc m) l.answer.unit l.image cs ls fs → Went m u img (c ∷ cs) (l ∷ ls) (es ++ fs)

pub goes_went : {m : ℕ} {u : Port} {img : List ℕ} {cs : List Call} {ls : List Left} {es : List Entry}
    → Sound u → length img ≡ 20480 → EachGiven (λ (c : Call). GivenBytes (brings c)) cs → Goes m u img cs ls es → Went m u img cs ls es
goes_went s size y ends = stays
goes_went {m} {u} {img} s size y (goes {c = c} {l = l} a f g) =
    let k = call_is m s img size {c = c} {l = l} a f in
    let b = given_bytes (brings c) y.0 in
    calls s size b k (goes_went (called_sound s b k) (called_size k ∙ size) y.1 g)

pub went_stepped : {m : ℕ} {u : Port} {img : List ℕ} {cs : List Call} {ls : List Left} {es : List Entry} → Went m u img cs ls es → Stepped u img es
went_stepped stays = done
went_stepped (calls s size y k w) = stepped_append (called_stepped y k) (called_unit k) (called_image k) (went_stepped w)

-- calls on a unit in range and an image of the right size: their trace is the run of their bytes
pub fit_sound : {u : Port} {img : List ℕ} → Fit u img → Sound u
fit_sound {u} f = sound u ((range_is u).0 f.range) f.room (given_bytes u.collected f.bytes)

module _ {u : Port} {img : List ℕ} {cs : List Call} (f : Fit u img) (c : Calls u img cs) where
  pub went : Went 0 u img cs c.lefts c.trace
  went = goes_went (fit_sound f) f.size c.bytes c.goes

  pub stepped : Stepped u img c.trace
  stepped = went_stepped went

  -- after k bytes, whichever calls brought them
  module _ (k : ℕ) where
    pub unit_is : unit_after u c.trace k ≡ (run u img (take k (taken c.trace))).unit
    unit_is = unit_run stepped k

    pub image_is : image_after img c.trace k ≡ (run u img (take k (taken c.trace))).image
    image_is = image_run stepped k

    pub sound_at : Sound (unit_after u c.trace k)
    sound_at = sound_after (fit_sound f) stepped k

    pub size_at : length (image_after img c.trace k) ≡ 20480
    size_at = size_after stepped k ∙ f.size

    pub settings_at : (unit_after u c.trace k).settings ≡ u.settings
    settings_at = ap (λ (u : Port). u.settings) unit_is ∙ settings_run u img (take k (taken c.trace))

    pub protection_at : (unit_after u c.trace k).settings.protection ≡ u.settings.protection
    protection_at = ap (λ (t : Settings). t.protection) settings_at

  -- the entry at a position is the step from there
  pub entry_is : {k : ℕ} {e : Entry} → At c.trace k e → Step (unit_after u c.trace k) (image_after img c.trace k) e
  entry_is a = entry_steps stepped a

  pub bytes_are : Bytes (taken c.trace)
  bytes_are = taken_bytes stepped

-- a sound unit is in range
pub sound_fit : {u : Port} {img : List ℕ} → Sound u → length img ≡ 20480 → Fit u img
sound_fit {u} s size = record { range = (range_is u).1 (in_range_lem s); room = s.room; bytes = bytes_given u.collected s.bytes; size = size }

-- a history: its unit is the fresh one, and in range
module _ {img : List ℕ} {inputs : Inputs} {cs : List Call} (h : History img inputs cs) where
  pub start_is : h.started ≡ record { refusal = 0; unit = fresh img inputs }
  start_is = h.start ∙ start_done img inputs (start_exactly img inputs (fine h.size h.protection))

  pub start_fresh : h.started.unit ≡ fresh img inputs
  start_fresh = ap (λ (r : Started). r.unit) start_is

  pub start_protection : h.started.unit.settings.protection ≡ inputs.protection
  start_protection = ap (λ (u : Port). u.settings.protection) start_fresh ∙ fresh_protection img inputs

  pub start_fit : Fit h.started.unit img
  start_fit = sound_fit (subst⁻¹ Sound start_fresh (sound_fresh img inputs h.protection)) h.size

-- the entries of calls, as a function of the unit and the image they begin with
abbrev pub entries_of : ℕ → Port → List ℕ → List Call → List Entry
entries_of m u img [] = []
entries_of m u img (c ∷ cs) =
    let l = left_of u img c in
    let es = entries_of (suc m) l.answer.unit l.image cs in
    steps_of m 0 u img (take l.answer.taken (brings c)) ++ es

goes_is : {m : ℕ} {u : Port} {img : List ℕ} {cs : List Call} {ls : List Left} {es : List Entry}
    → Sound u → length img ≡ 20480 → EachGiven (λ (c : Call). GivenBytes (brings c)) cs → Goes m u img cs ls es → (ls ≡ lefts_of u img cs) × (es ≡ entries_of m u img cs)
goes_is s size y ends = (refl, refl)
goes_is {m} {u} {img} s size y (goes {c = c} {cs = cs} {l = l} {ls = ls} {es = es} a f g) =
    let k = call_is m s img size {c = c} {l = l} a f in
    let w = goes_is (called_sound s (given_bytes (brings c) y.0) k) (called_size k ∙ size) y.1 g in
    let e : l ≡ left_of u img c = answers_left u img c l a in
    let more : Left → List Entry = λ x. steps_of m 0 u img (take x.answer.taken (brings c)) ++ entries_of (suc m) x.answer.unit x.image cs in (
      ap (λ (xs : List Left). l ∷ xs) w.0 ∙ ap (λ (x : Left). x ∷ lefts_of x.answer.unit x.image cs) e,
      ap₂ (λ (xs ys : List Entry). xs ++ ys) (called_entries k) w.1 ∙ ap more e,
    )

-- what a history left and took, by its image, inputs and calls alone
module _ {img : List ℕ} {inputs : Inputs} {cs : List Call} (h : History img inputs cs) where
  goes_as : (h.calls.lefts ≡ lefts_of h.started.unit img cs) × (h.calls.trace ≡ entries_of 0 h.started.unit img cs)
  goes_as = goes_is (fit_sound (start_fit h)) h.size h.calls.bytes h.calls.goes

  pub lefts_are : h.calls.lefts ≡ lefts_of (fresh img inputs) img cs
  lefts_are = goes_as.0 ∙ ap (λ (u : Port). lefts_of u img cs) (start_fresh h)

  pub trace_is : h.calls.trace ≡ entries_of 0 (fresh img inputs) img cs
  trace_is = goes_as.1 ∙ ap (λ (u : Port). entries_of 0 u img cs) (start_fresh h)

-- so two histories on the same image, inputs and calls left the same and took the same
pub one_history : {img : List ℕ} {inputs : Inputs} {cs : List Call} (g h : History img inputs cs)
    → (g.calls.lefts ≡ h.calls.lefts) × (g.calls.trace ≡ h.calls.trace)
one_history g h = (lefts_are g ∙ sym (lefts_are h), trace_is g ∙ sym (trace_is h))

-- a call by itself, on a unit in range and an image of the right size
pub call_called : {u : Port} {img : List ℕ} → Fit u img → (c : Call) (l : Left) → Answers u img c l → (es : List Entry) × Called 0 u img c l es
call_called {u} {img} f c l a =
    let g : Fronts u img c l (fronts_of u img c) = subst⁻¹ (λ (x : Left). Fronts u img c x (fronts_of u img c)) (answers_left u img c l a) (fronts_are u img c) in
    (entries_from 0 (brings c) (fronts_of u img c) 0 l.answer.taken, call_is 0 (fit_sound f) img f.size {c = c} {l = l} a g)
