-- Two units that answer every run alike until the first one opens take the same bytes of the same calls until then: a call stops where its replies have filled the area, and these are the same.
use Prim.Native.Nat.{ℕ, zero, suc, ◌+◌, ◌≤◌, ◌<◌}
use native.Mathlib.Omega.{arith}
use native.Mathlib.Decide.{ℕ_discrete, dec_lt}
use mathlib.Core.Path.{◌≡◌, refl, ap, sym, ◌∙◌, subst, subst₂}
use mathlib.Core.List.{List, [], ◌∷◌, ◌++◌, append-nil, append_cancel_left}
use lib.ListN.{length, take, drop, length-take}
use lib.Seq.{take-take}
use Rattle.slices.specs.Lists.{Bytes}
use Rattle.slices.proofs.Lists.{bytes_take, bytes_append}
use Rattle.unit.specs.declared.Unit.{Unit as Port}
use Rattle.protocol.specs.Outcome.{Outcome}
use Rattle.protocol.specs.Step.{step, run}
use Rattle.protocol.specs.Calls.{Left, answered}
use Rattle.protocol.proofs.Steps.{onward, run_append}
use Rattle.protocol.proofs.Runs.{Stopped}
use Rattle.demands.specs.Record.{Open}
use Rattle.demands.specs.Histories.{Call, brings, area_of, Entry, unit_after, At}
use Rattle.demands.specs.Histories.At.{here, later}
use Rattle.demands.specs.Opening.{ShutBefore, SameShown, SameAnswer, taken_by, EachSame}
use Rattle.demands.specs.Opening.EachSame.{none, both}
use Rattle.demands.proofs.Entries.{steps_of, steps_long, walk_of, Called}
use Rattle.demands.proofs.Entries.Called.{small, took}
use Rattle.demands.proofs.Bridge.{called_entries, called_long, called_unit, Went}
use Rattle.demands.proofs.Bridge.Went.{stays, calls}
use Rattle.demands.proofs.Calm.{Alike, ShutWithin, shut_join}

abbrev pub Twin : Port → List ℕ → Port → List ℕ → Type 0
Twin u img u' img' = (bs : List ℕ) → Bytes bs → ShutWithin u img bs → Alike (run u img bs) (run u' img' bs)

-- and so they go on after any run
pub twin_onward : {u u' : Port} {img img' : List ℕ} → Twin u img u' img' → (xs : List ℕ) → Bytes xs → ShutWithin u img xs
    → let o = run u img xs in let o' = run u' img' xs in Twin o.unit o.image o'.unit o'.image
twin_onward {u} {u'} {img} {img'} t xs bx sx ys by sy =
    let o : Outcome = run u img xs in
    let o' : Outcome = run u' img' xs in
    let b : Alike (onward o ys) (onward o' ys) =
    subst (λ (r : Outcome). Alike r (onward o' ys)) (run_append u img xs ys)
    (subst (Alike (run u img (xs ++ ys))) (run_append u' img' xs ys) (t (xs ++ ys) (bytes_append xs ys bx by) (shut_join xs ys sx sy))) in
    record {
      reply = append_cancel_left o.reply _ _ (b.reply ∙ ap (λ (l : List ℕ). l ++ (run o'.unit o'.image ys).reply) (sym (t xs bx sx).reply));
      phase = b.phase;
      registers = b.registers;
      collected = b.collected;
    }

-- the units of a trace that begins with the steps of some bytes
units_front : (m j : ℕ) (u : Port) (img bs : List ℕ) (fs : List Entry) (k : ℕ) → k ≤ length bs → unit_after u (steps_of m j u img bs ++ fs) k ≡ (run u img (take k bs)).unit
units_front m j u img bs fs zero h = refl
units_front m j u img [] fs (suc k) h = absurd (omega arith)
units_front m j u img (b ∷ bs) fs (suc k) h = units_front m (suc j) (step u img b).unit (step u img b).image bs fs k (omega arith)

units_back : (u : Port) (es fs : List Entry) (k n : ℕ) → length es + k ≡ n → unit_after u (es ++ fs) n ≡ unit_after (unit_after u es (length es)) fs k
units_back u [] fs k n h =
    let e : n ≡ k = omega arith in
    ap (unit_after u fs) e
units_back u (e ∷ es) fs k zero h = absurd (omega arith)
units_back u (e ∷ es) fs k (suc n) h = units_back e.unit es fs k n (omega arith)

-- two traces that show the same until the unit of the first opens
pub data Shows : Port → List Entry → List Entry → Type 0 where
  opened : {u : Port} {es fs : List Entry} → Open u → Shows u es fs
  ends : {u : Port} → Shows u [] []
  same : {u : Port} {e f : Entry} {es fs : List Entry} → SameShown e f → Shows e.unit es fs → Shows u (e ∷ es) (f ∷ fs)

pub shown_at : {u : Port} {es fs : List Entry} → Shows u es fs → (k : ℕ) (e : Entry) → At es k e → ShutBefore u es (suc k) → (f : Entry) × At fs k f × SameShown e f
shown_at (opened o) k e a shut = absurd (shut 0 (omega arith) o)
shown_at (same {f = f} s r) zero e here shut = (f, here, s)
shown_at (same s r) (suc k) e (later a) shut =
    let (f, b, t) = shown_at r k e a (λ j h. shut (suc j) (omega arith)) in
    (f, later b, t)
shown_at (ends {u = u}) k e a shut = elim a [ ]

-- one byte
module _ {u u' : Port} {img img' : List ℕ} (t : Twin u img u' img') (b : ℕ) (small : b < 256) (closed : Open u → ⊥) where
  shut_one : (bs : List ℕ) → ShutWithin (step u img b).unit (step u img b).image bs → ShutWithin u img (b ∷ bs)
  shut_one bs s zero h = closed
  shut_one bs s (suc k) h = s k (omega arith)

  one_alike : Alike (run u img (b ∷ [])) (run u' img' (b ∷ []))
  one_alike = t (b ∷ []) (small, tt) (shut_one [] (λ k h. absurd (omega arith)))

  pub one_heard : Alike (step u img b) (step u' img' b)
  one_heard =
      record {
        reply = sym (append-nil (step u img b).reply) ∙ (one_alike.reply ∙ append-nil (step u' img' b).reply);
        phase = one_alike.phase;
        registers = one_alike.registers;
        collected = one_alike.collected;
      }

  one_shown : (m j : ℕ) → let o = step u img b in let o' = step u' img' b in
      SameShown (record { call = m; place = j; byte = b; reply = o.reply; unit = o.unit; image = o.image })
      (record { call = m; place = j; byte = b; reply = o'.reply; unit = o'.unit; image = o'.image })
  one_shown m j =
      let a = one_heard in
      record {
        call = refl;
        place = refl;
        byte = refl;
        heard = record { reply = a.reply; phase = a.phase; registers = a.registers; collected = a.collected };
      }

  one_onward : let o = step u img b in let o' = step u' img' b in Twin o.unit o.image o'.unit o'.image
  one_onward = twin_onward t (b ∷ []) (small, tt) (shut_one [] (λ k h. absurd (omega arith)))

-- two calls of the same bytes: where they take a different number of them, a shorter front has opened the first unit
shows_steps : (m j : ℕ) (bs : List ℕ) (n n' : ℕ) {u u' : Port} {img img' : List ℕ} {fs fs' : List Entry} → Twin u img u' img' → Bytes bs → n ≤ length bs → n' ≤ length bs
    → (n < n' → ShutWithin u img (take n bs) → ⊥) → (n' < n → ShutWithin u img (take n' bs) → ⊥)
    → (let o = run u img (take n bs) in let o' = run u' img' (take n' bs) in Twin o.unit o.image o'.unit o'.image → Shows o.unit fs fs')
    → Shows u (steps_of m j u img (take n bs) ++ fs) (steps_of m j u' img' (take n' bs) ++ fs')
shows_steps m j bs zero zero t y h h' less more rest = rest t
shows_steps m j bs zero (suc n') t y h h' less more rest = absurd (less (omega arith) (λ k l. absurd (omega arith)))
shows_steps m j bs (suc n) zero t y h h' less more rest = absurd (more (omega arith) (λ k l. absurd (omega arith)))
shows_steps m j [] (suc n) (suc n') t y h h' less more rest = absurd (omega arith)
shows_steps m j (b ∷ bs) (suc n) (suc n') {u} {u'} {img} {img'} {fs} {fs'} t y h h' less more rest =
    go (ℕ_discrete u.registers.srd1 0x0C)
    (λ c. shows_steps m (suc j) bs n n' (one_onward t b y.0 c) y.1 (omega arith) (omega arith)
    (λ l s. less (omega arith) (shut_one t b y.0 c (take n bs) s)) (λ l s. more (omega arith) (shut_one t b y.0 c (take n' bs) s)) rest)
  where
    go : Dec (Open u) → ((Open u → ⊥) → Shows (step u img b).unit (steps_of m (suc j) (step u img b).unit (step u img b).image (take n bs) ++ fs) (steps_of m (suc j) (step u' img' b).unit (step u' img' b).image (take n' bs) ++ fs'))
        → Shows u (steps_of m j u img (b ∷ take n bs) ++ fs) (steps_of m j u' img' (b ∷ take n' bs) ++ fs')
    go (yes o) next = opened o
    go (no c) next = same (one_shown t b y.0 c m j) (next c)

-- the fronts of a front
module _ (u : Port) (img bs : List ℕ) (n : ℕ) where
  pub shut_to : ((j : ℕ) → j < n → Open (run u img (take j bs)).unit → ⊥) → ShutWithin u img (take n bs)
  shut_to s j h =
      let l : j < n = omega (arith, length-take n bs) in
      subst (λ (xs : List ℕ). Open (run u img xs).unit → ⊥) (sym (take-take j n bs (omega arith))) (s j l)

  pub shut_from : n ≤ length bs → ShutWithin u img (take n bs) → (j : ℕ) → j < n → Open (run u img (take j bs)).unit → ⊥
  shut_from most s j h =
      subst (λ (xs : List ℕ). Open (run u img xs).unit → ⊥) (take-take j n bs (omega arith)) (s j (omega (arith, length-take n bs)))

-- of two calls whose replies are the same up to where one of them stops, the other does not go on
not_sooner : (room : ℕ) (bs : List ℕ) {n n' : ℕ} {u u' : Port} {img img' : List ℕ} → Stopped room u img bs (walk_of u img bs n) → Stopped room u' img' bs (walk_of u' img' bs n')
    → (run u img (take n bs)).reply ≡ (run u' img' (take n bs)).reply → n < n' → ⊥
not_sooner room bs {n} s s' e h = omega (arith, s.why (omega (arith, s'.most)), s'.before n h, ap length e)

module _ (room : ℕ) (bs : List ℕ) {n n' : ℕ} {u u' : Port} {img img' : List ℕ} (s : Stopped room u img bs (walk_of u img bs n)) (s' : Stopped room u' img' bs (walk_of u' img' bs n'))
    (y : Bytes bs) (t : Twin u img u' img') where
  no_fewer : n < n' → ShutWithin u img (take n bs) → ⊥
  no_fewer h q = not_sooner room bs s s' (t (take n bs) (bytes_take n bs y) q).reply h

  no_more : n' < n → ShutWithin u img (take n' bs) → ⊥
  no_more h q = not_sooner room bs s' s (sym (t (take n' bs) (bytes_take n' bs y) q).reply) h

  same_number : ShutWithin u img (take n bs) → n ≡ n'
  same_number q = go (dec_lt n n') (dec_lt n' n)
    where
      go : Dec (n < n') → Dec (n' < n) → n ≡ n'
      go (yes h) d = absurd (no_fewer h q)
      go (no g) (yes h) = absurd (no_more h (shut_to u img bs n' (λ j k. shut_from u img bs n s.most q j (omega arith))))
      go (no g) (no h) = omega arith

-- what two calls left
abbrev TwinLefts : Left → Left → Type 0
TwinLefts l l' = Twin l.answer.unit l.image l'.answer.unit l'.image

-- the same call of both
module _ {m : ℕ} {u u' : Port} {img img' : List ℕ} {c : Call} {l l' : Left} {es es' : List Entry} where
  shows_call : {fs fs' : List Entry} → Called m u img c l es → Called m u' img' c l' es' → Bytes (brings c) → Twin u img u' img'
      → (TwinLefts l l' → Shows l.answer.unit fs fs') → Shows u (es ++ fs) (es' ++ fs')
  shows_call {fs} {fs'} (small h e f) (small h' e' f') y t rest =
      let next = subst₂ (λ (x x' : Left). TwinLefts x x' → Shows x.answer.unit fs fs') e e' rest in
      subst₂ (λ (xs ys : List Entry). Shows u (xs ++ fs) (ys ++ fs')) (sym f) (sym f') (next t)
  shows_call (small h e f) (took n' h' s' e' f') y t rest = absurd (omega arith)
  shows_call (took n h s e f) (small h' e' f') y t rest = absurd (omega arith)
  shows_call {fs} {fs'} (took n h s e f) (took n' h' s' e' f') y t rest =
      subst₂ (λ (xs ys : List Entry). Shows u (xs ++ fs) (ys ++ fs')) (sym f) (sym f')
      (shows_steps m 0 (brings c) n n' t y s.most s'.most
      (no_fewer (length (area_of c)) (brings c) s s' y t) (no_more (length (area_of c)) (brings c) s s' y t)
      (subst₂ (λ (x x' : Left). TwinLefts x x' → Shows x.answer.unit fs fs') e e' rest))

  -- where no byte that the first took but perhaps the last has opened it, both left the same
  same_call : Called m u img c l es → Called m u' img' c l' es' → Bytes (brings c) → Twin u img u' img' → ShutWithin u img (take l.answer.taken (brings c))
      → SameAnswer l l' × TwinLefts l l'
  same_call (small h e f) (small h' e' f') y t shut =
      subst₂ (λ (x x' : Left). SameAnswer x x' × TwinLefts x x') (sym e) (sym e') (record { refusal = refl; taken = refl; reply_length = refl; area = refl }, t)
  same_call (small h e f) (took n' h' s' e' f') y t shut = absurd (omega arith)
  same_call (took n h s e f) (small h' e' f') y t shut = absurd (omega arith)
  same_call (took n h s e f) (took n' h' s' e' f') y t shut =
      let q = subst (λ (x : Left). ShutWithin u img (take x.answer.taken (brings c))) e shut in
      let k = same_number (length (area_of c)) (brings c) s s' y t q in
      let a = t (take n (brings c)) (bytes_take n (brings c) y) q in
      subst₂ (λ (x x' : Left). SameAnswer x x' × TwinLefts x x') (sym e) (sym (e' ∙ ap (λ (n : ℕ). answered (run u' img' (take n (brings c))) n (area_of c)) (sym k))) (
        record { refusal = refl; taken = refl; reply_length = ap length a.reply; area = ap (λ (r : List ℕ). r ++ drop (length r) (area_of c)) a.reply },
        twin_onward t (take n (brings c)) (bytes_take n (brings c) y) q,
      )

pub shows_went : {m : ℕ} {u u' : Port} {img img' : List ℕ} {cs : List Call} {ls ls' : List Left} {es es' : List Entry}
    → Went m u img cs ls es → Went m u' img' cs ls' es' → Twin u img u' img' → Shows u es es'
shows_went stays stays t = ends
shows_went (calls s size y k w) (calls s' size' y' k' w') t = shows_call k k' y t (λ t. shows_went w w' t)

-- the units of a trace that begins with a call's entries, and goes on after it
module _ {m : ℕ} {u : Port} {img : List ℕ} {c : Call} {l : Left} {es : List Entry} (k : Called m u img c l es) (fs : List Entry) (j : ℕ) where
  call_units : j ≤ l.answer.taken → unit_after u (es ++ fs) j ≡ (run u img (take j (brings c))).unit
  call_units h =
      let n : ℕ = l.answer.taken in
      let bs : List ℕ = take n (brings c) in
      let long : j ≤ length bs = omega (arith, called_long k, ap length (called_entries k), steps_long m 0 u img bs) in
      ap (λ (xs : List Entry). unit_after u (xs ++ fs) j) (called_entries k)
      ∙ (units_front m 0 u img bs fs j long ∙ ap (λ (xs : List ℕ). (run u img xs).unit) (take-take j n (brings c) h))

  later_units : unit_after u (es ++ fs) (l.answer.taken + j) ≡ unit_after l.answer.unit fs j
  later_units = units_back u es fs j (l.answer.taken + j) (omega (arith, called_long k)) ∙ ap (λ (v : Port). unit_after v fs j) (called_unit k)

pub same_went : {m : ℕ} {u u' : Port} {img img' : List ℕ} {cs : List Call} {ls ls' : List Left} {es es' : List Entry}
    → Went m u img cs ls es → Went m u' img' cs ls' es' → Twin u img u' img' → (n : ℕ) → ShutBefore u es (taken_by (take n ls)) → EachSame (take n ls) (take n ls')
same_went w w' t zero shut = none
same_went stays stays t (suc n) shut = none
same_went {m} {u} {u'} {img} (calls {c = c} {l = l} {ls = ls} {es = es} {fs = fs} s size y k w) (calls s' size' y' k' w') t (suc n) shut =
    let (a, b) = same_call k k' y t (shut_to u img (brings c) l.answer.taken first) in
    both a (same_went w w' b n later)
  where
    first : (j : ℕ) → j < l.answer.taken → Open (run u img (take j (brings c))).unit → ⊥
    first j h o = shut j (omega arith) (ap (λ (v : Port). v.registers.srd1) (call_units k fs j (omega arith)) ∙ o)

    later : ShutBefore l.answer.unit fs (taken_by (take n ls))
    later j h o = shut (l.answer.taken + j) (omega arith) (ap (λ (v : Port). v.registers.srd1) (later_units k fs j) ∙ o)
