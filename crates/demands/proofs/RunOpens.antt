-- Every list of bytes has a reading, and its pieces say what they lead to: so a run of the fresh unit opens where the reading has the right packet and fewer than three wrong ID packets before it,
-- and up to there shows no more of the image than the ID bytes. Where there are three, the unit is locked when the right packet comes, and no byte opens it any more.
-- That a run which opens has such a reading needs no law of the machine: the reading is there, and every other reading would have left the unit closed.
use Prim.Native.Nat.{ℕ, min, ◌+◌, ◌≤◌, ◌<◌}
use native.Mathlib.Omega.{arith}
use native.Mathlib.Decide.{dec_lt}
use mathlib.Core.Bool.{false}
use mathlib.Core.Logic.{◌↔◌, ◌⊎◌, inl, inr}
use mathlib.Core.Path.{◌≡◌, refl, ap, sym, ◌∙◌, subst}
use mathlib.Core.List.{List, [], ◌∷◌, ◌++◌, append-nil}
use lib.ListN.{length, take, length-append}
use lib.Seq.{take-append_seam}
use Rattle.packets.specs.Pieces.{Each, joined, Stretch, stretch_bytes, Wakes, Dull, Packet, packet_bytes, right}
use Rattle.packets.specs.Readings.{Bytes as PacketBytes, Log, slept, stayed_shut, opened, log_bytes, Wrong, Reads, Reading}
use Rattle.packets.specs.Counts.{checks, wrong_checks}
use Rattle.packets.proofs.Readings.{reading}
use Rattle.packets.proofs.Openings.{unread_last}
use Rattle.slices.specs.Lists.{Bytes}
use Rattle.unit.specs.declared.Inputs.{Inputs}
use Rattle.unit.specs.declared.Registers.{Registers}
use Rattle.unit.specs.declared.Phase.TheVariants.{Asleep, Awake}
use Rattle.unit.specs.declared.Place.TheVariants.{Command}
use Rattle.unit.specs.Model.{no_bytes, begun, inputs, fresh}
use Rattle.unit.proofs.Builders.{sound_fresh}
use Rattle.protocol.specs.Outcome.{Outcome}
use Rattle.protocol.specs.Step.{run}
use Rattle.demands.specs.Record.{Open, lock_after}
use Rattle.demands.specs.Flash.{ids, Blank}
use Rattle.demands.specs.Opening.{OpeningInTime}
use Rattle.demands.proofs.Records.{filled_is}
use Rattle.demands.proofs.Calm.{View, Seen, Alike, After, ShutWithin, Passes, Comes, Opened, Closed, Counted, At, seen_shut, bytes_apart, none, weaken, then}
use Rattle.demands.proofs.Nights.{zeros, dulls, wake}
use Rattle.demands.proofs.Checks.{packets, right_packet_lem, broken_off, unfinished}
use Rattle.demands.proofs.Locked.{locked_bytes}

-- the fresh unit of an image that is not blank
abbrev pub start : View
start = record { phase = Asleep 0; registers = (begun false (inputs 0)).registers; collected = no_bytes }

start_at : At (Asleep 0) 0 start
unfolding begun
start_at = record { phase = refl; collected = refl; closed = λ o. omega arith; counted = refl }

-- up to the end of some packets that are not the right one, and on from there
awake : {i : List ℕ} {P : View → Type 0} (d : List Stretch) (w : Stretch) (ps : List Packet) (rest : List ℕ) → Each Dull d → Wakes w → Each (Wrong i) ps
    → ((v : View) → At (Awake Command) (min lock_after (checks ps)) v → Comes i v P rest) → Comes i start P (joined stretch_bytes d ++ (stretch_bytes w ++ (joined packet_bytes ps ++ rest)))
awake d w ps rest dull wakes wrong next =
    let e : min lock_after (0 + checks ps) ≡ min lock_after (checks ps) = omega arith in
    then (dulls d dull start_at) (λ v a. then (wake w wakes a) (λ v a. then (packets ps wrong (omega arith) a) (λ x k. next x (subst (λ (n : ℕ). At (Awake Command) n x) e k))))

-- it is closed, and so many wrong ID checks were counted; or it is open
abbrev Stays : ℕ → View → Type 0
Stays n w = Closed w × Counted n w

abbrev Opens : ℕ → View → Type 0
Opens n w = Opened w × Counted n w

broken_stays : {n : ℕ} {v : View} (t : List ℕ) → At (Awake Command) n v → Stays n (broken_off v t)
broken_stays [] a = (a.closed, a.counted)
broken_stays (b ∷ t) a = (a.closed, a.counted)

packet_bytes_lem : (bs : List ℕ) → Bytes bs → PacketBytes bs
packet_bytes_lem [] y = tt
packet_bytes_lem (b ∷ bs) y = (y.0, packet_bytes_lem bs y.1)

opening_comes : {i bs : List ℕ} (o : OpeningInTime i bs) → Comes i start (Opens (checks o.opening.packets)) bs
opening_comes {i} o =
    let p = o.opening in
    let ps : List Packet = p.packets in
    let r = p.reads in
    let e : min lock_after (checks ps) ≡ checks ps = omega (arith, o.few) in
    subst (Comes i start (Opens (checks ps))) (sym p.whole)
    (awake p.dull p.wake ps (packet_bytes (right i) ++ []) r.0 r.1 r.2
    (λ v a. then (right_packet_lem (subst (λ (n : ℕ). At (Awake Command) n v) e a) o.few) (λ v q. none q)))

-- what bytes with a reading that has so many wrong ID packets make of the fresh unit: it stays closed, and that many are counted, up to 3;
-- or it opens, at the end of a front of them that ends with the first right packet
pub data Told (i bs : List ℕ) (n : ℕ) : Type 0 where
  stays : Comes i start (Stays (min lock_after n)) bs → Told i bs n
  opens : (front unread : List ℕ) → bs ≡ front ++ unread → (o : OpeningInTime i front) → checks o.opening.packets ≡ n → Told i bs n

-- the same of bytes that do not go on after the opening
abbrev Ended : List ℕ → List ℕ → ℕ → Type 0
Ended i bs n = Comes i start (Stays (min lock_after n)) bs ⊎ ((o : OpeningInTime i bs) × (checks o.opening.packets ≡ n))

log_tells : (i bs : List ℕ) (l : Log) → Reads i l → bs ≡ log_bytes i l → Told i bs (wrong_checks l)
log_tells i bs (slept d n) r e =
    stays (subst (Comes i start (Stays 0)) (sym e) (then (dulls d r start_at) (λ v a. weaken (λ w b. (b.closed, b.counted)) (zeros 0 n (omega arith) a))))
log_tells i bs (stayed_shut d w ps t) r e =
    stays (subst (Comes i start (Stays (min lock_after (checks ps)))) (sym e)
    (awake d w ps t r.0 r.1 r.2 (λ v a. weaken (λ x q. subst (Stays (min lock_after (checks ps))) (sym q) (broken_stays t a)) (unfinished t r.3 a))))
log_tells i bs (opened d w ps unread) r e = go (dec_lt (checks ps) lock_after)
  where
    go : Dec (checks ps < lock_after) → Told i bs (checks ps)
    go (yes few) =
        opens (log_bytes i (opened d w ps [])) unread (e ∙ unread_last i d w ps unread)
        (record { opening = record { dull = d; wake = w; packets = ps; reads = r; whole = refl }; few = few }) refl
    go (no many) =
        let full : min lock_after (checks ps) ≡ lock_after = omega arith in
        stays (subst (Comes i start (Stays (min lock_after (checks ps)))) (sym e)
        (awake d w ps (packet_bytes (right i) ++ unread) r.0 r.1 r.2
        (λ v a. weaken (λ x k. (k.closed, k.full ∙ sym full)) (locked_bytes (record { closed = a.closed; full = a.counted ∙ full }) (packet_bytes (right i) ++ unread)))))

pub told : (i bs : List ℕ) (r : Reading i bs) → Told i bs (wrong_checks r.log)
told i bs r = log_tells i bs r.log r.reads r.whole

-- a fresh unit of an image that is not blank
module _ (img : List ℕ) (inputs : Inputs) (size : length img ≡ 20480) (range : inputs.protection ≤ 15) (n : Blank img → ⊥) where
  fresh_seen : Seen start (fresh img inputs)
  unfolding fresh begun
  fresh_seen = record { phase = refl; registers = rw (filled_is img size n); collected = refl }

  passes : {P : View → Type 0} {bs : List ℕ} → Bytes bs → (c : Comes (ids img) start P bs) → Passes (fresh img inputs) img bs c.view c.said
  passes bytes c = c.leads (fresh img inputs) img size refl (sound_fresh img inputs range) bytes fresh_seen

  open_at_end : {bs : List ℕ} {n : ℕ} → Bytes bs → Comes (ids img) start (Opens n) bs → Open (run (fresh img inputs) img bs).unit
  open_at_end bytes c = ap (λ (r : Registers). r.srd1) (passes bytes c).after.seen.registers ∙ c.is.0

  counted_at_end : {bs : List ℕ} {n : ℕ} → Bytes bs → Comes (ids img) start (Counted n) bs → (run (fresh img inputs) img bs).unit.registers.mismatches ≡ n
  counted_at_end bytes c = ap (λ (r : Registers). r.mismatches) (passes bytes c).after.seen.registers ∙ c.is

  -- bytes of which no shorter front opens the unit leave it closed, or end with the first right packet
  ends : {bs : List ℕ} {n : ℕ} → Bytes bs → ShutWithin (fresh img inputs) img bs → Told (ids img) bs n → Ended (ids img) bs n
  ends bytes shut (stays c) = inl c
  ends {n = n} bytes shut (opens front [] e o k) =
      subst (λ (l : List ℕ). Ended (ids img) l n) (sym (e ∙ append-nil front)) (inr (o, k))
  ends bytes shut (opens front (x ∷ xs) e o k) =
      let f = ap (take (length front)) e ∙ take-append_seam front (x ∷ xs) in
      absurd (shut (length front) (omega (arith, ap length e, length-append front (x ∷ xs)))
      (subst (λ (l : List ℕ). Open (run (fresh img inputs) img l).unit) (sym f) (open_at_end (bytes_apart front (x ∷ xs) (subst Bytes e bytes)).0 (opening_comes o))))

  module _ (bs : List ℕ) (bytes : Bytes bs) where
    some_reading : Reading (ids img) bs
    some_reading = reading (ids img) bs refl (packet_bytes_lem bs bytes)

    -- open after these bytes, and after no shorter front of them: exactly where they end with the first right packet, and fewer than three wrong ones came before it
    pub run_opens : (Open (run (fresh img inputs) img bs).unit × ShutWithin (fresh img inputs) img bs) ↔ OpeningInTime (ids img) bs
    run_opens = ((λ o. go o.0 (ends bytes o.1 (told (ids img) bs some_reading))), λ o. let c = opening_comes o in (open_at_end bytes c, (passes bytes c).before))
      where
        go : {n : ℕ} → Open (run (fresh img inputs) img bs).unit → Ended (ids img) bs n → OpeningInTime (ids img) bs
        go o (inl c) = absurd (seen_shut c.is.0 (passes bytes c).after.seen o)
        go o (inr e) = e.0

    -- up to the opening, that byte included, the bytes lead to one view and one reply, and the count is that of the reading's wrong ID packets, up to 3
    pub until_open : (r : Reading (ids img) bs) → ShutWithin (fresh img inputs) img bs → Comes (ids img) start (Counted (min lock_after (wrong_checks r.log))) bs
    until_open r shut = go (ends bytes shut (told (ids img) bs r))
      where
        go : {n : ℕ} → Ended (ids img) bs n → Comes (ids img) start (Counted (min lock_after n)) bs
        go (inl c) = weaken (λ w p. p.1) c
        go {n} (inr (o, k)) =
            let e : checks o.opening.packets ≡ min lock_after n = omega (arith, k, o.few) in
            weaken (λ w p. p.1 ∙ e) (opening_comes o)

    pub run_counts : (r : Reading (ids img) bs) → ShutWithin (fresh img inputs) img bs → (run (fresh img inputs) img bs).unit.registers.mismatches ≡ min lock_after (wrong_checks r.log)
    run_counts r shut = counted_at_end bytes (until_open r shut)

    -- the image stays
    pub run_unchanged : ShutWithin (fresh img inputs) img bs → (run (fresh img inputs) img bs).image ≡ img
    run_unchanged shut = (passes bytes (until_open some_reading shut)).after.image

seen_alike : {img img' said : List ℕ} {w : View} {o o' : Outcome} → After img w said o → After img' w said o' → Alike o o'
seen_alike a b =
    record {
      reply = a.reply ∙ sym b.reply;
      phase = a.seen.phase ∙ sym b.seen.phase;
      registers = a.seen.registers ∙ sym b.seen.registers;
      collected = a.seen.collected ∙ sym b.seen.collected;
    }

-- two images with the same ID bytes, neither blank, under any protections: up to the opening, that byte included, they cannot be told apart
pub run_unseen : (img img' : List ℕ) (inputs inputs' : Inputs) → length img ≡ 20480 → length img' ≡ 20480 → inputs.protection ≤ 15 → inputs'.protection ≤ 15
    → (Blank img → ⊥) → (Blank img' → ⊥) → ids img ≡ ids img' → (bs : List ℕ) → Bytes bs → ShutWithin (fresh img inputs) img bs
    → Alike (run (fresh img inputs) img bs) (run (fresh img' inputs') img' bs)
run_unseen img img' inputs inputs' size size' range range' n n' same bs bytes shut =
    let c = until_open img inputs size range n bs bytes (some_reading img inputs size range n bs bytes) shut in
    seen_alike (passes img inputs size range n bytes c).after
    (c.leads (fresh img' inputs') img' size' (sym same) (sound_fresh img' inputs' range') bytes (fresh_seen img' inputs' size' range' n')).after
