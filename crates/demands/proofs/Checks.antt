-- At a command, while closed: any byte but F5 is dropped or answered and leaves the unit closed; F5 and what follows it is stored up to its last byte,
-- which opens the unit where it completes the right packet and the unit is not locked, and leaves it closed and counts where it completes another.
use Prim.Native.Nat.{ℕ, zero, suc, min, ◌+◌, ◌-◌, ◌≤◌, ◌<◌}
use native.Mathlib.Omega.{arith}
use native.Mathlib.Decide.{ℕ_discrete}
use mathlib.Core.Bool.{false}
use mathlib.Core.Logic.{◌≢◌, inl}
use mathlib.Core.Path.{◌≡◌, refl, ap, ap₂, sym, ◌∙◌, subst}
use mathlib.Core.List.{List, [], ◌∷◌, ◌++◌}
use lib.ListN.{length, take, drop, get_or, replicate, length-append, length-replicate}
use lib.Seq.{take-append-le, take-append_seam}
use borrow.Author.Tests.{ne_eqb}
use Rattle.packets.specs.Pieces.{Each as EachPiece, Packet, lone, check, packet_bytes, Unfinished, right, joined}
use Rattle.packets.specs.Readings.{Wrong}
use Rattle.packets.specs.Counts.{checks}
use Rattle.slices.specs.Lists.{Each, Bytes}
use Rattle.flash.specs.Blocks.{find, holds, place_of}
use Rattle.flash.specs.Image.{byte_at}
use Rattle.unit.specs.declared.Unit.{Unit as Port}
use Rattle.unit.specs.declared.Registers.{Registers}
use Rattle.unit.specs.declared.Phase.TheVariants.{Awake}
use Rattle.unit.specs.declared.Place.TheVariants.{Command, IdCheck}
use Rattle.unit.specs.Phases.{need, command_of}
use Rattle.unit.specs.Phases.Kind.{id_check}
use Rattle.unit.specs.Model.{no_bytes, with_rate, with_srd1, is_open}
use Rattle.unit.proofs.Ranged.{Sound, in_range_lem, closed_filled}
use Rattle.protocol.specs.Outcome.{Outcome}
use Rattle.protocol.specs.Step.{step, run}
use Rattle.protocol.specs.Rows.{Ready, Dropped, Partway, Ends, Kept, Row, Guarded, right_packet, after_wrong}
use Rattle.protocol.specs.Rows.Row.{after_f5}
use Rattle.protocol.specs.Rows.Guarded.{drops_ff, drops_41, drops_49, drops_20, drops_a7, drops_50}
use Rattle.protocol.proofs.RowsFront.{front}
use Rattle.protocol.proofs.RowsShort.{row_70, row_fb, row_b0_to_b4, row_00, closed_drops, unknown_drops}
use Rattle.protocol.proofs.RowsCheck.{check_right, check_wrong}
use Rattle.demands.specs.Record.{Open, lock_after}
use Rattle.demands.specs.Flash.{ids}
use Rattle.demands.proofs.Filled.{filled_row}
use Rattle.demands.proofs.Calm.{View, Seen, After, ShutWithin, Passes, Comes, Opened, Counted, At, seen_shut, none, one, then}

-- what holds of each of some numbers, and of a number that is none of them, holds of every number
by_cases : (P : ℕ → Type 0) (b : ℕ) (cs : List ℕ) → Each P cs → (Each (λ (c : ℕ). b ≢ c) cs → P b) → P b
by_cases P b [] each other = other tt
by_cases P b (c ∷ cs) each other = go (ℕ_discrete b c) (λ n. by_cases P b cs each.1 (λ others. other (n, others)))
  where
    go : Dec (b ≡ c) → (b ≢ c → P b) → P b
    go (yes e) next = subst P (sym e) each.0
    go (no n) next = next n

-- at a command, with these registers and nothing collected
abbrev commanding : Registers → View
commanding r = record { phase = Awake Command; registers = r; collected = no_bytes }

-- a unit with such a view
module _ {c : ℕ} {v : View} {u : Port} (a : At (Awake Command) c v) (sound : Sound u) (seen : Seen v u) where
  ready : Ready u
  ready = record { at_a_command = seen.phase ∙ a.phase; ranged = in_range_lem sound; room = sound.room }

  closed : is_open u.registers ≡ false
  unfolding is_open
  closed = ne_eqb u.registers.srd1 0x0C (seen_shut a.closed seen)

  not_blank : u.settings.blank ≡ false
  not_blank = closed_filled u.settings u.registers sound.settings closed

  count : u.registers.mismatches ≡ c
  count = ap (λ (r : Registers). r.mismatches) seen.registers ∙ a.counted

  dropped : {img : List ℕ} {o : Outcome} → Dropped u img o → After img v [] o
  dropped d = record { image = d.image; reply = d.reply; seen = subst (Seen v) (sym d.unit) seen }

  ended : {img : List ℕ} {o : Outcome} (f : Registers → Registers) (said : Registers → List ℕ) → Ends u (f u.registers) (Kept img) (said u.registers) o
      → After img (commanding (f v.registers)) (said v.registers) o
  ended f said e =
      record {
        image = e.image;
        reply = e.reply ∙ ap said seen.registers;
        seen = record { phase = e.phase; registers = e.registers ∙ ap f seen.registers; collected = e.collected };
      }

  -- up to the last byte of an ID packet the registers stay, so the unit stays closed
  shut_inside : (img xs : List ℕ) → Row id_check 0xF5 xs → ShutWithin u img (0xF5 ∷ xs)
  shut_inside img xs row zero h o = seen_shut a.closed seen o
  shut_inside img xs row (suc j) h o =
      seen_shut a.closed seen (ap (λ (r : Registers). r.srd1) (sym (front ready img row (inl refl) j (omega arith)).registers) ∙ o)

infixr 5 ◌also◌
◌also◌ : {A B : Type 0} → A → B → A × B
x also y = (x, y)

-- any byte but F5 leaves it at a command
abbrev Leaves : List ℕ → ℕ → View → ℕ → Type 0
Leaves i c v b = b ≢ 0xF5 → Comes i v (At (Awake Command) c) (b ∷ [])

module _ {i : List ℕ} {c : ℕ} {v : View} (a : At (Awake Command) c v) where
  drops : {b : ℕ} → ((u : Port) (img : List ℕ) → Ready u → is_open u.registers ≡ false → Dropped u img (step u img b)) → Leaves i c v b
  drops law n = one v [] a a.closed (λ u img size sound seen. dropped a sound seen (law u img (ready a sound seen) (closed a sound seen)))

  guarded : {b : ℕ} → Guarded b → Leaves i c v b
  guarded g = drops (λ u img ready shut. closed_drops ready img g shut)

  answers : {b : ℕ} (f : Registers → Registers) (said : Registers → List ℕ) → (f v.registers).srd1 ≡ v.registers.srd1 → (f v.registers).mismatches ≡ v.registers.mismatches
      → ((u : Port) (img : List ℕ) → Ready u → Ends u (f u.registers) (Kept img) (said u.registers) (step u img b)) → Leaves i c v b
  answers f said e k law n =
      one (commanding (f v.registers)) (said v.registers) (record { phase = refl; collected = refl; closed = λ o. a.closed (sym e ∙ o); counted = k ∙ a.counted }) a.closed
      (λ u img size sound seen. ended a sound seen f said (law u img (ready a sound seen)))

  rates : (n : ℕ) → n ≤ 4 → Leaves i c v (0xB0 + n)
  rates n h = answers (λ r. with_rate r n) (λ r. (0xB0 + n) ∷ []) refl refl (λ u img ready. row_b0_to_b4 ready img n h)

  pub lone_byte : (b : ℕ) → Leaves i c v b
  lone_byte b =
      by_cases (Leaves i c v) b
      (0xFF ∷ 0x41 ∷ 0x49 ∷ 0x20 ∷ 0xA7 ∷ 0x50 ∷ 0x70 ∷ 0xF5 ∷ 0xFB ∷ 0xB0 ∷ 0xB1 ∷ 0xB2 ∷ 0xB3 ∷ 0xB4 ∷ 0x00 ∷ [])
      (guarded drops_ff
      also guarded drops_41
      also guarded drops_49
      also guarded drops_20
      also guarded drops_a7
      also guarded drops_50
      also answers (λ r. r) (λ r. r.srd ∷ r.srd1 ∷ []) refl refl (λ u img ready. row_70 ready img)
      also (λ n. absurd (n refl))
      also answers (λ r. r) _ refl refl (λ u img ready. row_fb ready img)
      also rates 0 (omega arith)
      also rates 1 (omega arith)
      also rates 2 (omega arith)
      also rates 3 (omega arith)
      also rates 4 (omega arith)
      also answers (λ r. r) (λ r. []) refl refl (λ u img ready. row_00 ready img)
      also tt)
      (λ others. drops (λ u img ready shut. unknown_drops ready img b others))

-- the image's right packet, by its ID bytes
pub right_bytes : (img : List ℕ) → right_packet img ≡ packet_bytes (right (ids img))
unfolding byte_at place_of find holds
right_bytes img = refl

-- the count after a packet that is not the right one
abbrev count_after : Packet → ℕ → ℕ
count_after (lone b) c = c
count_after (check low mid high ds) c = min lock_after (suc c)

module _ {i : List ℕ} {c : ℕ} {v : View} (a : At (Awake Command) c v) where
  pub packet : (p : Packet) → Wrong i p → Comes i v (At (Awake Command) (count_after p c)) (packet_bytes p)
  packet (lone b) w = lone_byte a b w.0
  packet (check low mid high ds) w =
      record {
        view = commanding (after_wrong v.registers);
        said = [];
        is = record { phase = refl; collected = refl; closed = λ o. omega arith; counted = ap (λ (n : ℕ). min lock_after (suc n)) a.counted };
        leads = λ u img size same sound bytes seen.
            record {
              before = shut_inside a sound seen img (low ∷ mid ∷ high ∷ length ds ∷ ds) (after_f5 {ds = ds} w.0);
              after = ended a sound seen after_wrong (λ r. [])
                  (check_wrong (ready a sound seen) img low mid high ds w.0 size (not_blank a sound seen)
                  (λ e. w.1 (same_packet (e ∙ (right_bytes img ∙ ap (λ (i : List ℕ). packet_bytes (right i)) same)))));
            };
      }
    where
      same_packet : packet_bytes (check low mid high ds) ≡ packet_bytes (right i) → check low mid high ds ≡ right i
      same_packet e = cc

  pub right_packet_lem : c < lock_after → Comes i v (λ (w : View). Opened w × Counted c w) (packet_bytes (right i))
  right_packet_lem few =
      record {
        view = commanding (with_srd1 v.registers 0x0C);
        said = [];
        is = (refl, a.counted);
        leads = λ u img size same sound bytes seen.
            subst (λ (i : List ℕ). Passes u img (packet_bytes (right i)) (commanding (with_srd1 v.registers 0x0C)) []) same
            (record {
              before = shut_inside a sound seen img _ (after_f5 {ds = ids img} (omega arith));
              after = ended a sound seen (λ r. with_srd1 r 0x0C) (λ r. [])
                  (subst (λ (l : List ℕ). Ends u (with_srd1 u.registers 0x0C) (Kept img) [] (run u img l)) (right_bytes img)
                  (check_right (ready a sound seen) img size (not_blank a sound seen) (omega (arith, count a sound seen))));
            });
      }

-- packets, and with them the count
pub packets : {i : List ℕ} {c : ℕ} {v : View} (ps : List Packet) → EachPiece (Wrong i) ps → c ≤ lock_after → At (Awake Command) c v
    → Comes i v (At (Awake Command) (min lock_after (c + checks ps))) (joined packet_bytes ps)
packets {c = c} {v = v} [] w h a =
    let e : c ≡ min lock_after (c + 0) = omega arith in none (subst (λ (n : ℕ). At (Awake Command) n v) e a)
packets {i} {c} {v} (lone b ∷ ps) w h a = then (packet a (lone b) w.0) (λ x k. packets {v = x} ps w.1 h k)
packets {i} {c} {v} (check low mid high ds ∷ ps) w h a =
    let e : min lock_after (min lock_after (suc c) + checks ps) ≡ min lock_after (c + suc (checks ps)) = omega arith in
    subst (λ (n : ℕ). Comes i v (At (Awake Command) n) (joined packet_bytes (check low mid high ds ∷ ps))) e
    (then (packet a (check low mid high ds) w.0) (λ x k. packets {c = min lock_after (suc c)} {v = x} ps w.1 (omega arith) k))

-- where a packet is broken off: nothing but the phase and the collected bytes has changed since its command
abbrev pub broken_off : View → List ℕ → View
broken_off v [] = v
broken_off v (b ∷ t) = record { phase = Awake (IdCheck (length t)); registers = v.registers; collected = t ++ drop (length t) no_bytes }

broken_off_lem : {c : ℕ} {v : View} {u : Port} → At (Awake Command) c v → Sound u → Seen v u → (img t : List ℕ) → Bytes t → length t < 4 + get_or t 3 0
    → Passes u img (0xF5 ∷ t) (broken_off v (0xF5 ∷ t)) []
unfolding need command_of
broken_off_lem {v = v} {u = u} a sound seen img t y h =
    let pad : List ℕ = replicate (4 + get_or t 3 0 - length t) 0x00 in
    let row : Row id_check 0xF5 (t ++ pad) = filled_row id_check t y (omega arith) in
    let long : length t < length (t ++ pad) = omega (arith, length-append t pad, length-replicate {A = ℕ} (4 + get_or t 3 0 - length t) 0x00) in
    let whole : take (length t) (t ++ pad) ≡ t = take-append_seam t pad in
    let p = subst (λ (l : List ℕ). Partway u img id_check (t ++ pad) (length t) (run u img (0xF5 ∷ l))) whole (front (ready a sound seen) img row (inl refl) (length t) long) in
    record {
      before = λ k l.
          subst (λ (xs : List ℕ). Open (run u img xs).unit → ⊥) (take-append-le k (0xF5 ∷ t) pad (omega arith))
          (shut_inside a sound seen img (t ++ pad) row k (omega arith));
      after =
          record {
            image = p.image;
            reply = p.reply;
            seen =
                record {
                  phase = p.phase;
                  registers = p.registers ∙ seen.registers;
                  collected = p.collected ∙ ap₂ (λ (xs ys : List ℕ). xs ++ drop (length t) ys) whole (seen.collected ∙ a.collected);
                };
          };
    }

pub unfinished : {i : List ℕ} {c : ℕ} {v : View} (t : List ℕ) → Unfinished t → At (Awake Command) c v → Comes i v (λ (w : View). w ≡ broken_off v t) t
unfinished [] k a = none refl
unfinished {i} {v = v} (b ∷ t) k a =
    subst (λ (b : ℕ). Comes i v (λ (w : View). w ≡ broken_off v (b ∷ t)) (b ∷ t)) (sym k.0)
    (record {
      view = broken_off v (0xF5 ∷ t);
      said = [];
      is = refl;
      leads = λ u img size same sound bytes seen. broken_off_lem a sound seen img t bytes.1 k.1;
    })
