-- What bytes make of a closed unit shows in its phase, its registers and its collected bytes alone, whatever the protection and the rest of the image:
-- bytes that lead on from one such view to the next can be joined, since a run goes on from what its bytes so far have led to.
use Prim.Native.Nat.{ℕ, ◌+◌, ◌-◌, ◌<◌}
use native.Mathlib.Omega.{arith}
use native.Mathlib.Decide.{dec_lt}
use mathlib.Core.Logic.{◌≢◌}
use mathlib.Core.Path.{◌≡◌, refl, ap, ap₂, sym, ◌∙◌, subst}
use mathlib.Core.List.{List, [], ◌∷◌, ◌++◌}
use lib.ListN.{length, take, length-append}
use lib.Seq.{take-append-le, take-append-add}
use Rattle.slices.specs.Lists.{Bytes}
use Rattle.unit.specs.declared.Unit.{Unit as Port}
use Rattle.unit.specs.declared.Registers.{Registers}
use Rattle.unit.specs.declared.Phase.{Phase}
use Rattle.unit.specs.Model.{no_bytes}
use Rattle.unit.proofs.Ranged.{Sound}
use Rattle.protocol.specs.Outcome.{Outcome}
use Rattle.protocol.specs.Step.{step, run}
use Rattle.protocol.proofs.Steps.{run_one, run_append}
use Rattle.protocol.proofs.Sound.{sound_run}
use Rattle.demands.specs.Record.{Open}
use Rattle.demands.specs.Flash.{ids}

-- what two units have in common that cannot be told apart while they are closed
pub record View : Type 0 where
  pub phase : Phase
  pub registers : Registers
  pub collected : List ℕ

pub record Seen (v : View) (u : Port) : Type 0 where
  pub phase : u.phase ≡ v.phase
  pub registers : u.registers ≡ v.registers
  pub collected : u.collected ≡ v.collected

-- two outcomes that cannot be told apart
pub record Alike (o o' : Outcome) : Type 0 where
  pub reply : o.reply ≡ o'.reply
  pub phase : o.unit.phase ≡ o'.unit.phase
  pub registers : o.unit.registers ≡ o'.unit.registers
  pub collected : o.unit.collected ≡ o'.unit.collected

-- an outcome: the image as it was, this reply, and a unit with this view
pub record After (img : List ℕ) (w : View) (said : List ℕ) (o : Outcome) : Type 0 where
  pub image : o.image ≡ img
  pub reply : o.reply ≡ said
  pub seen : Seen w o.unit

-- no front of these bytes but perhaps the whole opens the unit
abbrev pub ShutWithin : Port → List ℕ → List ℕ → Type 0
ShutWithin u img bs = (k : ℕ) → k < length bs → Open (run u img (take k bs)).unit → ⊥

pub record Passes (u : Port) (img bs : List ℕ) (w : View) (said : List ℕ) : Type 0 where
  pub before : ShutWithin u img bs
  pub after : After img w said (run u img bs)

-- so do these bytes, from every unit with view v on every image with these ID bytes
abbrev pub Leads : List ℕ → View → List ℕ → View → List ℕ → Type 0
Leads i v bs w said = (u : Port) (img : List ℕ) → length img ≡ 20480 → ids img ≡ i → Sound u → Bytes bs → Seen v u → Passes u img bs w said

-- and they end in a view of which P holds
pub record Comes (i : List ℕ) (v : View) (P : View → Type 0) (bs : List ℕ) : Type 0 where
  pub view : View
  pub said : List ℕ
  pub is : P view
  pub leads : Leads i v bs view said

abbrev pub Opened : View → Type 0
Opened v = v.registers.srd1 ≡ 0x0C

abbrev pub Closed : View → Type 0
Closed v = v.registers.srd1 ≢ 0x0C

-- so many wrong ID checks were counted
abbrev pub Counted : ℕ → View → Type 0
Counted n v = v.registers.mismatches ≡ n

-- between two pieces of a log: closed, in this phase, so many wrong ID checks counted, and nothing collected
pub record At (f : Phase) (n : ℕ) (v : View) : Type 0 where
  pub phase : v.phase ≡ f
  pub collected : v.collected ≡ no_bytes
  pub closed : Closed v
  pub counted : Counted n v

pub seen_shut : {v : View} {u : Port} → Closed v → Seen v u → Open u → ⊥
seen_shut c s o = c (ap (λ (r : Registers). r.srd1) (sym s.registers) ∙ o)

pub bytes_apart : (xs ys : List ℕ) → Bytes (xs ++ ys) → Bytes xs × Bytes ys
bytes_apart [] ys y = (tt, y)
bytes_apart (x ∷ xs) ys y = let r = bytes_apart xs ys y.1 in ((y.0, r.0), r.1)

-- two runs, one after the other
pub shut_join : {u : Port} {img : List ℕ} (xs ys : List ℕ) → ShutWithin u img xs → ShutWithin (run u img xs).unit (run u img xs).image ys → ShutWithin u img (xs ++ ys)
shut_join {u} {img} xs ys s t k h = go (dec_lt k (length xs))
  where
    go : Dec (k < length xs) → Open (run u img (take k (xs ++ ys))).unit → ⊥
    go (yes l) = rw (take-append-le k xs ys (omega arith)) (s k l)
    go (no l) =
        let j : ℕ = k - length xs in
        let n : k ≡ length xs + j = omega arith in
        subst (λ (o : Outcome). Open o.unit → ⊥) (sym (ap (λ (n : ℕ). run u img (take n (xs ++ ys))) n ∙ (ap (run u img) (take-append-add xs ys j) ∙ run_append u img xs (take j ys))))
        (t j (omega (arith, length-append xs ys)))

joined_up : {u : Port} {img xs ys a b : List ℕ} {w x : View} → Passes u img xs w a → Passes (run u img xs).unit img ys x b → Passes u img (xs ++ ys) x (a ++ b)
joined_up {u} {img} {xs} {ys} {a} {b} {w} {x} p q =
    let more = subst (λ (l : List ℕ). Passes (run u img xs).unit l ys x b) (sym p.after.image) q in
    record {
      before = shut_join xs ys p.before more.before;
      after = subst (After img x (a ++ b)) (sym (run_append u img xs ys))
          (record {
            image = more.after.image ∙ p.after.image;
            reply = ap₂ (λ (l m : List ℕ). l ++ m) p.after.reply more.after.reply;
            seen = more.after.seen;
          });
    }

module _ {i : List ℕ} {v : View} where
  pub none : {P : View → Type 0} → P v → Comes i v P []
  none p =
      record {
        view = v;
        said = [];
        is = p;
        leads = λ u img size same sound bytes seen. record { before = λ k h. absurd (omega arith); after = record { image = refl; reply = refl; seen = seen } };
      }

  -- one byte
  pub one : {P : View → Type 0} {b : ℕ} (w : View) (said : List ℕ) → P w → Closed v
      → ((u : Port) (img : List ℕ) → length img ≡ 20480 → Sound u → Seen v u → After img w said (step u img b)) → Comes i v P (b ∷ [])
  one {b = b} w said p closed law =
      record {
        view = w;
        said = said;
        is = p;
        leads = λ u img size same sound bytes seen.
            record {
              before = λ k h.
                  let e : 0 ≡ k = omega arith in
                  subst (λ (k : ℕ). Open (run u img (take k (b ∷ []))).unit → ⊥) e (seen_shut closed seen);
              after = subst (After img w said) (sym (run_one u img b)) (law u img size sound seen);
            };
      }

  pub weaken : {P Q : View → Type 0} {bs : List ℕ} → ((w : View) → P w → Q w) → Comes i v P bs → Comes i v Q bs
  weaken f c = record { view = c.view; said = c.said; is = f c.view c.is; leads = c.leads }

  -- first these bytes, then those
  pub then : {P Q : View → Type 0} {xs ys : List ℕ} → Comes i v P xs → ((w : View) → P w → Comes i w Q ys) → Comes i v Q (xs ++ ys)
  then {xs = xs} {ys = ys} a next =
      let c = next a.view a.is in
      record {
        view = c.view;
        said = a.said ++ c.said;
        is = c.is;
        leads = λ u img size same sound bytes seen.
            let (bx, by) = bytes_apart xs ys bytes in
            let p = a.leads u img size same sound bx seen in
            joined_up p (c.leads (run u img xs).unit img size same (sound_run sound img xs bx) by p.after.seen);
      }
