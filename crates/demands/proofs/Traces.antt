-- A trace whose every entry is the step of its byte is the run of its bytes: by recursion on the trace, since a run takes the same steps.
use Prim.Native.Nat.{ℕ, zero, suc, ◌+◌, ◌<◌}
use native.Mathlib.Omega.{arith}
use mathlib.Core.Path.{◌≡◌, refl, ap, sym, ◌∙◌, subst, subst⁻¹}
use mathlib.Core.List.{List, [], ◌∷◌, ◌++◌}
use lib.ListN.{length, get_or, take, drop}
use lib.Seq.{take-nil}
use Rattle.slices.specs.Lists.{Bytes}
use Rattle.unit.specs.declared.Unit.{Unit as Port}
use Rattle.unit.proofs.Ranged.{Sound}
use Rattle.protocol.specs.Outcome.{Outcome, says}
use Rattle.protocol.specs.Step.{step, run}
use Rattle.protocol.proofs.Sound.{sound_step, size_step}
use Rattle.demands.specs.Histories.{Entry, unit_after, image_after, taken, At}
use Rattle.demands.specs.Histories.At.{here, later}

-- an entry is what the step of its byte leads to
pub record Step (u : Port) (img : List ℕ) (e : Entry) : Type 0 where
  pub small : e.byte < 256
  pub leads : step u img e.byte ≡ says e.unit e.image e.reply

-- each entry is, from what the one before it left
pub data Stepped : Port → List ℕ → List Entry → Type 0 where
  done : {u : Port} {img : List ℕ} → Stepped u img []
  next : {u : Port} {img : List ℕ} {e : Entry} {es : List Entry} → Step u img e → Stepped e.unit e.image es → Stepped u img (e ∷ es)

-- any trace: the entry at a position gives the byte there, and the unit and the image after it
pub at_under : {es : List Entry} {k : ℕ} {e : Entry} → At es k e → k < length es
at_under here = omega arith
at_under (later a) = omega (arith, at_under a)

pub at_position : (es : List Entry) (k : ℕ) → k < length es → (e : Entry) × At es k e
at_position [] k h = absurd (omega arith)
at_position (e ∷ es) zero h = (e, here)
at_position (e ∷ es) (suc k) h = let w = at_position es k (omega arith) in (w.0, later w.1)

pub taken_long : (es : List Entry) → length (taken es) ≡ length es
taken_long [] = refl
taken_long (e ∷ es) = ap suc (taken_long es)

pub byte_taken : {es : List Entry} {k : ℕ} {e : Entry} → At es k e → get_or (taken es) k 0 ≡ e.byte
byte_taken here = refl
byte_taken (later a) = byte_taken a

pub unit_next : {es : List Entry} {k : ℕ} {e : Entry} (u : Port) → At es k e → unit_after u es (suc k) ≡ e.unit
unit_next u here = refl
unit_next u (later {e} a) = unit_next e.unit a

pub image_next : {es : List Entry} {k : ℕ} {e : Entry} (img : List ℕ) → At es k e → image_after img es (suc k) ≡ e.image
image_next img here = refl
image_next img (later {e} a) = image_next e.image a

-- a stepped trace: the entry at a position is the step from there
pub entry_steps : {u : Port} {img : List ℕ} {es : List Entry} {k : ℕ} {e : Entry} → Stepped u img es → At es k e → Step (unit_after u es k) (image_after img es k) e
entry_steps (next s t) here = s
entry_steps (next s t) (later a) = entry_steps t a
entry_steps {k = k} {e = e} (done {u = u} {img = img}) a = elim a [ ]

-- its bytes are bytes
pub taken_bytes : {u : Port} {img : List ℕ} {es : List Entry} → Stepped u img es → Bytes (taken es)
taken_bytes done = tt
taken_bytes (next s t) = (s.small, taken_bytes t)

-- each unit is sound, and each image has the size of the first
pub sound_after : {u : Port} {img : List ℕ} {es : List Entry} → Sound u → Stepped u img es → (k : ℕ) → Sound (unit_after u es k)
sound_after s t zero = s
sound_after s done (suc k) = s
sound_after {img = img} s (next {e = e} n t) (suc k) =
    sound_after (subst (λ (o : Outcome). Sound o.unit) n.leads (sound_step s img e.byte n.small)) t k

pub size_after : {u : Port} {img : List ℕ} {es : List Entry} → Stepped u img es → (k : ℕ) → length (image_after img es k) ≡ length img
size_after t zero = refl
size_after done (suc k) = refl
size_after {u} {img} (next {e = e} n t) (suc k) =
    size_after t k ∙ (ap (λ (o : Outcome). length o.image) (sym n.leads) ∙ size_step u img e.byte)

-- the unit and the image after k bytes, and after some bytes more, are those of the run
pub unit_run : {u : Port} {img : List ℕ} {es : List Entry} → Stepped u img es → (k : ℕ) → unit_after u es k ≡ (run u img (take k (taken es))).unit
unit_run t zero = refl
unit_run done (suc k) = refl
unit_run (next {es = es} n t) (suc k) =
    unit_run t k ∙ ap (λ (o : Outcome). (run o.unit o.image (take k (taken es))).unit) (sym n.leads)

pub image_run : {u : Port} {img : List ℕ} {es : List Entry} → Stepped u img es → (k : ℕ) → image_after img es k ≡ (run u img (take k (taken es))).image
image_run t zero = refl
image_run done (suc k) = refl
image_run (next {es = es} n t) (suc k) =
    image_run t k ∙ ap (λ (o : Outcome). (run o.unit o.image (take k (taken es))).image) (sym n.leads)

pub unit_onward : {u : Port} {img : List ℕ} {es : List Entry} → Stepped u img es → (j i k : ℕ) → j + i ≡ k
    → unit_after u es k ≡ (run (unit_after u es j) (image_after img es j) (take i (drop j (taken es)))).unit
unit_onward {u} {img} {es} t zero i k h =
    let e : k ≡ i = omega arith in ap (unit_after u es) e ∙ unit_run t i
unit_onward t (suc j) i zero h = absurd (omega arith)
unit_onward {u} {img} done (suc j) i (suc k) h = ap (λ (l : List ℕ). (run u img l).unit) (sym (take-nil i))
unit_onward (next n t) (suc j) i (suc k) h = unit_onward t j i k (omega arith)

pub image_onward : {u : Port} {img : List ℕ} {es : List Entry} → Stepped u img es → (j i k : ℕ) → j + i ≡ k
    → image_after img es k ≡ (run (unit_after u es j) (image_after img es j) (take i (drop j (taken es)))).image
image_onward {u} {img} {es} t zero i k h =
    let e : k ≡ i = omega arith in ap (image_after img es) e ∙ image_run t i
image_onward t (suc j) i zero h = absurd (omega arith)
image_onward {u} {img} done (suc j) i (suc k) h = ap (λ (l : List ℕ). (run u img l).image) (sym (take-nil i))
image_onward (next n t) (suc j) i (suc k) h = image_onward t j i k (omega arith)

-- a trace after a trace
from_there : {u v : Port} {img new : List ℕ} {es : List Entry} → u ≡ v → img ≡ new → Stepped v new es → Stepped u img es
from_there {u} {v} {img} {new} {es} e f t =
    subst⁻¹ (λ (x : Port). Stepped x img es) e (subst⁻¹ (λ (l : List ℕ). Stepped v l es) f t)

pub stepped_append : {u v : Port} {img new : List ℕ} {es fs : List Entry}
    → Stepped u img es → unit_after u es (length es) ≡ v → image_after img es (length es) ≡ new → Stepped v new fs → Stepped u img (es ++ fs)
stepped_append done e f t = from_there e f t
stepped_append (next n s) e f t = next n (stepped_append s e f t)
