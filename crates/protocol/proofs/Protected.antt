-- No stream of bytes changes a protected block: what a carried-out packet writes leaves each place of such a block alone, no other byte changes the image, and none changes the protection.
use Prim.Native.Nat.{ℕ, ◌+◌, ◌≤◌, ◌<◌}
use native.Mathlib.Omega.{arith}
use mathlib.Core.Bool.{true}
use mathlib.Core.Path.{◌≡◌, refl, ap, sym, ◌∙◌}
use mathlib.Core.List.{List, [], ◌∷◌}
use lib.ListN.{length, get_or, take, drop, length-take, length-drop}
use lib.Seq.{get_or-take, get_or-drop, ext_get_or}
use Rattle.flash.specs.Blocks.{part, block_from, block_size, guarded}
use Rattle.flash.proofs.Places.{rising}
use Rattle.flash.proofs.Keeps.{all_keeps, block_keeps, program_keeps}
use Rattle.unit.specs.declared.Unit.{Unit as Port}
use Rattle.unit.specs.declared.Settings.{Settings}
use Rattle.unit.specs.Phases.{Kind}
use Rattle.protocol.specs.Outcome.{Outcome}
use Rattle.protocol.specs.Step.{step, run}
use Rattle.protocol.proofs.Carried.{Carried, Change}
use Rattle.protocol.proofs.Carried.Carried.{page, bytes, block, all}
use Rattle.protocol.proofs.Carried.Change.{none, last}
use Rattle.protocol.proofs.Sound.{size_step, settings_step, size_run, settings_run}
use Rattle.protocol.proofs.Changes.{changes}

-- place k of the image keeps its byte, the image its length, and the unit its settings
pub record Kept (k : ℕ) (u : Port) (img : List ℕ) (o : Outcome) : Type 0 where
  pub byte : get_or o.image k 0 ≡ get_or img k 0
  pub size : length o.image ≡ length img
  pub settings : o.unit.settings ≡ u.settings

-- a place of block i
module _ (i k : ℕ) (from : block_from part i ≤ k) (under : k < block_from part i + block_size part i) where
  carried_keeps : {p : ℕ} {img xs new : List ℕ} {q : Kind} → guarded p i ≡ true → Carried p img xs q new → get_or new k 0 ≡ get_or img k 0
  carried_keeps {p} {img} g (page m) = program_keeps part p i k from under g img rising _ _
  carried_keeps {p} {img} g (bytes m) = program_keeps part p i k from under g img rising _ _
  carried_keeps {p} {img} g (block c m) = block_keeps part p i k from under g img _
  carried_keeps {p} {img} g (all c) = all_keeps part p i k from under g img

  step_keeps : (u : Port) (img : List ℕ) (b : ℕ) → guarded u.settings.protection i ≡ true → get_or (step u img b).image k 0 ≡ get_or img k 0
  step_keeps u img b g = go (changes u img b)
    where
      go : {new : List ℕ} → Change u img b new → get_or new k 0 ≡ get_or img k 0
      go (none e) = ap (λ (l : List ℕ). get_or l k 0) e
      go (last d) = carried_keeps g d.carried

  run_keeps : (u : Port) (img bs : List ℕ) → guarded u.settings.protection i ≡ true → get_or (run u img bs).image k 0 ≡ get_or img k 0
  run_keeps u img [] g = refl
  run_keeps u img (b ∷ bs) g =
      let o : Outcome = step u img b in
      run_keeps o.unit o.image bs (ap (λ (t : Settings). guarded t.protection i) (settings_step u img b) ∙ g) ∙ step_keeps u img b g

  pub protected_step : (u : Port) → guarded u.settings.protection i ≡ true → (img : List ℕ) (b : ℕ) → Kept k u img (step u img b)
  protected_step u g img b = record { byte = step_keeps u img b g; size = size_step u img b; settings = settings_step u img b }

  pub protected_run : (u : Port) → guarded u.settings.protection i ≡ true → (img bs : List ℕ) → Kept k u img (run u img bs)
  protected_run u g img bs = record { byte = run_keeps u img bs g; size = size_run u img bs; settings = settings_run u img bs }

-- so the bytes of a protected block are the same before and after
pub protected_block : (i : ℕ) (u : Port) → guarded u.settings.protection i ≡ true → (img bs : List ℕ)
    → take (block_size part i) (drop (block_from part i) (run u img bs).image) ≡ take (block_size part i) (drop (block_from part i) img)
protected_block i u g img bs = ext_get_or 0 (bytes_of new) (bytes_of img) (simp (length-take, length-drop) (rw (size_run u img bs))) at
  where
    from : ℕ
    from = block_from part i

    size : ℕ
    size = block_size part i

    new : List ℕ
    new = (run u img bs).image

    bytes_of : List ℕ → List ℕ
    bytes_of l = take size (drop from l)

    byte_of : (l : List ℕ) (j : ℕ) → j < size → get_or (bytes_of l) j 0 ≡ get_or l (from + j) 0
    byte_of l j h = get_or-take size (drop from l) j 0 h ∙ get_or-drop from l j 0

    at : (j : ℕ) → j < length (bytes_of new) → get_or (bytes_of new) j 0 ≡ get_or (bytes_of img) j 0
    at j h =
        let s : j < size = omega (arith, length-take size (drop from new)) in
        byte_of new j s ∙ (run_keeps i (from + j) (omega arith) (omega arith) u img bs g ∙ sym (byte_of img j s))
