-- The image changes only at the last byte of a permitted program or erase: every other outcome that a byte leads to has the image as it was.
use Prim.Native.Nat.{ℕ}
use mathlib.Core.Path.{refl}
use mathlib.Core.List.{List}
use Rattle.unit.specs.declared.Unit.{Unit as Port}
use Rattle.protocol.specs.Outcome.{Outcome}
use Rattle.protocol.specs.Step.{step}
use Rattle.protocol.proofs.Carried.{Change}
use Rattle.protocol.proofs.Carried.Change.{none, last}
use Rattle.protocol.proofs.Cases.{Leads, leads}
use Rattle.protocol.proofs.Cases.Ending.{says_and_ends, writes_and_ends}
use Rattle.protocol.proofs.Cases.Leads.{nothing, sleeps, wakes_up, begins, goes_on, ends}

pub changes : (u : Port) (img : List ℕ) (b : ℕ) → Change u img b (step u img b).image
changes u img b = go (leads u img b)
  where
    go : {o : Outcome} → Leads u img b o → Change u img b o.image
    go nothing = none refl
    go (sleeps n h) = none refl
    go wakes_up = none refl
    go (begins k h) = none refl
    go (goes_on k n e h) = none refl
    go (ends (says_and_ends r said l h)) = none refl
    go (ends (writes_and_ends s new h d)) = last d
