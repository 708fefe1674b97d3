-- Both program packets come to one write at their address with their data, each with its own reach, and the flash's laws say what it leaves in each case.
use Prim.Native.Nat.{ℕ, ◌+◌, ◌*◌, ◌%◌, ◌<◌}
use native.Mathlib.Omega.{arith}
use mathlib.Core.Bool.{Bool, true, false, cond, false≢true}
use mathlib.Core.Logic.{◌≢◌, ◌⊎◌, inl, inr}
use mathlib.Core.Path.{◌≡◌, refl, ap, sym, ◌∙◌, subst}
use mathlib.Core.List.{List, []}
use lib.ListN.{length, get_or, take, drop}
use lib.Dec.{eqb, leb}
use borrow.Author.Tests.{eqb-true, eqb-false, le-leb, lt-leb}
use Rattle.slices.specs.Lists.{same}
use Rattle.flash.specs.Blocks.{part, find, sized, place_of, page_address, byte_address}
use Rattle.flash.specs.Image.{byte_at, Written, written, permitted, programmed, burnt, program}
use Rattle.flash.specs.Effects.{Programmed}
use Rattle.flash.proofs.Places.{rising}
use Rattle.flash.proofs.Outcomes.{true_sized, program_refused, program_done}
use Rattle.flash.proofs.Effects.{program_effect, good_each, each_good}
use Rattle.unit.specs.declared.Unit.{Unit as Port}
use Rattle.unit.specs.Phases.Kind.{page_program, unit_program}
use Rattle.unit.specs.Model.{is_open}
use Rattle.protocol.specs.Outcome.{Outcome}
use Rattle.protocol.specs.Endings.{nothing, reports, bank_end, reaching, programmed_by, programs, finished}
use Rattle.protocol.specs.Step.{run}
use Rattle.protocol.specs.Rows.{Ready, Ends, Kept, Programs, May, MayNot, Verified, srd_is}
use Rattle.protocol.specs.Rows.Row.{after_41, after_49}
use Rattle.protocol.specs.Rows.Programs.{page, bytes}
use Rattle.protocol.specs.Rows.Verified.{equal, differs}
use Rattle.protocol.proofs.RowsLaws.{cond_same, ends, stands, none_stands}
use Rattle.protocol.proofs.RowsFront.{row_comes_to}
use Rattle.protocol.proofs.RowsMay.{search, may_permitted, may_not_permitted}

-- a program that is carried out
module _ (p a : ℕ) (ds img : List ℕ) (size : sized part img ≡ true) (may : permitted part p a ds ≡ true) where
  new : List ℕ
  new = programmed (place_of part (find part a)) img ds

  good : Bool
  good = same (take (length ds) (drop (place_of part (find part a)) new)) ds

  verified : Verified a ds new (cond good 0x80 0x90)
  unfolding new good
  verified = go good refl (search (λ (j : ℕ). eqb (byte_at part new (a + j)) (get_or ds j 0)) (length ds))
    where
      go : (t : Bool) → good ≡ t
          → ((j : ℕ) → j < length ds → eqb (byte_at part new (a + j)) (get_or ds j 0) ≡ true) ⊎ ((j : ℕ) × (j < length ds) × (eqb (byte_at part new (a + j)) (get_or ds j 0) ≡ false))
          → Verified a ds new (cond t 0x80 0x90)
      go true e s = equal (good_each part rising p a img ds size may e)
      go false e (inl f) = absurd (false≢true (sym e ∙ each_good part rising p a img ds size may (λ j h. eqb-true _ _ (f j h))))
      go false e (inr w) = differs w.0 w.1 (eqb-false _ _ w.2)

  done : program part p img a ds ≡ written new good
  unfolding burnt new good
  done = program_done part p img a ds size may

module _ {u : Port} (ready : Ready u) (opened : is_open u.registers ≡ true) (img : List ℕ) where
  comes : {packet : List ℕ} {a : ℕ} {ds : List ℕ} {most : ℕ} → Programs packet a ds most → run u img packet ≡ programs u img (reaching most u.settings.protection img a ds)
  unfolding finished programmed_by bank_end
  comes (page {mid} {high} {ds} h) =
      let e : page_address mid high ≡ 256 * mid + 65536 * high = omega arith in
      row_comes_to ready img (after_41 {ds = ds} h) (inr opened) ∙ ap (λ (a : ℕ). programs u img (reaching (bank_end page_program) u.settings.protection img a ds)) e
  comes (bytes {low} {mid} {high} {ds} h) =
      let e : byte_address low mid high ≡ low + 256 * mid + 65536 * high = omega arith in
      row_comes_to ready img (after_49 {ds = ds} h) (inr opened) ∙ ap (λ (a : ℕ). programs u img (reaching (bank_end unit_program) u.settings.protection img a ds)) e

  module _ {packet : List ℕ} {a : ℕ} {ds : List ℕ} {most : ℕ} (is : Programs packet a ds most) where
    -- P14: if SR4 or SR5 stands, nothing
    pub program_standing : u.registers.srd ≢ 0x80 → Ends u u.registers (Kept img) [] (run u img packet)
    unfolding programs
    program_standing h =
        subst (Ends u u.registers (Kept img) []) (sym (comes is ∙ rw (stands u.registers h)))
        (ends u u.registers (Kept img) img [] refl)

    -- what is written is reported
    reported : u.registers.srd ≡ 0x80 → (w : Written) → reaching most u.settings.protection img a ds ≡ w → run u img packet ≡ reports u 0x90 w
    unfolding programs
    reported h w e =
        comes is
        ∙ (ap (programs u img) e ∙ ap (λ (t : Bool). cond t (nothing u img) (reports u 0x90 w)) (none_stands u.registers h))

    -- P14: otherwise, if n is 0, or the low 16 address bits plus n exceed what its packet may reach, or a byte lies outside or in a protected block, nothing is written and SR4 is set
    pub program_forbidden : u.registers.srd ≡ 0x80 → MayNot most u.settings.protection a ds → Ends u (srd_is u.registers 0x90) (Kept img) [] (run u img packet)
    program_forbidden h m =
        subst (Ends u (srd_is u.registers 0x90) (Kept img) []) (sym (reported h (written img false) (refuses (may_not_permitted most u.settings.protection a ds m))))
        (ends u (srd_is u.registers 0x90) (Kept img) img [] refl)
      where
        refuses : (most < a % 65536 + length ds) ⊎ (permitted part u.settings.protection a ds ≡ false) → reaching most u.settings.protection img a ds ≡ written img false
        refuses (inl g) = rw (lt-leb (a % 65536 + length ds) most g)
        refuses (inr g) = rw (program_refused part u.settings.protection img a ds g) (cond_same (leb (a % 65536 + length ds) most) (written img false))

    -- P14: otherwise every byte is programmed, and SR4 is set if some byte then differs from its data
    pub program_carried_out : length img ≡ 20480 → u.registers.srd ≡ 0x80 → May most u.settings.protection a ds
        → (srd : ℕ) × Verified a ds (run u img packet).image srd × Ends u (srd_is u.registers srd) (Programmed part a ds img) [] (run u img packet)
    unfolding new
    program_carried_out size h m =
        let p : ℕ = u.settings.protection in
        let s : sized part img ≡ true = true_sized part img size in
        let g : permitted part p a ds ≡ true = may_permitted most p a ds m in
        let e : reaching most p img a ds ≡ written (new p a ds img s g) (good p a ds img s g) = rw (le-leb (a % 65536 + length ds) most m.bank) (done p a ds img s g) in
        let srd : ℕ = cond (good p a ds img s g) 0x80 0x90 in
        subst (λ (o : Outcome). (srd : ℕ) × Verified a ds o.image srd × Ends u (srd_is u.registers srd) (Programmed part a ds img) [] o)
        (sym (reported h (written (new p a ds img s g) (good p a ds img s g)) e))
        (srd, verified p a ds img s g, ends u (srd_is u.registers srd) (Programmed part a ds img) (new p a ds img s g) [] (program_effect part rising p a img ds s g))
