-- Document 02's Item 3. 0FFFF, the last byte of its bank, is place 20479 of the image. By the specification's law a unit program leaves it as it was; a page program to page 0FF00 ends with it.
use Prim.Native.Nat.{ℕ, suc, ◌+◌, ◌-◌, ◌≤◌, ◌<◌}
use native.Mathlib.Omega.{arith}
use mathlib.Core.Path.{◌≡◌, ap, sym, ◌∙◌, subst, subst⁻¹}
use mathlib.Core.List.{List, ◌∷◌}
use lib.ListN.{length, get_or}
use lib.Bits.{bit_and}
use Rattle.flash.specs.Blocks.{part}
use Rattle.flash.specs.Image.{byte_at}
use Rattle.flash.proofs.Effects.{byte_at_lem}
use Rattle.unit.specs.declared.Unit.{Unit as Port}
use Rattle.unit.specs.declared.Phase.TheVariants.{Awake}
use Rattle.unit.specs.declared.Place.TheVariants.{Command}
use Rattle.protocol.specs.Step.{run}
use Rattle.protocol.proofs.LastByte.{unit_program_keeps as run_keeps}
use Rattle.demands.specs.Record.{Open}
use Rattle.demands.specs.Flash.{Address, Unprotected}
use Rattle.demands.specs.Flash.Address.{in_3}
use Rattle.demands.specs.Histories.{Call, Entry, Calls, Fit, unit_after, image_after, bytes_to}
use Rattle.demands.specs.Changes.{Begins, Programmed, Permitted, Leaves, Carries}
use Rattle.demands.specs.Changes.Programs.{page}
use Rattle.demands.specs.Changes.Permitted.{program}
use Rattle.demands.proofs.Records.{open_is, address_is}
use Rattle.demands.proofs.Traces.{image_onward}
use Rattle.demands.proofs.Bridge.{stepped, sound_at, size_at}
use Rattle.demands.proofs.Effects.{command_ready}
use Rattle.demands.proofs.Demand2.{full_effect}

last_address : Address 0xFFFF 3 20479
last_address = in_3 {a = 0xFFFF} (omega arith) (omega arith)

last_byte : (img : List ℕ) → byte_at part img 0xFFFF ≡ get_or img 20479 0
last_byte img = byte_at_lem part img 0xFFFF 3 20479 ((address_is 0xFFFF 3 20479).0 last_address)

-- a page program to page 0FF00 has programmed its data there
page_wrote : {p : ℕ} {img ds new : List ℕ} → (m : Permitted p (0x41 ∷ 0xFF ∷ 0x00 ∷ ds)) → Leaves m img new → Programmed 0xFF00 ds img new
page_wrote (program (page h) m) g = g

module _ {u : Port} {img : List ℕ} {cs : List Call} (f : Fit u img) (c : Calls u img cs) where
  abbrev es : List Entry
  es = c.trace

  -- no unit program changes 0FFFF: what an open unit takes as 49, low, mid, high, size n, n data leaves it as it was
  pub unit_program_keeps : (j k : ℕ) → j ≤ k → k < length c.trace → (unit_after u c.trace j).phase ≡ Awake Command → Open (unit_after u c.trace j)
      → (low mid high : ℕ) (ds : List ℕ) → length ds < 256 → bytes_to c.trace j k ≡ 0x49 ∷ low ∷ mid ∷ high ∷ length ds ∷ ds
      → get_or (image_after img c.trace (suc k)) 20479 0 ≡ get_or (image_after img c.trace j) 20479 0
  unit_program_keeps j k after under at_a_command opened low mid high ds few e =
      let v : Port = unit_after u es j in
      ap (λ (l : List ℕ). get_or l 20479 0) (image_onward (stepped f c) j (suc k - j) (suc k) (omega arith) ∙ ap (λ (l : List ℕ). (run v (image_after img es j) l).image) e)
      ∙ (sym (last_byte _) ∙ (run_keeps (command_ready at_a_command (sound_at f c j)) ((open_is v).0 opened) (image_after img es j) (size_at f c j) low mid high ds few ∙ last_byte (image_after img es j)))

  -- a page program to page 0FF00 still reaches it: it leaves old AND the last of its 256 data there
  pub page_program_reaches : (j k : ℕ) → j ≤ k → k < length c.trace → Begins (unit_after u c.trace j) → Unprotected u.settings.protection 3
      → (ds : List ℕ) → length ds ≡ 256 → bytes_to c.trace j k ≡ 0x41 ∷ 0xFF ∷ 0x00 ∷ ds
      → get_or (image_after img c.trace (suc k)) 20479 0 ≡ bit_and (get_or (image_after img c.trace j) 20479 0) (get_or ds 255 0)
  page_program_reaches j k after under b g ds long e =
      let p : ℕ = u.settings.protection in
      let may : Permitted p (0x41 ∷ 0xFF ∷ 0x00 ∷ ds) =
      program (page {mid = 0xFF} {high = 0x00} {ds = ds} long)
      (record { some = omega arith; bank = omega arith; free = λ i s. (3, 0xFF00 + i - 0xE000 + 12288, in_3 {a = 0xFF00 + i} (omega arith) (omega arith), g) }) in
      let full = full_effect f c j k after under b (subst⁻¹ (Permitted p) e may) in
      let w : Carries p (image_after img es j) (0x41 ∷ 0xFF ∷ 0x00 ∷ ds) (image_after img es (suc k)) = subst (λ (l : List ℕ). Carries p (image_after img es j) l (image_after img es (suc k))) e full.at_last in
      (page_wrote w.0 w.1).there 255 3 20479 (omega arith) last_address
