-- A call that is not refused hands its inner functions a unit in range, an image of the right size and room for any reply.
use Prim.Native.Nat.{ℕ, zero, suc, ◌<◌}
use mathlib.Core.Path.{◌≡◌, ap, sym, ◌∙◌}
use mathlib.Core.List.{List, [], ◌∷◌}
use lib.ListN.{length, get_or}
use Rattle.slices.specs.Lists.{Bytes}
use Rattle.unit.specs.declared.Unit.{Unit as Port}
use Rattle.unit.proofs.Ranged.{Sound, sound}
use Rattle.std.specs.Prelude.{Err}
use Rattle.protocol.specs.declared.Refused.{Refused}
use Rattle.protocol.specs.declared.Numbered.{Numbered}
use Rattle.protocol.specs.Calls.{left, number_of, refusal, refusing, numbered, byte_call, run_call}
use Rattle.protocol.proofs.Numbers.{not_none}
use Rattle.protocol.proofs.Refusals.{not_refused, byte_refused, run_refused}
use Rattle.port.specs.Parts.{Fine}

pub bytes_each : (xs : List ℕ) → ((i : ℕ) → get_or xs i 0 < 256) → Bytes xs
bytes_each [] f = tt
bytes_each (x ∷ xs) f = (f zero, bytes_each xs (λ i. f (suc i)))

pub given : (u : Port) (img area : List ℕ) → refusal u img area ≡ 0 → length u.collected ≡ 259 → ((i : ℕ) → get_or u.collected i 0 < 256) → Fine u img area
given u img area e long small =
    let f = not_refused u img area e in
    record { ranged = f.2; long = long; bytes = bytes_each u.collected small; image = f.0; room = f.1 }

pub fine_sound : {u : Port} {img area : List ℕ} → Fine u img area → Sound u
fine_sound {u} f = sound u f.ranged f.long f.bytes

-- a call that is refused answers the refusal that was found, and hands the unit back
module _ (u : Port) (img area : List ℕ) (e : Refused) (h : refusing (number_of e.refusal) e.unit ≡ refusing (refusal u img area) u) where
  number : number_of e.refusal ≡ refusal u img area
  number = ap (λ (n : Numbered). n.refusal) h

  some : refusal u img area ≡ 0 → ⊥
  some z = not_none e.refusal (sym (number ∙ z))

  pub run_says : (bytes : List ℕ) → left (numbered (Err e)) img area ≡ run_call u img bytes area
  run_says bytes = ap (λ (n : Numbered). left n img area) h ∙ sym (run_refused u img area bytes some)

  pub byte_says : (b : ℕ) → left (numbered (Err e)) img area ≡ byte_call u img area b
  byte_says b = ap (λ (n : Numbered). left n img area) h ∙ sym (byte_refused u img area b some)
