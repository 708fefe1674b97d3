-- "Show that no second outcome satisfies the same statement": what a clause of this crate equates has the state, the collected bytes and the bytes of the reply in it, and a reply is told by its bytes.
use Prim.Native.Nat.{ℕ}
use mathlib.Core.Path.{◌≡◌, refl, ap, sym, ◌∙◌}
use mathlib.Core.List.{List, [], ◌∷◌}
use Rattle.unit.specs.declared.State.{State}
use Rattle.unit.specs.declared.Settings.{Settings}
use Rattle.unit.specs.Model.{state_of, no_bytes, idle}
use Rattle.protocol.specs.Outcome.{Outcome}
use Rattle.protocol.specs.Commands.{version_bytes}
use Rattle.commands.specs.declared.Said.{Said}
use Rattle.commands.specs.declared.Reply.{Reply}
use Rattle.commands.specs.declared.Reply.TheVariants.{Nothing, Byte, Status, Version}
use Rattle.commands.specs.Clauses.{bytes_of, said, PutEnsures, AsleepEnsures, CommandedEnsures}

abbrev reply_of : List ℕ → Reply
reply_of [] = Nothing
reply_of (b ∷ []) = Byte b
reply_of (srd ∷ srd1 ∷ []) = Status srd srd1
reply_of (a ∷ b ∷ c ∷ l) = Version

reply_told : (r : Reply) → reply_of (bytes_of r) ≡ r
unfolding version_bytes
reply_told Nothing = refl
reply_told (Byte b) = refl
reply_told (Status srd srd1) = refl
reply_told Version = refl

-- the result, and the collected bytes that it leaves
abbrev rebuilt : Outcome → Said × List ℕ
rebuilt o = (record { state = state_of o.unit; reply = reply_of o.reply }, o.unit.collected)

said_told : (x : Said × List ℕ) (t : Settings) (img : List ℕ) → rebuilt (said x.0 t x.1 img) ≡ x
said_told x t img = ap (λ (r : Reply). (record { state = x.0.state; reply = r }, x.1)) (reply_told x.0.reply)

said_pinned : (x y : Said × List ℕ) {o : Outcome} → said x.0 idle.settings x.1 [] ≡ o → said y.0 idle.settings y.1 [] ≡ o → x ≡ y
said_pinned x y p q =
    sym (said_told x idle.settings []) ∙ (ap rebuilt (p ∙ sym q) ∙ said_told y idle.settings [])

pub commands_put_pinned : (r : Reply) (area : List ℕ) (x y : ℕ × List ℕ) → PutEnsures r area x.0 x.1 → PutEnsures r area y.0 y.1 → x ≡ y
commands_put_pinned r area x y p q = p ∙ sym q

pub commands_clear_pinned : (x y : List ℕ) → x ≡ no_bytes → y ≡ no_bytes → x ≡ y
commands_clear_pinned x y p q = p ∙ sym q

pub commands_asleep_pinned : (s : State) (n b : ℕ) (x y : Said) → AsleepEnsures s n b x → AsleepEnsures s n b y → x ≡ y
commands_asleep_pinned s n b x y p q =
    ap (λ (z : Said × List ℕ). z.0) (said_pinned (x, []) (y, []) (p idle.settings [] []) (q idle.settings [] []))

pub commands_commanded_pinned : (s : State) (collected : List ℕ) (b : ℕ) (x y : Said × List ℕ)
    → CommandedEnsures s collected b x.0 x.1 → CommandedEnsures s collected b y.0 y.1 → x ≡ y
commands_commanded_pinned s collected b x y p q = said_pinned x y (p idle.settings []) (q idle.settings [])
