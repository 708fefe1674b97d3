-- Text written behind text is the two joined, since the second write keeps what stands before its place and what stands after its end.
use Rattle.std.proofs.Common.{◌≡◌, ℕ, ◌+◌, ◌-◌, ◌≤◌, List, [], ◌++◌, length, take, drop, ap, refl, sym, ◌∙◌, arith, append_assoc, append-nil, length-append, add-zero}
use Rattle.std.proofs.Math.Seq.{length-take-le, take_at, drop_at, drop-drop}
use Rattle.std.proofs.lemmas.List.{take-append-drop}
use borrow.Rule.Slice.PartMut.{put_mid}
use Rattle.lines.specs.declared.Line.{Line}
use Rattle.lines.specs.Text.{leaves, laid}
use Rattle.lines.specs.Writing.{Adds}

pub adds_none : (a : Line) → Adds [] a a
adds_none a = record {
  same_buffer = refl;
  same_length = refl;
  end = sym (add-zero a.len);
  bytes = simp (append-nil, take-append-drop);
}

pub adds_then : {s t : List ℕ} {a b c : Line} → a.len ≤ length a.out.now → Adds s a b → Adds t b c → Adds (s ++ t) a c
adds_then {s} {t} {a} {b} {c} h p q =
    let f : length (take a.len a.out.now ++ s) ≡ b.len = simp (length-append, length-take-le a.len a.out.now h) (sym p.end) in
    let k : take b.len b.out.now ≡ take a.len a.out.now ++ s = rw p.bytes (take_at _ _ b.len f) in
    let d : drop b.len b.out.now ≡ drop b.len a.out.now = rw p.bytes (drop_at _ _ b.len f) in
    let e : c.len ≡ b.len + length t = q.end in
    let z : drop c.len b.out.now ≡ drop c.len a.out.now = rw e (sym (drop-drop (length t) b.len b.out.now) ∙ rw d (drop-drop (length t) b.len a.out.now)) in
    record {
      same_buffer = q.same_buffer ∙ p.same_buffer;
      same_length = q.same_length ∙ p.same_length;
      end = omega (arith, length-append s t);
      bytes = q.bytes ∙ rw (k, z, append_assoc (take a.len a.out.now) s t);
    }

-- a line that began at the front of a buffer
pub adds_front : {s : List ℕ} {a b : Line} → Adds s a b → a.len ≡ 0 → leaves b.len b.out.now ≡ laid s a.out.now
unfolding laid
adds_front {s} {a} {b} p h =
    let e : b.len ≡ length s = omega arith in
    rw (p.bytes, h, e)

-- a copy into a part of a buffer
pub part_is : (at : ℕ) (s copied out : List ℕ) → copied ≡ s → put_mid at (at + length s - at) out copied ≡ take at out ++ s ++ drop (at + length s) out
part_is at s copied out e =
    let k : at + length s - at ≡ length s = omega arith in
    rw (k, e) (ap (λ l. take at out ++ (s ++ l)) (drop-drop (length s) at out) ∙ sym (append_assoc (take at out) s _))
