-- What a read gives stands behind what stood there, and what two reads took, one after the other, is both of them joined.
use Rattle.std.proofs.Common.{◌≡◌, ℕ, ◌+◌, ◌≤◌, List, ◌++◌, rules, Option, None, Some, take, length, ap, sym, ◌∙◌, subst, append_assoc}
use Rattle.std.specs.Io.KnownBytes.{Consumes}
use Rattle.std.proofs.Math.Seq.{take-append-add, take-append-le}
use Rattle.std.proofs.lemmas.List.{length-take-le}
use borrow.Rule.Slice.PartMut.{put_mid, post_of}
use Rattle.system.proofs.fill.Goals as goal

taken_both : (a b c : Option (List ℕ)) (bs cs : List ℕ) → Consumes a b bs → Consumes b c cs → Consumes a c (bs ++ cs)
taken_both None b c bs cs p q = tt
taken_both (Some x) None c bs cs p q = absurd p
taken_both (Some x) (Some y) None bs cs p q = absurd q
taken_both (Some x) (Some y) (Some z) bs cs p q = p ∙ ap (λ l. bs ++ l) q ∙ sym (append_assoc bs cs z)

front_grown : (a k n : ℕ) (xs ys : List ℕ) → a ≤ length xs → n ≤ length ys → take a xs ++ take n ys ≡ take (a + n) (put_mid a k xs ys)
front_grown a k n xs ys within fits =
    ap (λ l. take a xs ++ l) (sym (take-append-le n ys (post_of a k xs) fits)) ∙ sym (take-append-add (take a xs) (ys ++ post_of a k xs) n) ∙ ap (λ m. take (m + n) (put_mid a k xs ys)) (length-take-le a xs within)

pub loop-done-preserved : goal.loop-done-preserved
loop-done-preserved g c =
    (search rules, subst (Consumes _ _) (front_grown c.loop-done.done _ c.in-Ok.n c.loop-done.buf c.read.new.buf (search rules) c.in-Ok.ensures.bound.0) (taken_both _ _ _ _ _ c.loop-done.invariant.1 c.in-Ok.ensures.bytes.0))
