-- Every list of bytes has a reading, and only one: a log is a cut into stretches, and what follows the one that wakes is a cut into packets.
use Prim.Native.Nat.{ℕ}
use mathlib.Core.Path.{◌≡◌, refl, ap, sym, ◌∙◌, subst}
use mathlib.Core.List.{List, ◌++◌}
use lib.ListN.{length, replicate, length-replicate}
use Rattle.packets.specs.Pieces.{Each, joined, Stretch, stretch_bytes, Wakes, Dull, right}
use Rattle.packets.specs.Readings.{Bytes, Log, slept, stayed_shut, opened, log_bytes, Reads, Reading}
use Rattle.packets.proofs.Cuts.{bytes_back, Tail, at_end, at_stop, Cut, cut, one_cut, one_stop, not_stopped}
use Rattle.packets.proofs.Stretches.{stretches}
use Rattle.packets.proofs.Packets.{packets}

module _ (ids bs : List ℕ) (seven : length ids ≡ 7) where
  woken : (rest : List ℕ) (dull : List Stretch) (wake : Stretch) → Each Dull dull → Wakes wake
      → bs ≡ joined stretch_bytes dull ++ (stretch_bytes wake ++ rest) → Cut (packets ids seven) rest → Reading ids bs
  woken rest dull wake d w e k = go k.tailed
    where
      go : Tail (packets ids seven) k.tail → Reading ids bs
      go (at_end u) = record { log = stayed_shut dull wake k.pieces k.tail; reads = (d, w, k.plain, u); whole = cc }
      go (at_stop p unread r q) = record { log = opened dull wake k.pieces unread; reads = (d, w, k.plain); whole = cc }

  pub reading : Bytes bs → Reading ids bs
  reading y = let k = cut stretches bs y in go k k.tailed
    where
      go : (k : Cut stretches bs) → Tail stretches k.tail → Reading ids bs
      go k (at_end (n, z)) = record { log = slept k.pieces n; reads = k.plain; whole = cc }
      go k (at_stop wake rest w q) =
          let e : bs ≡ joined stretch_bytes k.pieces ++ (stretch_bytes wake ++ rest) = cc in
          let after_dull : Bytes (stretch_bytes wake ++ rest) = bytes_back (joined stretch_bytes k.pieces) _ (subst Bytes e y) in
          woken rest k.pieces wake k.plain w e (cut (packets ids seven) rest (bytes_back (stretch_bytes wake) rest after_dull))

module _ (ids : List ℕ) (seven : length ids ≡ 7) where
  never_woke : (d d' : List Stretch) (n : ℕ) (w : Stretch) (rest : List ℕ) → Each Dull d → Each Dull d' → Wakes w
      → joined stretch_bytes d ++ replicate n 0x00 ≡ joined stretch_bytes d' ++ (stretch_bytes w ++ rest) → ⊥
  never_woke d d' n w rest a b k e = not_stopped stretches d d' (replicate n 0x00) w rest a b (n, refl) k e

  pub one_reading : (r s : Log) → Reads ids r → Reads ids s → log_bytes ids r ≡ log_bytes ids s → r ≡ s
  one_reading (slept d n) (slept d' n') a b e =
      let (f, g) = one_cut stretches d d' (replicate n 0x00) (replicate n' 0x00) a b (at_end (n, refl)) (at_end (n', refl)) e in
      let z : n ≡ n' = sym (length-replicate n 0x00) ∙ (ap length g ∙ length-replicate n' 0x00) in
      cc
  one_reading (slept d n) (stayed_shut d' w' ps' t') a b e = absurd (never_woke d d' n w' _ a b.0 b.1 e)
  one_reading (slept d n) (opened d' w' ps' u') a b e = absurd (never_woke d d' n w' _ a b.0 b.1 e)
  one_reading (stayed_shut d w ps t) (slept d' n') a b e = absurd (never_woke d' d n' w _ b a.0 a.1 (sym e))
  one_reading (opened d w ps u) (slept d' n') a b e = absurd (never_woke d' d n' w _ b a.0 a.1 (sym e))
  one_reading (stayed_shut d w ps t) (stayed_shut d' w' ps' t') a b e =
      let (f, g, h) = one_stop stretches d d' w w' _ _ a.0 b.0 a.1 b.1 e in
      let (i, j) = one_cut (packets ids seven) ps ps' t t' a.2 b.2 (at_end a.3) (at_end b.3) h in
      cc
  one_reading (stayed_shut d w ps t) (opened d' w' ps' u') a b e =
      let (f, g, h) = one_stop stretches d d' w w' _ _ a.0 b.0 a.1 b.1 e in
      absurd (not_stopped (packets ids seven) ps ps' t (right ids) u' a.2 b.2 a.3 refl h)
  one_reading (opened d w ps u) (stayed_shut d' w' ps' t') a b e =
      let (f, g, h) = one_stop stretches d d' w w' _ _ a.0 b.0 a.1 b.1 e in
      absurd (not_stopped (packets ids seven) ps' ps t' (right ids) u b.2 a.2 b.3 refl (sym h))
  one_reading (opened d w ps u) (opened d' w' ps' u') a b e =
      let (f, g, h) = one_stop stretches d d' w w' _ _ a.0 b.0 a.1 b.1 e in
      let (i, j, k) = one_stop (packets ids seven) ps ps' (right ids) (right ids) u u' a.2 b.2 refl refl h in
      cc

pub one_log : (ids bs : List ℕ) → length ids ≡ 7 → (r s : Reading ids bs) → r.log ≡ s.log
one_log ids bs seven r s = one_reading ids seven r.log s.log r.reads s.reads (sym r.whole ∙ s.whole)
