-- A log opens where its front, up to the end of the right packet, is an opening: what follows that packet is unread, so it may be anything, and the one reading of the log says where.
use Prim.Native.Nat.{ℕ, ◌≤◌}
use native.Mathlib.Omega.{arith}
use mathlib.Core.Logic.{◌↔◌}
use mathlib.Core.Path.{◌≡◌, ap, sym, ◌∙◌}
use mathlib.Core.List.{List, [], ◌++◌, append_assoc}
use lib.ListN.{length, take, drop, length-append, length-drop, take-append-drop}
use lib.Seq.{take-append_seam}
use Rattle.packets.specs.Pieces.{joined, Stretch, stretch_bytes, Packet, packet_bytes, right}
use Rattle.packets.specs.Readings.{Log, slept, stayed_shut, opened, log_bytes, Reads, Reading, Opening}
use Rattle.packets.proofs.Readings.{one_reading}

-- the log of a port that opened
abbrev pub Opens : Log → Type 0
Opens (slept dull _) = ⊥
Opens (stayed_shut dull wake packets rest) = ⊥
Opens (opened dull wake packets unread) = Unit {0}

-- the log of a port that did not
abbrev pub Shut : Log → Type 0
Shut (slept dull _) = Unit {0}
Shut (stayed_shut dull wake packets rest) = Unit {0}
Shut (opened dull wake packets unread) = ⊥

module _ (ids : List ℕ) where
  -- what is left unread stands at the end
  pub unread_last : (dull : List Stretch) (wake : Stretch) (packets : List Packet) (unread : List ℕ)
      → log_bytes ids (opened dull wake packets unread) ≡ log_bytes ids (opened dull wake packets []) ++ unread
  unread_last dull wake packets unread = regroup (joined stretch_bytes dull) (stretch_bytes wake) (joined packet_bytes packets) (packet_bytes (right ids))
    where
      regroup : (a b c d : List ℕ) → a ++ (b ++ (c ++ (d ++ unread))) ≡ (a ++ (b ++ (c ++ (d ++ [])))) ++ unread
      regroup a b c d = simp append_assoc

  -- an opening and what follows it
  pub opening_whole : (bs : List ℕ) (k : ℕ) (o : Opening ids (take k bs)) → bs ≡ log_bytes ids (opened o.dull o.wake o.packets (drop k bs))
  opening_whole bs k o =
      sym (take-append-drop k bs) ∙ (ap (λ (l : List ℕ). l ++ drop k bs) o.whole ∙ sym (unread_last o.dull o.wake o.packets (drop k bs)))

  -- the front of a log that opened
  opening_in : (bs : List ℕ) (l : Log) → Reads ids l → bs ≡ log_bytes ids l → Opens l → (k : ℕ) × (k ≤ length bs) × Opening ids (take k bs)
  opening_in bs (slept dull _) r e o = absurd o
  opening_in bs (stayed_shut dull wake packets rest) r e o = absurd o
  opening_in bs (opened dull wake packets unread) r e o =
      let front = log_bytes ids (opened dull wake packets []) in
      let f : bs ≡ front ++ unread = e ∙ unread_last dull wake packets unread in (
        length front,
        omega (arith, ap length f, length-append front unread),
        record { dull = dull; wake = wake; packets = packets; reads = r; whole = ap (take (length front)) f ∙ take-append_seam front unread },
      )

shut_or_opens : (l : Log) → (Opens l → ⊥) → Shut l
shut_or_opens (slept dull _) n = tt
shut_or_opens (stayed_shut dull wake packets rest) n = tt
shut_or_opens (opened dull wake packets unread) n = n tt

shut_not_opens : (l : Log) → Shut l → Opens l → ⊥
shut_not_opens (slept dull _) s o = o
shut_not_opens (stayed_shut dull wake packets rest) s o = o
shut_not_opens (opened dull wake packets unread) s o = s

module _ (ids bs : List ℕ) (seven : length ids ≡ 7) where
  pub opening_front : (k : ℕ) (o : Opening ids (take k bs)) (r : Reading ids bs) → r.log ≡ opened o.dull o.wake o.packets (drop k bs)
  opening_front k o r =
      one_reading ids seven r.log (opened o.dull o.wake o.packets (drop k bs)) r.reads o.reads (sym r.whole ∙ opening_whole ids bs k o)

  pub one_opening : (j k : ℕ) → Opening ids (take j bs) → Opening ids (take k bs) → j ≤ length bs → k ≤ length bs → j ≡ k
  one_opening j k o p h i =
      let r : Reading ids bs = record { log = opened p.dull p.wake p.packets (drop k bs); reads = p.reads; whole = opening_whole ids bs k p } in
      let e : opened p.dull p.wake p.packets (drop k bs) ≡ opened o.dull o.wake o.packets (drop j bs) = opening_front j o r in
      let u : drop k bs ≡ drop j bs = cc in
      omega (arith, simp length-drop at (ap length u))

  pub opens_where : (r : Reading ids bs) → Opens r.log ↔ ((k : ℕ) × (k ≤ length bs) × Opening ids (take k bs))
  opens_where r = (opening_in ids bs r.log r.reads r.whole, λ w. rw (opening_front w.0 w.2 r) tt)

  pub shut_where : (r : Reading ids bs) → Shut r.log ↔ ((k : ℕ) → k ≤ length bs → Opening ids (take k bs) → ⊥)
  shut_where r =
      (λ s k h o. shut_not_opens r.log s ((opens_where r).1 (k, h, o)), λ never. shut_or_opens r.log (λ o. let w = (opens_where r).0 o in never w.0 w.1 w.2))
