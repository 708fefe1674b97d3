-- Packets are pieces of which none begins another: the first byte says which kind it is, and the size byte of an F5 says where it ends.
use Prim.Native.Nat.{ℕ, ◌+◌, ◌<◌, ◌≤◌}
use native.Mathlib.Omega.{arith}
use native.Mathlib.Decide.{ℕ_discrete, dec_le}
use mathlib.Core.HLevel.{dec→stable}
use mathlib.Core.Path.{◌≡◌, refl, sym, subst}
use mathlib.Core.List.{List, [], ◌∷◌, ◌++◌}
use lib.ListN.{length, take, drop, get_or, length-append, take-append-drop}
use lib.Seq.{length-take-le}
use Rattle.packets.specs.Pieces.{Packet, lone, check, packet_bytes, Formed, Unfinished, right}
use Rattle.packets.specs.Readings.{Bytes}
use Rattle.packets.proofs.Decisions.{no_number, packet?, formed?, unfinished?}
use Rattle.packets.proofs.Cuts.{First, ends, begins, Code}

pub some_packet : (p : Packet) → 0 < length (packet_bytes p)
some_packet (lone b) = omega arith
some_packet (check low mid high ds) = omega arith

same_length : (xs ys r s : List ℕ) → length xs ≡ length ys → xs ++ r ≡ ys ++ s → (xs ≡ ys) × (r ≡ s)
same_length [] [] r s n e = (refl, e)
same_length [] (y ∷ ys) r s n e = absurd (omega arith)
same_length (x ∷ xs) [] r s n e = absurd (omega arith)
same_length (x ∷ xs) (y ∷ ys) r s n e =
    let i = same_length xs ys r s (omega arith) (cc) in
    let t : xs ≡ ys = i.0 in
    (cc, i.1)

pub front_packet : (p q : Packet) (r s : List ℕ) → Formed p → Formed q → packet_bytes p ++ r ≡ packet_bytes q ++ s → (p ≡ q) × (r ≡ s)
front_packet (lone a) (lone b) r s f g e = (cc, cc)
front_packet (lone a) (check low mid high ds) r s f g e = absurd (f (cc))
front_packet (check low mid high ds) (lone b) r s f g e = absurd (g (cc))
front_packet (check low mid high ds) (check low' mid' high' ds') r s f g e =
    let i = same_length ds ds' r s (cc) (cc) in
    let d : ds ≡ ds' = i.0 in
    (cc, i.1)

pub unfinished_not_begun : (t : List ℕ) (p : Packet) (r : List ℕ) → Unfinished t → Formed p → t ≡ packet_bytes p ++ r → ⊥
unfinished_not_begun [] (lone b) r u f e = no_number (cc)
unfinished_not_begun [] (check low mid high ds) r u f e = no_number (cc)
unfinished_not_begun (b ∷ t) (lone c) r u f e = f (cc)
unfinished_not_begun (b ∷ t) (check low mid high ds) r u f e =
    let tail : t ≡ low ∷ mid ∷ high ∷ length ds ∷ (ds ++ r) = cc in
    let short = rw tail at u.1 in
    omega (arith, length-append ds r)

-- F5 with all the bytes that it asks for is a packet
checked : (b : ℕ) (t : List ℕ) → b ≡ 0xF5 → 4 + get_or t 3 0 ≤ length t → Bytes t → First packet_bytes Formed Unfinished (b ∷ t)
checked b [] e h y = absurd (omega arith)
checked b (low ∷ []) e h y = absurd (omega arith)
checked b (low ∷ mid ∷ []) e h y = absurd (omega arith)
checked b (low ∷ mid ∷ high ∷ []) e h y = absurd (omega arith)
checked b (low ∷ mid ∷ high ∷ n ∷ t) e h y =
    let size : length (take n t) ≡ n = length-take-le n t (omega arith) in
    let byte : n < 256 = y.1.1.1.0 in
    let both : take n t ++ drop n t ≡ t = take-append-drop n t in
    begins (check low mid high (take n t)) (drop n t) (omega arith) (cc)

pub first_packet : (bs : List ℕ) → Bytes bs → First packet_bytes Formed Unfinished bs
first_packet [] y = ends tt
first_packet (b ∷ t) y = go (formed? (lone b)) (unfinished? (b ∷ t))
  where
    go : Dec (Formed (lone b)) → Dec (Unfinished (b ∷ t)) → First packet_bytes Formed Unfinished (b ∷ t)
    go (yes f) u = begins (lone b) t f refl
    go (no f) (yes u) = ends u
    go (no f) (no u) =
        let e : b ≡ 0xF5 = dec→stable (ℕ_discrete _ _) f in
        checked b t e (dec→stable (dec_le _ _) (λ short. u (omega arith))) y.1

module _ (ids : List ℕ) (seven : length ids ≡ 7) where
  pub right_formed : (p : Packet) → p ≡ right ids → Formed p
  right_formed p e = subst Formed (sym e) (omega arith)

  abbrev pub packets : Code
  packets =
      record {
        Piece = Packet;
        bytes = packet_bytes;
        Good = Formed;
        Stop = λ (p : Packet). p ≡ right ids;
        End = Unfinished;
        some_bytes = some_packet;
        stop_good = right_formed;
        stop? = λ (p : Packet). packet? p (right ids);
        first = first_packet;
        front = front_packet;
        not_begun = unfinished_not_begun;
      }
