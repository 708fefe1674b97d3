-- Pieces of which none begins another can be cut off the front of a list of bytes in one way only, so the list has one cut, up to the piece that stops it or to its end.
use Prim.Native.Nat.{ℕ, zero, suc, ◌<◌}
use native.Mathlib.Omega.{arith}
use mathlib.Core.Path.{◌≡◌, refl, ap, sym, ◌∙◌, subst}
use mathlib.Core.List.{List, [], ◌∷◌, ◌++◌, append_assoc}
use lib.ListN.{length, length-append}
use Rattle.packets.specs.Pieces.{Each, joined}
use Rattle.packets.specs.Readings.{Bytes}

pub bytes_back : (xs ys : List ℕ) → Bytes (xs ++ ys) → Bytes ys
bytes_back [] ys b = b
bytes_back (x ∷ xs) ys b = bytes_back xs ys b.1

-- a list of bytes is at an end, or a good piece begins it
pub data First {A : Type 0} (bytes : A → List ℕ) (Good : A → Type 0) (End : List ℕ → Type 0) (bs : List ℕ) : Type 0 where
  ends : End bs → First bytes Good End bs
  begins : (x : A) (rest : List ℕ) → Good x → bs ≡ bytes x ++ rest → First bytes Good End bs

-- pieces with their bytes: which are good, which of the good ones stop the cut, and where no good piece begins
pub record Code : Type 1 where
  pub Piece : Type 0
  pub bytes : Piece → List ℕ
  pub Good : Piece → Type 0
  pub Stop : Piece → Type 0
  pub End : List ℕ → Type 0
  pub some_bytes : (x : Piece) → 0 < length (bytes x)
  pub stop_good : (x : Piece) → Stop x → Good x
  pub stop? : (x : Piece) → Dec (Stop x)
  pub first : (bs : List ℕ) → Bytes bs → First bytes Good End bs
  pub front : (x y : Piece) (r s : List ℕ) → Good x → Good y → bytes x ++ r ≡ bytes y ++ s → (x ≡ y) × (r ≡ s)
  pub not_begun : (t : List ℕ) (x : Piece) (r : List ℕ) → End t → Good x → t ≡ bytes x ++ r → ⊥

abbrev pub Plain : (c : Code) → c.Piece → Type 0
Plain c x = c.Good x × (c.Stop x → ⊥)

-- where plain pieces end
pub data Tail (c : Code) (t : List ℕ) : Type 0 where
  at_end : c.End t → Tail c t
  at_stop : (x : c.Piece) (rest : List ℕ) → c.Stop x → t ≡ c.bytes x ++ rest → Tail c t

pub record Cut (c : Code) (bs : List ℕ) : Type 0 where
  pub pieces : List c.Piece
  pub tail : List ℕ
  pub plain : Each (Plain c) pieces
  pub tailed : Tail c tail
  pub whole : bs ≡ joined c.bytes pieces ++ tail

module _ (c : Code) where
  abbrev join : List c.Piece → List ℕ
  join = joined c.bytes

  shorter_rest : (bs : List ℕ) (x : c.Piece) (rest : List ℕ) → bs ≡ c.bytes x ++ rest → length rest < length bs
  shorter_rest bs x rest e = omega (arith, c.some_bytes x, simp length-append at (ap length e))

  one_more : (bs rest : List ℕ) (x : c.Piece) → Plain c x → bs ≡ c.bytes x ++ rest → Cut c rest → Cut c bs
  one_more bs rest x p e k =
      record {
        pieces = x ∷ k.pieces;
        tail = k.tail;
        plain = (p, k.plain);
        tailed = k.tailed;
        whole = e ∙ (ap (λ (l : List ℕ). c.bytes x ++ l) k.whole ∙ sym (append_assoc (c.bytes x) (join k.pieces) k.tail));
      }

  no_pieces : (bs : List ℕ) → Tail c bs → Cut c bs
  no_pieces bs t = record { pieces = []; tail = bs; plain = tt; tailed = t; whole = refl }

  -- the cut, where every shorter list has one
  cut_by : (bs : List ℕ) → Bytes bs → First c.bytes c.Good c.End bs → ((rest : List ℕ) → length rest < length bs → Bytes rest → Cut c rest) → Cut c bs
  cut_by bs b (ends e) shorter = no_pieces bs (at_end e)
  cut_by bs b (begins x rest g e) shorter = go (c.stop? x)
    where
      go : Dec (c.Stop x) → Cut c bs
      go (yes s) = no_pieces bs (at_stop x rest s e)
      go (no n) = one_more bs rest x (g, n) e (shorter rest (shorter_rest bs x rest e) (bytes_back (c.bytes x) rest (subst Bytes e b)))

  cut_within : (n : ℕ) (bs : List ℕ) → length bs < n → Bytes bs → Cut c bs
  cut_within zero bs h b = absurd (omega arith)
  cut_within (suc n) bs h b = cut_by bs b (c.first bs b) (λ rest s r. cut_within n rest (omega arith) r)

  -- every list of bytes has a cut
  pub cut : (bs : List ℕ) → Bytes bs → Cut c bs
  cut bs b = cut_within (suc (length bs)) bs (omega arith) b

  -- no plain piece begins where plain pieces end
  not_plain : (t : List ℕ) (x : c.Piece) (r : List ℕ) → Tail c t → Plain c x → t ≡ c.bytes x ++ r → ⊥
  not_plain t x r (at_end n) p e = c.not_begun t x r n p.0 e
  not_plain t x r (at_stop y s k q) p e = p.1 (subst c.Stop (c.front y x s r (c.stop_good y k) p.0 (sym q ∙ e)).0 k)

  -- two cuts of the same bytes are the same
  pub one_cut : (xs ys : List c.Piece) (t u : List ℕ) → Each (Plain c) xs → Each (Plain c) ys → Tail c t → Tail c u → join xs ++ t ≡ join ys ++ u → (xs ≡ ys) × (t ≡ u)
  one_cut [] [] t u p q k l e = (refl, e)
  one_cut [] (y ∷ ys) t u p q k l e = absurd (not_plain t y (join ys ++ u) k q.0 (e ∙ append_assoc (c.bytes y) (join ys) u))
  one_cut (x ∷ xs) [] t u p q k l e = absurd (not_plain u x (join xs ++ t) l p.0 (sym e ∙ append_assoc (c.bytes x) (join xs) t))
  one_cut (x ∷ xs) (y ∷ ys) t u p q k l e =
      let f = c.front x y (join xs ++ t) (join ys ++ u) p.0.0 q.0.0 (sym (append_assoc (c.bytes x) (join xs) t) ∙ (e ∙ append_assoc (c.bytes y) (join ys) u)) in
      let g = one_cut xs ys t u p.1 q.1 k l f.1 in
      let a : x ≡ y = f.0 in
      let b : xs ≡ ys = g.0 in
      (cc, g.1)

  -- two cuts up to pieces that stop them
  pub one_stop : (xs ys : List c.Piece) (x y : c.Piece) (r s : List ℕ) → Each (Plain c) xs → Each (Plain c) ys → c.Stop x → c.Stop y
      → join xs ++ (c.bytes x ++ r) ≡ join ys ++ (c.bytes y ++ s) → (xs ≡ ys) × (x ≡ y) × (r ≡ s)
  one_stop xs ys x y r s p q k l e =
      let f = one_cut xs ys (c.bytes x ++ r) (c.bytes y ++ s) p q (at_stop x r k refl) (at_stop y s l refl) e in
      let g = c.front x y r s (c.stop_good x k) (c.stop_good y l) f.1 in
      (f.0, g.0, g.1)

  -- a list cut to its end is not cut up to a piece that stops it
  pub not_stopped : (xs ys : List c.Piece) (t : List ℕ) (y : c.Piece) (s : List ℕ) → Each (Plain c) xs → Each (Plain c) ys → c.End t → c.Stop y
      → join xs ++ t ≡ join ys ++ (c.bytes y ++ s) → ⊥
  not_stopped xs ys t y s p q n l e =
      c.not_begun t y s n (c.stop_good y l) (one_cut xs ys t (c.bytes y ++ s) p q (at_end n) (at_stop y s l refl) e).1
