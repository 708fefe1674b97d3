-- `acts::is_right` meets its contract: the list that is compared is the right ID packet of the image, byte by byte.
use Rattle.std.proofs.Common.{◌≡◌, ◌∙◌, ap, refl, sym, Bool, true, false, cond, ℕ, List, [], ◌∷◌, get_or}
use mathlib.Core.List.{map}
use lib.ListN.{replicate}
use Rattle.slices.specs.Lists.{same}
use Rattle.flash.specs.Blocks.{part, sized}
use Rattle.flash.specs.Image.{byte_at, id_addresses, stored_id}
use Rattle.protocol.specs.Endings.{right_id, is_right}
use Rattle.acts.proofs.is_right.Goals as goal

-- the first seven bytes of a list, one by one
abbrev seven : List ℕ → List ℕ
seven l = get_or l 0 0 ∷ get_or l 1 0 ∷ get_or l 2 0 ∷ get_or l 3 0 ∷ get_or l 4 0 ∷ get_or l 5 0 ∷ get_or l 6 0 ∷ []

-- the ID bytes are seven
id_bytes_lem : (img : List ℕ) → stored_id part img ≡ seven (stored_id part img)
unfolding stored_id
id_bytes_lem img = go (sized part img) (map (byte_at part img) id_addresses) refl
  where
    go : (t : Bool) (l : List ℕ) → l ≡ seven l → cond t l (replicate 7 0) ≡ seven (cond t l (replicate 7 0))
    go true l e = e
    go false l e = refl

-- the right ID packet of an image with these ID bytes
right_bytes : (img l : List ℕ) → l ≡ stored_id part img → 0xDF ∷ 0xFF ∷ 0x00 ∷ 0x07 ∷ seven l ≡ right_id img
unfolding right_id
right_bytes img l e = rw e (ap (λ (s : List ℕ). 0xDF ∷ 0xFF ∷ 0x00 ∷ 0x07 ∷ s) (sym (id_bytes_lem img)))

pub returns : goal.returns
unfolding is_right
returns c = c.is_same.ensures ∙ ap (same c.args.xs.now) (right_bytes c.args.image.now c.id.result c.id.ensures)
