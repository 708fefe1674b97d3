-- The text that the bench writes (document 01, "The bench program"), line by line, as ASCII codes. Every line ends in one newline.
use Rattle.std.specs.Prelude.{ℕ, zero, suc, ◌+◌, ◌-◌, ◌/◌, ◌%◌, cond, List, [], ◌∷◌, ◌++◌, ltb, length, drop}
use Prim.Native.Char.{code}
use Rattle.lines.specs.Ascii.{ascii}

-- a digit below 16, in upper case
unfoldable pub digit : ℕ → ℕ
digit d = cond (ltb d 10) (code "0" + d) (code "A" + (d - 10))

-- a number in decimal, with no zero in front; the first argument is the most digits that it may have
unfoldable pub decimal_of : ℕ → ℕ → List ℕ
decimal_of zero n = []
decimal_of (suc k) n = cond (ltb n 10) (digit n ∷ []) (decimal_of k (n / 10) ++ (digit (n % 10) ∷ []))

-- a number of 64 bits has at most 20
unfoldable pub decimal : ℕ → List ℕ
decimal n = decimal_of 20 n

-- a byte in two-digit hex
unfoldable pub hex : ℕ → List ℕ
hex b = digit (b / 16) ∷ digit (b % 16) ∷ []

-- bytes in two-digit hex, each with a space before it
unfoldable pub spaced : List ℕ → List ℕ
spaced [] = []
spaced (b ∷ bs) = ascii " " ++ hex b ++ spaced bs

-- bytes in two-digit hex, parted by single spaces
unfoldable pub parted : List ℕ → List ℕ
parted [] = []
parted (b ∷ bs) = hex b ++ spaced bs

-- a byte's number from 1 and its reply: number, colon, space, the reply's bytes; for no reply no line
unfoldable pub reply_line : ℕ → List ℕ → List ℕ
reply_line number [] = []
reply_line number (b ∷ bs) = decimal number ++ ascii ": " ++ parted (b ∷ bs) ++ ascii "\n"

-- the last line
unfoldable pub end_line : ℕ → ℕ → List ℕ
end_line srd srd1 = ascii "end " ++ parted (srd ∷ srd1 ∷ []) ++ ascii "\n"

-- the one line of a refused start
unfoldable pub refused_line : ℕ → List ℕ
refused_line refusal = ascii "refused " ++ decimal refusal ++ ascii "\n"

-- what a function that writes text leaves: where the text ends, and the buffer
pub record Laid : Type 0 where
  pub len : ℕ
  pub out : List ℕ

abbrev pub leaves : ℕ → List ℕ → Laid
leaves n l = record { len = n; out = l }

-- a text at the front of a buffer, whose other bytes stay
unfoldable pub laid : List ℕ → List ℕ → Laid
laid text out = leaves (length text) (text ++ drop (length text) out)
