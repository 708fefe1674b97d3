-- Document 01's worked example, whole, and the refusal's line: each line computes from its reply.
use mathlib.Core.Path.{◌≡◌, refl}
use mathlib.Core.List.{[], ◌∷◌}
use Rattle.lines.specs.Ascii.{ascii}
use Rattle.lines.specs.Text.{digit, decimal_of, decimal, hex, spaced, parted, reply_line, end_line, refused_line}

pub waking : reply_line 17 (0xB0 ∷ []) ≡ ascii "17: B0\n"
unfolding digit decimal_of decimal hex spaced parted reply_line
waking = refl

pub status : reply_line 18 (0x80 ∷ 0x00 ∷ []) ≡ ascii "18: 80 00\n"
unfolding digit decimal_of decimal hex spaced parted reply_line
status = refl

pub version : reply_line 19 (0x56 ∷ 0x45 ∷ 0x52 ∷ 0x2E ∷ 0x32 ∷ 0x2E ∷ 0x30 ∷ 0x30 ∷ []) ≡ ascii "19: 56 45 52 2E 32 2E 30 30\n"
unfolding digit decimal_of decimal hex spaced parted reply_line
version = refl

pub end : end_line 0x80 0x00 ≡ ascii "end 80 00\n"
unfolding digit hex spaced parted end_line
end = refl

pub silence : reply_line 16 [] ≡ []
unfolding reply_line
silence = refl

pub refused : refused_line 1 ≡ ascii "refused 1\n"
unfolding digit decimal_of decimal refused_line
refused = refl

-- the codes are ASCII's
pub codes : ascii "\n 09:AFaf" ≡ 0x0A ∷ 0x20 ∷ 0x30 ∷ 0x39 ∷ 0x3A ∷ 0x41 ∷ 0x46 ∷ 0x61 ∷ 0x66 ∷ []
codes = refl
