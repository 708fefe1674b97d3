-- Readings at the edges, computed, for the ID 31 32 33 34 35 36 37.
use Rattle.std.specs.Prelude.{ℕ, ◌≡◌, List, [], ◌∷◌, ◌++◌, map, replicate, take}
use Rattle.packets.specs.Pieces.{Stretch, Packet, lone, check}
use Rattle.packets.specs.Readings.{Log, slept, stayed_shut, opened, log_bytes, Reads, Reading}
use Rattle.packets.specs.Counts.{wrong_checks}

abbrev pub ids : List ℕ
ids = 0x31 ∷ 0x32 ∷ 0x33 ∷ 0x34 ∷ 0x35 ∷ 0x36 ∷ 0x37 ∷ []

-- bytes, the log that they are read as, and how many wrong ID packets it has
pub record Row : Type 0 where
  pub bytes : List ℕ
  pub log : Log
  pub wrong : ℕ

-- the log is a reading of the bytes, and has so many wrong ID packets
abbrev pub Holds : Row → Type 0
Holds row = Reads ids row.log × (row.bytes ≡ log_bytes ids row.log) × (wrong_checks row.log ≡ row.wrong)

-- every reading of the bytes is the log
abbrev pub Only : Row → Type 0
Only row = (r : Reading ids row.bytes) → r.log ≡ row.log

abbrev pub row : List ℕ → Log → ℕ → Row
row bs l n = record { bytes = bs; log = l; wrong = n }

abbrev pub zeros : ℕ → List ℕ
zeros n = replicate n 0x00

abbrev pub stretch : ℕ → ℕ → Stretch
stretch n b = record { zeros = n; last = b }

abbrev pub right_bytes : List ℕ
right_bytes = 0xF5 ∷ 0xDF ∷ 0xFF ∷ 0x00 ∷ 0x07 ∷ ids

-- an ID packet without bytes
abbrev pub no_id : List ℕ
no_id = 0xF5 ∷ 0xDF ∷ 0xFF ∷ 0x00 ∷ 0x00 ∷ []

-- rows that start with sixteen zeros and B0
abbrev pub shut_row : List ℕ → List Packet → List ℕ → ℕ → Row
shut_row bs packets rest n = row (zeros 16 ++ 0xB0 ∷ bs) (stayed_shut [] (stretch 16 0xB0) packets rest) n

abbrev pub open_row : List ℕ → List Packet → List ℕ → ℕ → Row
open_row bs packets unread n = row (zeros 16 ++ 0xB0 ∷ bs) (opened [] (stretch 16 0xB0) packets unread) n

unfoldable pub table : List Row
table =
    -- no byte; zeros only
    row [] (slept [] 0) 0
    ∷ row (zeros 16) (slept [] 16) 0
    -- fifteen zeros and B0; sixteen; seventeen
    ∷ row (zeros 15 ++ 0xB0 ∷ []) (slept (stretch 15 0xB0 ∷ []) 0) 0
    ∷ row (zeros 15 ++ 0xB0 ∷ 0x00 ∷ 0x00 ∷ []) (slept (stretch 15 0xB0 ∷ []) 2) 0
    ∷ row (zeros 16 ++ 0xB0 ∷ []) (stayed_shut [] (stretch 16 0xB0) [] []) 0
    ∷ row (zeros 17 ++ 0xB0 ∷ []) (stayed_shut [] (stretch 17 0xB0) [] []) 0
    -- B0 too early
    ∷ row (zeros 3 ++ 0xB0 ∷ zeros 16 ++ 0xB0 ∷ 0x70 ∷ []) (stayed_shut (stretch 3 0xB0 ∷ []) (stretch 16 0xB0) (lone 0x70 ∷ []) []) 0
    -- noise before the zeros; another byte than B0 after them
    ∷ row (0x41 ∷ 0x42 ∷ zeros 16 ++ 0xB0 ∷ []) (stayed_shut (stretch 0 0x41 ∷ stretch 0 0x42 ∷ []) (stretch 16 0xB0) [] []) 0
    ∷ row (zeros 16 ++ 0xB1 ∷ 0xB0 ∷ []) (slept (stretch 16 0xB1 ∷ stretch 0 0xB0 ∷ []) 0) 0
    -- a page read, dropped: its address is read as commands
    ∷ shut_row (0xFF ∷ 0x00 ∷ 0x20 ∷ 0x70 ∷ []) (lone 0xFF ∷ lone 0x00 ∷ lone 0x20 ∷ lone 0x70 ∷ []) [] 0
    -- size 0
    ∷ shut_row (0xF5 ∷ 0xDF ∷ 0xFF ∷ 0x00 ∷ 0x00 ∷ 0x70 ∷ []) (check 0xDF 0xFF 0x00 [] ∷ lone 0x70 ∷ []) [] 1
    -- F5 inside an F5's data: all of the right packet's bytes; the first two
    ∷ shut_row (0xF5 ∷ 0xDF ∷ 0xFF ∷ 0x00 ∷ 0x0C ∷ right_bytes) (check 0xDF 0xFF 0x00 right_bytes ∷ []) [] 1
    ∷ shut_row (0xF5 ∷ 0xDF ∷ 0xFF ∷ 0x00 ∷ 0x02 ∷ right_bytes) (check 0xDF 0xFF 0x00 (0xF5 ∷ 0xDF ∷ []) ∷ map lone (0xFF ∷ 0x00 ∷ 0x07 ∷ ids)) [] 1
    -- a cut-off F5: alone; before its size; before its last byte
    ∷ shut_row (0x70 ∷ 0xF5 ∷ []) (lone 0x70 ∷ []) (0xF5 ∷ []) 0
    ∷ shut_row (take 4 right_bytes) [] (take 4 right_bytes) 0
    ∷ shut_row (take 11 right_bytes) [] (take 11 right_bytes) 0
    -- another last ID byte; another address; six bytes
    ∷ shut_row (0xF5 ∷ 0xDF ∷ 0xFF ∷ 0x00 ∷ 0x07 ∷ take 6 ids ++ 0x38 ∷ []) (check 0xDF 0xFF 0x00 (take 6 ids ++ 0x38 ∷ []) ∷ []) [] 1
    ∷ shut_row (0xF5 ∷ 0xDE ∷ 0xFF ∷ 0x00 ∷ 0x07 ∷ ids) (check 0xDE 0xFF 0x00 ids ∷ []) [] 1
    ∷ shut_row (0xF5 ∷ 0xDF ∷ 0xFF ∷ 0x00 ∷ 0x06 ∷ take 6 ids) (check 0xDF 0xFF 0x00 (take 6 ids) ∷ []) [] 1
    -- the right packet; two bytes left unread after it; a wrong packet before it
    ∷ open_row right_bytes [] [] 0
    ∷ open_row (right_bytes ++ 0xF5 ∷ 0x70 ∷ []) [] (0xF5 ∷ 0x70 ∷ []) 0
    ∷ open_row (0xF5 ∷ 0xDF ∷ 0xFF ∷ 0x00 ∷ 0x01 ∷ 0x31 ∷ right_bytes) (check 0xDF 0xFF 0x00 (0x31 ∷ []) ∷ []) [] 1
    -- two of them; three, with other bytes between, and a cut-off one at the end; four before the right one, which are all counted
    ∷ open_row (no_id ++ 0xF5 ∷ 0x00 ∷ 0x00 ∷ 0x00 ∷ 0x00 ∷ right_bytes) (check 0xDF 0xFF 0x00 [] ∷ check 0x00 0x00 0x00 [] ∷ []) [] 2
    ∷ shut_row (no_id ++ (0x70 ∷ no_id ++ (0xB1 ∷ no_id ++ take 4 right_bytes))) (check 0xDF 0xFF 0x00 [] ∷ lone 0x70 ∷ check 0xDF 0xFF 0x00 [] ∷ lone 0xB1 ∷ check 0xDF 0xFF 0x00 [] ∷ []) (take 4 right_bytes) 3
    ∷ open_row (no_id ++ (no_id ++ (no_id ++ (no_id ++ right_bytes)))) (check 0xDF 0xFF 0x00 [] ∷ check 0xDF 0xFF 0x00 [] ∷ check 0xDF 0xFF 0x00 [] ∷ check 0xDF 0xFF 0x00 [] ∷ []) [] 4
    ∷ []
