-- How a session of document 01's table is run: through the calls, from the record that it describes and from a fresh unit.
use Rattle.std.specs.Prelude.{ℕ, suc, ◌+◌, false, List, [], ◌∷◌, ◌++◌, length, replicate, take}
use Rattle.unit.specs.declared.Unit.{Unit as Port}
use Rattle.unit.specs.declared.Phase.TheVariants.{Awake}
use Rattle.unit.specs.declared.Place.TheVariants.{Command}
use Rattle.unit.specs.Model.{begun, inputs, with_srd1, phased, ended}
use Rattle.protocol.specs.Calls.{start_call, byte_call}

-- a byte with a reply: its number from 1, and the reply
pub record Reply : Type 0 where
  pub number : ℕ
  pub bytes : List ℕ

-- what a session leads to
pub record Played : Type 0 where
  pub replies : List Reply
  pub srd : ℕ
  pub srd1 : ℕ
  pub image : List ℕ

-- byte calls one after the other, each given the unit and image that the last one left and an area of 256 bytes
area : List ℕ
area = replicate 256 0xEE

-- a reply that is not empty
heard : ℕ → List ℕ → List Reply → List Reply
heard n [] rs = rs
heard n (x ∷ xs) rs = record { number = n; bytes = x ∷ xs } ∷ rs

unfoldable pub play : ℕ → Port → List ℕ → List ℕ → Played
unfolding area heard
play n u img [] = record { replies = []; srd = u.registers.srd; srd1 = u.registers.srd1; image = img }
play n u img (b ∷ bs) =
    let l = byte_call u img area b in
    let p = play (suc n) l.answer.unit l.image bs in
    record {
      replies = heard n (take l.answer.reply_len l.area) p.replies;
      srd = p.srd;
      srd1 = p.srd1;
      image = p.image;
    }

-- how a session starts: asleep; awake and closed; awake and open
pub data Start : Type 0 where
  sleeping closed opened : Start

-- a session of the table: not blank, SRD 80, replies numbered from its own first byte
pub record Row : Type 0 where
  pub start : Start
  pub protection : ℕ
  pub before : List ℕ
  pub bytes : List ℕ
  pub replies : List Reply
  pub srd : ℕ
  pub srd1 : ℕ
  pub after : List ℕ

-- the record that the document describes: SRD 80, not blank, SRD1 0C if open and 00 if not
recorded : Start → ℕ → Port
recorded sleeping p = begun false (inputs p)
recorded closed p = phased (begun false (inputs p)) (Awake Command)
recorded opened p = let u = begun false (inputs p) in ended u (with_srd1 u.registers 0x0C)

-- the bytes that bring a fresh unit there: sixteen zeros and B0; the right ID packet
wake_bytes : List ℕ
wake_bytes = replicate 16 0x00 ++ (0xB0 ∷ [])

id_bytes : List ℕ
id_bytes = 0xF5 ∷ 0xDF ∷ 0xFF ∷ 0x00 ∷ 0x07 ∷ 0x31 ∷ 0x32 ∷ 0x33 ∷ 0x34 ∷ 0x35 ∷ 0x36 ∷ 0x37 ∷ []

brings : Start → List ℕ
brings sleeping = []
brings closed = wake_bytes
brings opened = wake_bytes ++ id_bytes

-- and what is heard on the way
hears : Start → List Reply
hears sleeping = []
hears closed = record { number = 17; bytes = 0xB0 ∷ [] } ∷ []
hears opened = record { number = 17; bytes = 0xB0 ∷ [] } ∷ []

later : ℕ → List Reply → List Reply
later n [] = []
later n (r ∷ rs) = record { number = n + r.number; bytes = r.bytes } ∷ later n rs

-- a row played from the record, and from a fresh unit that is brought there
pub record Twice : Type 0 where
  pub recorded : Played
  pub fresh : Played

unfoldable pub played : Row → Twice
unfolding recorded brings wake_bytes id_bytes
played r =
    record {
      recorded = play 1 (recorded r.start r.protection) r.before r.bytes;
      fresh = play 1 (start_call r.before (inputs r.protection)).unit r.before (brings r.start ++ r.bytes);
    }

unfoldable pub wanted : Row → Twice
unfolding later hears brings wake_bytes id_bytes
wanted r =
    record {
      recorded = record { replies = r.replies; srd = r.srd; srd1 = r.srd1; image = r.after };
      fresh =
          record {
            replies = hears r.start ++ later (length (brings r.start)) r.replies;
            srd = r.srd;
            srd1 = r.srd1;
            image = r.after;
          };
    }
