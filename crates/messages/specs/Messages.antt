-- Readiness messages (01, "Messages (16 bytes)"): DRS and FRS.
use Rattle.std.specs.Prelude.{ℕ, ◌+◌, ◌*◌, ◌/◌, ◌%◌, Bool, ◌&&◌, cond, List, [], ◌∷◌, length, eqb, ltb, Option, Some, None}
use Rattle.bits.specs.Bytes.{byte_at}
use Rattle.messages.specs.declared.Message.{Message}
use Rattle.messages.specs.declared.Message.TheVariants.{Drs, Frs}

-- byte 0: 34h DRS, 30h FRS
abbrev pub drs : ℕ
drs = 0x34

abbrev pub frs : ℕ
frs = 0x30

-- byte 12, which must agree with byte 0: 08h DRS, 09h FRS
unfoldable pub subtype_of : ℕ → ℕ
subtype_of kind = cond (eqb kind drs) 0x08 0x09

-- byte 1 bits 6:4 (TC)
abbrev pub traffic_class : List ℕ → ℕ
traffic_class m = byte_at m 1 / 16 % 8

-- bytes 4, 5: requester ID, high byte first
abbrev pub requester_id : List ℕ → ℕ
requester_id m = byte_at m 4 * 256 + byte_at m 5

-- FRS reason: byte 15 bits 3:0
abbrev pub frs_reason : List ℕ → ℕ
frs_reason m = byte_at m 15 % 16

-- what is checked of a message of the kind, a line for each
unfoldable pub layout : ℕ → List ℕ → Bool
layout kind m =
    eqb (length m) 16
    && eqb (byte_at m 0) kind
    && eqb (traffic_class m) 0
    && eqb (byte_at m 7) 0x7F
    && eqb (byte_at m 10) 0x00
    && eqb (byte_at m 11) 0x01
    && eqb (byte_at m 12) (subtype_of kind)

-- the reasons that an FRS may have: any four bits
unfoldable pub frs_allowed : ℕ → Bool
frs_allowed reason = ltb reason 16

-- an FRS as it is read, with its ID and reason; none where it may not have that reason
unfoldable pub frs_read : ℕ → ℕ → Option Message
frs_read id reason = cond (frs_allowed reason) (Some (Frs id reason)) None

-- what a message is read as, at every length and content
unfoldable pub read_message : List ℕ → Option Message
read_message m =
    cond (layout drs m) (Some (Drs (requester_id m))) (cond (layout frs m) (frs_read (requester_id m) (frs_reason m)) None)

-- what a reading gives: 0 or 19, and then the kind (byte 0), the requester ID and the reason
pub record Reading : Type 0 where
  pub number : ℕ
  pub kind : ℕ
  pub id : ℕ
  pub reason : ℕ

abbrev pub reading : ℕ → ℕ → ℕ → ℕ → Reading
reading number kind id reason = record { number = number; kind = kind; id = id; reason = reason }

-- the number and the values of each case: a DRS has reason 0, and no readiness message is 19
abbrev pub reading_of : Option Message → Reading
reading_of (Some (Drs id)) = reading 0 drs id 0
reading_of (Some (Frs id reason)) = reading 0 frs id reason
reading_of None = reading 19 0 0 0

-- a kind and a reason that can be written: a DRS with reason 0, an FRS with a reason that it may have, and no other kind
unfoldable pub writable : ℕ → ℕ → Bool
writable kind reason = cond (eqb kind drs) (eqb reason 0) (eqb kind frs && frs_allowed reason)

-- the 16 bytes of a message: what isn't listed is written as 0
unfoldable pub canonical : ℕ → ℕ → ℕ → List ℕ
canonical kind id reason =
    kind
    ∷ 0 ∷ 0 ∷ 0
    ∷ id / 256 ∷ id % 256
    ∷ 0
    ∷ 0x7F
    ∷ 0 ∷ 0
    ∷ 0x00 ∷ 0x01
    ∷ subtype_of kind
    ∷ 0 ∷ 0
    ∷ reason
    ∷ []

-- what the writer leaves: its number, and the room
pub record Written : Type 0 where
  pub number : ℕ
  pub room : List ℕ

abbrev pub left : ℕ → List ℕ → Written
left number room = record { number = number; room = room }

-- 16 bytes put into the room; 19, with nothing written, where it has another length
unfoldable pub stored : List ℕ → List ℕ → Written
stored bytes room = cond (eqb (length room) 16) (left 0 bytes) (left 19 room)

-- the writer; 19, with nothing written, for another kind, a reason above 15, a DRS reason not 0, or room other than 16 bytes
unfoldable pub written : ℕ → ℕ → ℕ → List ℕ → Written
written kind id reason room = cond (writable kind reason) (stored (canonical kind id reason) room) (left 19 room)

-- a message of 16 bytes with everything that isn't listed made 0 (byte 15 bits 3:0 are listed for an FRS)
unfoldable pub listed_only : List ℕ → List ℕ
listed_only m =
    byte_at m 0
    ∷ traffic_class m * 16 ∷ 0 ∷ 0
    ∷ byte_at m 4 ∷ byte_at m 5
    ∷ 0
    ∷ byte_at m 7
    ∷ 0 ∷ 0
    ∷ byte_at m 10 ∷ byte_at m 11
    ∷ byte_at m 12
    ∷ 0 ∷ 0
    ∷ cond (eqb (byte_at m 0) frs) (frs_reason m) 0
    ∷ []
