-- Trace records (01, "Trace records"): one byte of kind, then a body; numbers low byte first.
use Rattle.std.specs.Prelude.{ℕ, ◌+◌, ◌*◌, List, cond, eqb, take, drop}
use Rattle.bits.specs.Bytes.{byte_at}
use Rattle.messages.specs.Messages.{read_message}
use Rattle.records.specs.declared.Request.{Request}
use Rattle.records.specs.declared.Record.{Record}
use Rattle.records.specs.declared.Record.TheVariants.{Advance, Read, Write, Message, LinkUp, LinkDown, ColdReset, ReadQueue, RemoveOldest, ClearBits, Control, HardwareSet, ReadBits, NoKind}

-- four bytes from byte j on, low byte first
unfoldable pub four : List ℕ → ℕ → ℕ
four r j = byte_at r j + 256 * byte_at r (j + 1) + 65536 * byte_at r (j + 2) + 16777216 * byte_at r (j + 3)

-- slot, word, enables
abbrev pub request_in : List ℕ → Request
request_in r = record { slot = byte_at r 1; word = byte_at r 2; enables = byte_at r 3 }

-- a record by its kind
unfoldable pub decode : List ℕ → Record
decode r =
    cond (eqb (byte_at r 0) 0x01) (Advance (record { 0 = four r 1 }))
    (cond (eqb (byte_at r 0) 0x02) (Read (request_in r))
    (cond (eqb (byte_at r 0) 0x03) (Write (request_in r) (four r 4))
    (cond (eqb (byte_at r 0) 0x04) (Message (read_message (take 16 (drop 1 r))))
    (cond (eqb (byte_at r 0) 0x05) LinkUp
    (cond (eqb (byte_at r 0) 0x06) LinkDown
    (cond (eqb (byte_at r 0) 0x07) ColdReset
    (cond (eqb (byte_at r 0) 0x08) ReadQueue
    (cond (eqb (byte_at r 0) 0x09) RemoveOldest
    (cond (eqb (byte_at r 0) 0x0A) (ClearBits (byte_at r 1))
    (cond (eqb (byte_at r 0) 0x0B) (Control (byte_at r 1))
    (cond (eqb (byte_at r 0) 0x0C) (HardwareSet (byte_at r 1) (byte_at r 2) (four r 3))
    (cond (eqb (byte_at r 0) 0x0D) ReadBits NoKind))))))))))))
