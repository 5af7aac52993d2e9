-- A record in words, and a readiness message.
use Rattle.std.specs.Prelude.{ℕ, ◌*◌, ◌/◌, ◌%◌, Bool, false, ◌||◌, cond, List, ◌++◌, eqb, ltb, Option, Some, None}
use Rattle.messages.specs.declared.Message.{Message}
use Rattle.messages.specs.declared.Message.TheVariants.{Drs, Frs}
use Rattle.records.specs.declared.Request.{Request}
use Rattle.records.specs.declared.Record.{Record}
use Rattle.records.specs.declared.Record.TheVariants.{Advance, Read, Write, Message as OfMessage, LinkUp, LinkDown, ColdReset, ReadQueue, RemoveOldest, ClearBits, Control, HardwareSet, ReadBits, NoKind}
use Rattle.bits.specs.Text.{chars}
use Rattle.text_line.specs.Text.{hex_of, named, text_if}

-- ---- parts

-- an ID
unfoldable pub id_text : ℕ → List ℕ
id_text id = hex_of 4 id ++ chars "h"

-- a register's value
unfoldable pub word_text : ℕ → List ℕ
word_text word = hex_of 8 word ++ chars "h"

-- the byte offset of a word; no record names a word above 255
unfoldable pub offset_of : ℕ → ℕ
offset_of word = cond (ltb word 256) (word * 4) 1024

-- in two hex digits, or three where two are too few
unfoldable pub offset_text : ℕ → List ℕ
offset_text offset = cond (ltb offset 256) (hex_of 2 offset) (hex_of 3 offset)

-- slot and offset
unfoldable pub place_text : (slot word : ℕ) → List ℕ
place_text slot word = named (chars " slot ") slot ++ chars " offset " ++ offset_text (offset_of word) ++ chars "h"

-- the byte enables, in one hex digit, or two where one is too few
unfoldable pub enables_text : ℕ → List ℕ
enables_text enables = cond (ltb enables 16) (hex_of 1 enables) (hex_of 2 enables)

-- a name, and on or off
unfoldable pub switch_text : List ℕ → Bool → List ℕ
switch_text name on = name ++ cond on (chars "on") (chars "off")

-- DRS signalling: with 1 the DRS interrupt is raised, with 2 an FRS arrives
unfoldable pub signalling_meaning : ℕ → List ℕ
signalling_meaning n =
    cond (eqb n 0) (chars " (none)")
    (cond (eqb n 1) (chars " (interrupt)")
    (cond (eqb n 2) (chars " (FRS)") (chars " (not allowed)")))

unfoldable pub signalling_text : ℕ → List ℕ
signalling_text n = named (chars ", DRS signalling ") n ++ signalling_meaning n

-- ---- messages

-- what an FRS reason means
unfoldable pub reason_meaning : ℕ → List ℕ
reason_meaning n =
    cond (eqb n 1) (chars " (DRS received)")
    (cond (eqb n 2) (chars " (D3hot to D0)")
    (cond (eqb n 3) (chars " (FLR completed)")
    (cond (eqb n 8) (chars " (VF enabled)")
    (cond (eqb n 9) (chars " (VF disabled)") (chars " (reserved)")))))

-- the requester ID and the reason
unfoldable pub frs_text : (id reason : ℕ) → List ℕ
frs_text id reason = chars "FRS from " ++ id_text id ++ named (chars ", reason ") reason ++ reason_meaning reason

unfoldable pub drs_text : ℕ → List ℕ
drs_text id = chars "DRS from " ++ id_text id

unfoldable pub message_text : Option Message → List ℕ
message_text (Some (Drs id)) = drs_text id
message_text (Some (Frs id reason)) = frs_text id reason
message_text None = chars "no readiness message"

-- ---- records

unfoldable pub advance_text : ℕ → List ℕ
advance_text by = named (chars "advance clock by ") by ++ chars " ns"

-- a configuration request: slot, offset and byte enables
unfoldable pub request_text : List ℕ → Request → List ℕ
request_text name r = name ++ place_text r.slot r.word ++ chars " enables " ++ enables_text r.enables ++ chars "h"

unfoldable pub write_text : Request → ℕ → List ℕ
write_text r n = request_text (chars "configuration write") r ++ chars " data " ++ word_text n

unfoldable pub message_record_text : Option Message → List ℕ
message_record_text m = chars "message: " ++ message_text m

-- a name of a list, where it applies; `later` where another stands before it
unfoldable pub listed_text : (later applies : Bool) → List ℕ → List ℕ
listed_text later applies name = text_if applies (cond later (chars ", ") (chars " ") ++ name)

-- bit k of a byte, for the three status bits (01, record 0A)
abbrev pub bit0 : ℕ → Bool
bit0 n = eqb (n % 2) 1

abbrev pub bit1 : ℕ → Bool
bit1 n = eqb (n / 2 % 2) 1

abbrev pub bit2 : ℕ → Bool
bit2 n = eqb (n / 4 % 2) 1

-- the status bits by name
unfoldable pub bits_text : ℕ → List ℕ
bits_text n =
    listed_text false (bit0 n) (chars "Received")
    ++ listed_text (bit0 n) (bit1 n) (chars "Overflow")
    ++ listed_text (bit0 n || bit1 n) (bit2 n) (chars "DRS Received")
    ++ text_if (eqb (n % 8) 0) (chars " none")

unfoldable pub clear_text : ℕ → List ℕ
clear_text n = chars "clear status bits:" ++ bits_text n

-- the control byte
unfoldable pub control_text : ℕ → List ℕ
control_text n =
    chars "control "
    ++ hex_of 2 n
    ++ switch_text (chars "h: CRS visibility ") (bit0 n)
    ++ switch_text (chars ", FRS interrupt ") (bit1 n)
    ++ signalling_text (n / 4 % 4)

unfoldable pub hardware_text : (slot word mask : ℕ) → List ℕ
hardware_text slot word mask = chars "hardware sets bits:" ++ place_text slot word ++ chars " mask " ++ word_text mask

-- the kind of a record (01, "Trace records"); 0 for none
unfoldable pub kind_of : Record → ℕ
kind_of (Advance by) = 0x01
kind_of (Read r) = 0x02
kind_of (Write r n) = 0x03
kind_of (OfMessage m) = 0x04
kind_of LinkUp = 0x05
kind_of LinkDown = 0x06
kind_of ColdReset = 0x07
kind_of ReadQueue = 0x08
kind_of RemoveOldest = 0x09
kind_of (ClearBits n) = 0x0A
kind_of (Control n) = 0x0B
kind_of (HardwareSet slot word mask) = 0x0C
kind_of ReadBits = 0x0D
kind_of NoKind = 0

unfoldable pub record_text : Record → List ℕ
record_text (Advance by) = advance_text by.0
record_text (Read r) = request_text (chars "configuration read") r
record_text (Write r n) = write_text r n
record_text (OfMessage m) = message_record_text m
record_text LinkUp = chars "link up"
record_text LinkDown = chars "link down"
record_text ColdReset = chars "cold reset"
record_text ReadQueue = chars "read queue register"
record_text RemoveOldest = chars "remove oldest"
record_text (ClearBits n) = clear_text n
record_text (Control n) = control_text n
record_text (HardwareSet slot word mask) = hardware_text slot word mask
record_text ReadBits = chars "read status bits"
record_text NoKind = chars "unknown kind"
