-- An answer in words (01, "Trace records" and "Statuses in an answer").
use Rattle.std.specs.Prelude.{ℕ, ◌+◌, ◌*◌, Bool, false, not, ◌||◌, cond, List, [], ◌++◌, eqb, get_or}
use Rattle.records.specs.declared.Record.{Record}
use Rattle.bits.specs.Text.{chars}
use Rattle.text_line.specs.Text.{hex_of, named, text_if}
use Rattle.describe_records.specs.Records.{kind_of, listed_text, bit0, bit1, bit2}

-- status 23, by the record's kind: what of the link or the slot is not as the record wants it
unfoldable pub wrong_state_text : ℕ → List ℕ
wrong_state_text kind =
    cond (eqb kind 0x05) (chars " link is up") (cond (eqb kind 0x0C) (chars " slot is not Ready") (chars " link is down"))

-- status 24: which value is not allowed
unfoldable pub bad_value_text : ℕ → List ℕ
bad_value_text kind = cond (eqb kind 0x0B) (chars " control above 15, or signalling 3") (chars " enables above 15")

-- a status by name
unfoldable pub status_text : (kind status : ℕ) → List ℕ
status_text kind n =
    cond (eqb n 0) (chars " done")
    (cond (eqb n 16) (chars " CRS shown")
    (cond (eqb n 17) (chars " CRS, to be re-issued")
    (cond (eqb n 18) (chars " Unsupported Request")
    (cond (eqb n 19) (chars " no readiness message")
    (cond (eqb n 20) (chars " no such slot")
    (cond (eqb n 21) (chars " word above 63")
    (cond (eqb n 22) (chars " clock would pass 10^15 ns")
    (cond (eqb n 23) (wrong_state_text kind)
    (cond (eqb n 24) (bad_value_text kind) (chars " unknown status"))))))))))

-- the interrupts by name, where there are any
unfoldable pub interrupts_text : ℕ → List ℕ
interrupts_text n =
    text_if (not (eqb n 0)) (chars "; interrupts")
    ++ listed_text false (bit0 n) (chars "Received")
    ++ listed_text (bit0 n) (bit1 n) (chars "Overflow")
    ++ listed_text (bit0 n || bit1 n) (bit2 n) (chars "DRS")

-- a count with its name, where it isn't 0
unfoldable pub count_text : List ℕ → ℕ → List ℕ
count_text name n = cond (eqb n 0) [] (named name n)

-- the four data bytes of an answer, low byte first
unfoldable pub data_of : List ℕ → ℕ
data_of answer = get_or answer 4 0 + 256 * get_or answer 5 0 + 65536 * get_or answer 6 0 + 16777216 * get_or answer 7 0

-- the kinds that read something: registers, the queue register, status bits
unfoldable pub reads_of : ℕ → Bool
reads_of kind = eqb kind 0x02 || eqb kind 0x08 || eqb kind 0x0D

unfoldable pub data_text : (shown : Bool) → ℕ → List ℕ
data_text shown n = text_if shown (chars "; data " ++ hex_of 8 n ++ chars "h")

-- an answer to a record: status, interrupts, FRS queued and dropped, and the data where the record reads something
unfoldable pub answer_text : Record → List ℕ → List ℕ
answer_text r answer =
    named (chars " -> ") (get_or answer 0 0)
    ++ status_text (kind_of r) (get_or answer 0 0)
    ++ interrupts_text (get_or answer 1 0)
    ++ count_text (chars "; FRS queued ") (get_or answer 2 0)
    ++ count_text (chars "; FRS dropped ") (get_or answer 3 0)
    ++ data_text (reads_of (kind_of r) || not (eqb (data_of answer) 0)) (data_of answer)
