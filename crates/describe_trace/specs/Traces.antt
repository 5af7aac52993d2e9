-- The lines of a trace, and its end.
use Rattle.std.specs.Prelude.{ℕ, cond, List, [], ◌++◌, eqb, ltb}
use Rattle.times.specs.declared.Nanos.{Nanos}
use Rattle.records.specs.declared.Record.{Record}
use Rattle.bits.specs.Text.{chars}
use Rattle.text_line.specs.Text.{hex_of, named, text_if, column_of}
use Rattle.describe_records.specs.Records.{record_text}
use Rattle.describe_trace.specs.Answers.{answer_text}

-- a record at its byte offset
unfoldable pub shown_text : ℕ → Record → List ℕ
shown_text offset r = column_of offset ++ chars "  " ++ record_text r

-- a record that was run: byte offset, clock after it, the record and its answer
unfoldable pub run_text : ℕ → Nanos → Record → List ℕ → List ℕ
run_text offset clock r answer =
    column_of offset ++ chars "  " ++ column_of clock.0 ++ chars " ns  " ++ record_text r ++ answer_text r answer

-- a byte that no kind has
unfoldable pub unknown_text : (offset kind : ℕ) → List ℕ
unknown_text offset kind =
    column_of offset ++ chars "  unknown kind " ++ hex_of 2 kind ++ chars "h (kinds are 01h to 0Dh): the trace is broken here"

-- a record that the file's end cuts off
unfoldable pub incomplete_text : (offset kind count size : ℕ) → List ℕ
incomplete_text offset kind count size =
    column_of offset
    ++ chars "  incomplete record of kind "
    ++ hex_of 2 kind
    ++ named (chars "h: the file has ") count
    ++ named (chars " of its ") size
    ++ chars " bytes"

-- 01, "Numbers given for no", and 02, Q-5: 32 and 33
unfoldable pub number_meaning : ℕ → List ℕ
number_meaning n =
    cond (eqb n 0) (chars " (everything fed)")
    (cond (eqb n 1) (chars " (slots not 1 to 32, or lengths that don't fit them)")
    (cond (eqb n 2) (chars " (queue length not 1 to 4095)")
    (cond (eqb n 3) (chars " (a time code above A1Eh)")
    (cond (eqb n 4) (chars " (a default with bit 15 or 21 of 78h or bits 1:0 of 44h set)")
    (cond (eqb n 5) (chars " (port or statuses unsound)")
    (cond (eqb n 30) (chars " (no room for an answer)")
    (cond (eqb n 31) (chars " (the trace is broken: unknown kind)")
    (cond (eqb n 32) (chars " (the recorder went back)")
    (cond (eqb n 33) (chars " (an advance in a capture)") [])))))))))

unfoldable pub number_text : ℕ → List ℕ
number_text n = named (chars "number ") n ++ number_meaning n

-- a set-up that is refused
unfoldable pub refusal_text : ℕ → List ℕ
refusal_text n = chars "set-up refused: " ++ number_text n

-- the end of a run
unfoldable pub end_text : (number consumed records carried : ℕ) → List ℕ
end_text number consumed records carried =
    number_text number
    ++ named (chars ", bytes consumed ") consumed
    ++ named (chars ", records ") records
    ++ text_if (ltb 0 carried) (chars ", the last record is incomplete")

-- the end of a trace that was only shown
unfoldable pub totals_text : (records bytes : ℕ) → List ℕ
totals_text records bytes = named (chars "records ") records ++ named (chars ", bytes ") bytes
