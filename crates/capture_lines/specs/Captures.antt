-- The lines of a capture that is replayed or shown, and its end.
use Rattle.std.specs.Prelude.{ℕ, cond, List, [], ◌++◌, eqb, ltb, None, Some}
use Rattle.bits.specs.Text.{chars}
use Rattle.times.specs.declared.Nanos.{Nanos}
use Rattle.ticks.specs.declared.Stamp.{Stamp}
use Rattle.ticks.specs.Ticks.{difference}
use Rattle.capture.specs.Advances.{Earlier}
use Rattle.records.specs.declared.Record.{Record}
use Rattle.records.specs.declared.Record.TheVariants.{Advance}
use Rattle.text_line.specs.Text.{named, column_of}
use Rattle.describe_records.specs.Records.{record_text}
use Rattle.describe_trace.specs.Answers.{answer_text}
use Rattle.describe_trace.specs.Traces.{number_text}
use Rattle.capture_lines.specs.Stamps.{stamp_column, clock_column, difference_text, advance_at, advance_text}

-- a byte offset, and the stamp of the entry there
unfoldable pub place_text : ℕ → Stamp → List ℕ
place_text offset stamp = column_of offset ++ chars "  " ++ stamp_column stamp ++ chars "  "

-- ---- Replayed
-- an entry's record: the byte offset of its kind, its stamp, the clock after it, the record and its answer
unfoldable pub replayed_text : ℕ → Stamp → Nanos → Record → List ℕ → List ℕ
replayed_text offset stamp clock r answer =
    place_text offset stamp ++ clock_column clock ++ chars "  " ++ record_text r ++ answer_text r answer

-- an advance of a stamp: the byte offset of the stamp, the stamp, the clock after it, the advance and its answer
unfoldable pub advanced_text : ℕ → (earlier stamp : Stamp) → (k : ℕ) → Nanos → List ℕ → List ℕ
advanced_text offset earlier stamp k clock answer =
    place_text offset stamp
    ++ clock_column clock
    ++ chars "  "
    ++ advance_text (difference earlier stamp) k
    ++ answer_text (Advance (advance_at (difference earlier stamp) k)) answer

-- what is in hand at the end: an incomplete record, an incomplete stamp, or a stamp without its record
unfoldable pub in_hand_text : (carried stamped : ℕ) → List ℕ
in_hand_text carried stamped =
    cond (ltb 0 carried) (chars ", the last record is incomplete")
    (cond (eqb stamped 0) []
    (cond (ltb stamped 4) (named (chars ", the last stamp has ") stamped ++ chars " of 4 bytes") (chars ", the last stamp is without its record")))

-- the end of a replay: the entries' records that ran, and the advances
unfoldable pub replay_end_text : (number consumed records advances carried stamped : ℕ) → List ℕ
replay_end_text number consumed records advances carried stamped =
    number_text number
    ++ named (chars ", bytes consumed ") consumed
    ++ named (chars ", records ") records
    ++ named (chars ", advances ") advances
    ++ in_hand_text carried stamped

-- ---- Shown
-- the difference to the stamp before; the first stamp has none
unfoldable pub since_text : Earlier → Stamp → List ℕ
since_text None stamp = chars "the first stamp                  "
since_text (Some e) stamp = chars "+" ++ difference_text (difference e stamp)

-- an entry: the byte offset of its record's kind, its stamp, the difference to the stamp before, and the record
unfoldable pub entry_text : ℕ → Earlier → Stamp → Record → List ℕ
entry_text offset earlier stamp r = place_text offset stamp ++ since_text earlier stamp ++ chars "  " ++ record_text r

-- the end of a capture that was only shown
unfoldable pub capture_totals_text : (entries bytes nanos : ℕ) → List ℕ
capture_totals_text entries bytes nanos =
    named (chars "entries ") entries ++ named (chars ", bytes ") bytes ++ named (chars ", differences ") nanos ++ chars " ns in all"
