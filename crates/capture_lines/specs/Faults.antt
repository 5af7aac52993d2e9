-- What ends a capture early (02, Q-5): 32, 33, 31, or the end of the file within an entry.
use Rattle.std.specs.Prelude.{ℕ, ◌-◌, cond, Option, Some, None, List, [], ◌++◌, eqb, ltb}
use Rattle.bits.specs.Text.{chars}
use Rattle.ticks.specs.declared.Stamp.{Stamp}
use Rattle.ticks.specs.Ticks.{difference, went_back}
use Rattle.capture.specs.Advances.{Earlier}
use Rattle.text_line.specs.Text.{hex_of, named, column_of}
use Rattle.capture_lines.specs.declared.CaptureFault.{CaptureFault}
use Rattle.capture_lines.specs.declared.CaptureFault.TheVariants.{WentBack, AdvanceFirst, AdvanceKind, NoKind, StampCut, NoRecord, RecordCut}
use Rattle.capture_lines.specs.Stamps.{stamp_text, span_text}
use Rattle.capture_lines.specs.Captures.{place_text}

-- ---- Which it is
-- at a kind byte after a stamp that goes forward: 33, with the stamps that it names, then 31, where a record of that kind has no size
unfoldable pub forward_fault : CaptureFault → Stamp → (kind size : ℕ) → Option CaptureFault
forward_fault advance stamp kind size = cond (eqb kind 1) (Some advance) (cond (eqb size 0) (Some (NoKind stamp kind)) None)

-- at a kind byte with an earlier stamp: 32 first
unfoldable pub later_fault : (earlier stamp : Stamp) → (kind size : ℕ) → Option CaptureFault
later_fault earlier stamp kind size =
    cond (went_back (difference earlier stamp)) (Some (WentBack earlier stamp)) (forward_fault (AdvanceKind earlier stamp) stamp kind size)

unfoldable pub kind_fault : Earlier → Stamp → (kind size : ℕ) → Option CaptureFault
kind_fault None stamp kind size = forward_fault (AdvanceFirst stamp) stamp kind size
kind_fault (Some e) stamp kind size = later_fault e stamp kind size

-- at the end of the file: so many bytes of a record are in hand, or else so many of a stamp
unfoldable pub end_fault : Stamp → (stamped kind count size : ℕ) → Option CaptureFault
end_fault stamp stamped kind count size =
    cond (ltb 0 count) (Some (RecordCut stamp kind count size))
    (cond (eqb stamped 0) None (cond (ltb stamped 4) (Some (StampCut stamped)) (Some (NoRecord stamp))))

-- how many bytes before the next one its own byte is: the stamp's first, or the record's kind
unfoldable pub in_hand : Option CaptureFault → ℕ
in_hand None = 0
in_hand (Some (WentBack earlier stamp)) = 4
in_hand (Some (AdvanceFirst stamp)) = 0
in_hand (Some (AdvanceKind earlier stamp)) = 0
in_hand (Some (NoKind stamp kind)) = 0
in_hand (Some (StampCut count)) = count
in_hand (Some (NoRecord stamp)) = 4
in_hand (Some (RecordCut stamp kind count size)) = count

unfoldable pub fault_byte : (next : ℕ) → Option CaptureFault → ℕ
fault_byte next fault = next - in_hand fault

-- ---- What is wrong, and what was expected
-- how far a stamp goes back from the earlier one, and forward
unfoldable pub apart_text : (earlier stamp : Stamp) → List ℕ
apart_text earlier stamp = span_text (difference stamp earlier) ++ named (chars " back or ") (difference earlier stamp).0 ++ chars " ticks forward"

-- both stamps, and how far they are apart
unfoldable pub went_back_text : (earlier stamp : Stamp) → List ℕ
went_back_text earlier stamp =
    chars "32: the recorder went back: "
    ++ stamp_text earlier
    ++ chars ", then "
    ++ stamp_text stamp
    ++ chars ", which is "
    ++ apart_text earlier stamp
    ++ chars ": expected less than 2147483648 ticks (8589934592 ns) forward"

unfoldable pub advance_first_text : Stamp → List ℕ
advance_first_text stamp =
    chars "33: kind 01h (advance) after " ++ stamp_text stamp ++ chars ", the first: an advance comes from the stamps alone; expected 02h to 0Dh"

-- both stamps, and the time between them
unfoldable pub advance_kind_text : (earlier stamp : Stamp) → List ℕ
advance_kind_text earlier stamp =
    chars "33: kind 01h (advance) after "
    ++ stamp_text stamp
    ++ chars ", "
    ++ span_text (difference earlier stamp)
    ++ chars " after "
    ++ stamp_text earlier
    ++ chars ": an advance comes from the stamps alone; expected 02h to 0Dh"

unfoldable pub no_kind_text : Stamp → (kind : ℕ) → List ℕ
no_kind_text stamp kind = chars "31: " ++ hex_of 2 kind ++ chars "h after " ++ stamp_text stamp ++ chars " is no kind: expected 02h to 0Dh"

unfoldable pub stamp_cut_text : (count : ℕ) → List ℕ
stamp_cut_text count = named (chars "the stamp is cut off: expected 4 bytes, and there are ") count

unfoldable pub no_record_text : Stamp → List ℕ
no_record_text stamp = stamp_text stamp ++ chars " is without its record: expected a kind, 02h to 0Dh"

unfoldable pub record_cut_text : Stamp → (kind count size : ℕ) → List ℕ
record_cut_text stamp kind count size =
    chars "the record of kind "
    ++ hex_of 2 kind
    ++ chars "h after "
    ++ stamp_text stamp
    ++ named (chars " is cut off: expected ") size
    ++ named (chars " bytes, and there are ") count

unfoldable pub fault_text : Option CaptureFault → List ℕ
fault_text None = []
fault_text (Some (WentBack earlier stamp)) = went_back_text earlier stamp
fault_text (Some (AdvanceFirst stamp)) = advance_first_text stamp
fault_text (Some (AdvanceKind earlier stamp)) = advance_kind_text earlier stamp
fault_text (Some (NoKind stamp kind)) = no_kind_text stamp kind
fault_text (Some (StampCut count)) = stamp_cut_text count
fault_text (Some (NoRecord stamp)) = no_record_text stamp
fault_text (Some (RecordCut stamp kind count size)) = record_cut_text stamp kind count size

-- at its byte of the file
unfoldable pub fault_message : ℕ → Option CaptureFault → List ℕ
fault_message offset fault = named (chars "byte ") offset ++ chars ": " ++ fault_text fault

-- ---- As a line among those of the entries
unfoldable pub went_back_line : ℕ → (earlier stamp : Stamp) → List ℕ
went_back_line offset earlier stamp = place_text offset stamp ++ chars "the recorder went back, after " ++ stamp_text earlier ++ chars ": the capture ends here"

unfoldable pub advance_kind_line : ℕ → Stamp → List ℕ
advance_kind_line offset stamp = place_text offset stamp ++ chars "kind 01h (advance): the capture ends here"

unfoldable pub no_kind_line : ℕ → Stamp → (kind : ℕ) → List ℕ
no_kind_line offset stamp kind =
    place_text offset stamp ++ chars "unknown kind " ++ hex_of 2 kind ++ chars "h (kinds are 02h to 0Dh): the capture is broken here"

unfoldable pub stamp_cut_line : ℕ → (count : ℕ) → List ℕ
stamp_cut_line offset count = column_of offset ++ named (chars "  incomplete stamp: the file has ") count ++ chars " of its 4 bytes"

unfoldable pub no_record_line : ℕ → Stamp → List ℕ
no_record_line offset stamp = place_text offset stamp ++ chars "a stamp without its record: the file ends here"

unfoldable pub record_cut_line : ℕ → Stamp → (kind count size : ℕ) → List ℕ
record_cut_line offset stamp kind count size =
    place_text offset stamp
    ++ chars "incomplete record of kind "
    ++ hex_of 2 kind
    ++ named (chars "h: the file has ") count
    ++ named (chars " of its ") size
    ++ chars " bytes"

unfoldable pub fault_line : ℕ → Option CaptureFault → List ℕ
fault_line offset None = []
fault_line offset (Some (WentBack earlier stamp)) = went_back_line offset earlier stamp
fault_line offset (Some (AdvanceFirst stamp)) = advance_kind_line offset stamp
fault_line offset (Some (AdvanceKind earlier stamp)) = advance_kind_line offset stamp
fault_line offset (Some (NoKind stamp kind)) = no_kind_line offset stamp kind
fault_line offset (Some (StampCut count)) = stamp_cut_line offset count
fault_line offset (Some (NoRecord stamp)) = no_record_line offset stamp
fault_line offset (Some (RecordCut stamp kind count size)) = record_cut_line offset stamp kind count size
