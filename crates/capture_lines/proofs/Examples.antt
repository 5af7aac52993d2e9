-- The lines of captures, as antt computes them.
use Prim.Native.Nat.{ℕ}
use mathlib.Core.Path.{◌≡◌, refl}
use mathlib.Core.List.{[], ◌∷◌}
use Rattle.bits.specs.Text.{chars}
use Rattle.times.specs.declared.Nanos.{Nanos}
use Rattle.ticks.specs.declared.Stamp.{Stamp}
use Rattle.ticks.specs.declared.Ticks.{Ticks}
use Rattle.ticks.specs.Ticks.{difference, went_back, in_nanos}
use Rattle.capture.specs.Advances.{advances}
use Rattle.records.specs.declared.Record.TheVariants.{LinkUp}
use Rattle.text_line.specs.Text.{glyph_of, hex_of, decimal_from, text_if, short_margin, margin_of, column_of}
use Rattle.describe_records.specs.Records.{listed_text, kind_of, record_text}
use Rattle.describe_trace.specs.Answers.{status_text, interrupts_text, count_text, data_of, reads_of, data_text, answer_text}
use Rattle.describe_trace.specs.Traces.{number_meaning, number_text}
use Rattle.std.specs.Prelude.{Some, None}
use Rattle.capture_lines.specs.declared.CaptureFault.TheVariants.{WentBack, AdvanceFirst, AdvanceKind, NoKind, StampCut, NoRecord, RecordCut}
use Rattle.capture_lines.specs.Stamps.{ten_of, stamp_column, stamp_text, clock_column, difference_text, span_text, advance_count, advance_at, part_text, advance_text}
use Rattle.capture_lines.specs.Captures.{place_text, replayed_text, advanced_text, in_hand_text, replay_end_text, since_text, entry_text, capture_totals_text}
use Rattle.capture_lines.specs.Faults.{forward_fault, later_fault, kind_fault, end_fault, in_hand, fault_byte, apart_text, went_back_text, advance_first_text, advance_kind_text, no_kind_text, stamp_cut_text, no_record_text, record_cut_text, fault_text, fault_message, went_back_line, advance_kind_line, no_kind_line, stamp_cut_line, no_record_line, record_cut_line, fault_line}

abbrev stamp : ℕ → Stamp
stamp n = record { 0 = n }

abbrev ticks : ℕ → Ticks
ticks n = record { 0 = n }

abbrev ns : ℕ → Nanos
ns n = record { 0 = n }

-- ---- advances
one_advance : advance_text (ticks 100) 0 ≡ chars "advance 400 ns (100 ticks)"
unfolding advance_text advance_at advance_count part_text advances difference in_nanos text_if decimal_from glyph_of
one_advance = refl

-- the greatest whole difference of one advance, and one tick more
longest-advance : advance_text (ticks 1073741823) 0 ≡ chars "advance 4294967292 ns (1073741823 ticks)"
unfolding advance_text advance_at advance_count part_text advances difference in_nanos text_if decimal_from glyph_of
longest-advance = refl

first_part : advance_text (ticks 1073741824) 0 ≡ chars "advance 4294967295 ns (first part of 1073741824 ticks)"
unfolding advance_text advance_at advance_count part_text advances difference in_nanos text_if decimal_from glyph_of
first_part = refl

the_rest : advance_text (ticks 1073741824) 1 ≡ chars "advance 1 ns (rest of 1073741824 ticks)"
unfolding advance_text advance_at advance_count part_text advances difference in_nanos text_if decimal_from glyph_of
the_rest = refl

-- ---- replayed
link_up : replayed_text 4 (stamp 100) (ns 0) LinkUp (0 ∷ 0 ∷ 0 ∷ 0 ∷ 0 ∷ 0 ∷ 0 ∷ 0 ∷ []) ≡ chars "       4         100 ticks           0 ns  link up -> 0 done"
unfolding replayed_text record_text ten_of stamp_column clock_column place_text text_if column_of margin_of short_margin decimal_from glyph_of answer_text kind_of status_text interrupts_text count_text data_of reads_of data_text listed_text hex_of
link_up = refl

-- 200 ticks, over the wrap of the tick count
wrapped : advanced_text 5 (stamp 4294967196) (stamp 100) 0 (ns 800) (0 ∷ 1 ∷ 1 ∷ 0 ∷ 0 ∷ 0 ∷ 0 ∷ 0 ∷ []) ≡ chars "       5         100 ticks         800 ns  advance 800 ns (200 ticks) -> 0 done; interrupts Received; FRS queued 1"
unfolding advanced_text advance_text advance_at advance_count part_text advances difference in_nanos ten_of stamp_column clock_column place_text text_if column_of margin_of short_margin decimal_from glyph_of answer_text kind_of status_text interrupts_text count_text data_of reads_of data_text listed_text hex_of
wrapped = refl

end : replay_end_text 0 120 9 4 0 0 ≡ chars "number 0 (everything fed), bytes consumed 120, records 9, advances 4"
unfolding replay_end_text in_hand_text number_text number_meaning decimal_from glyph_of
end = refl

end_went_back : replay_end_text 32 124 9 4 0 4 ≡ chars "number 32 (the recorder went back), bytes consumed 124, records 9, advances 4, the last stamp is without its record"
unfolding replay_end_text in_hand_text number_text number_meaning decimal_from glyph_of
end_went_back = refl

end_in_stamp : replay_end_text 0 122 9 4 0 2 ≡ chars "number 0 (everything fed), bytes consumed 122, records 9, advances 4, the last stamp has 2 of 4 bytes"
unfolding replay_end_text in_hand_text number_text number_meaning decimal_from glyph_of
end_in_stamp = refl

end_in_record : replay_end_text 0 126 9 4 2 0 ≡ chars "number 0 (everything fed), bytes consumed 126, records 9, advances 4, the last record is incomplete"
unfolding replay_end_text in_hand_text number_text number_meaning decimal_from glyph_of
end_in_record = refl

-- ---- shown
first_entry : entry_text 4 None (stamp 4294967196) LinkUp ≡ chars "       4  4294967196 ticks  the first stamp                    link up"
unfolding entry_text since_text record_text ten_of stamp_column clock_column place_text text_if column_of margin_of short_margin decimal_from glyph_of
first_entry = refl

later_entry : entry_text 9 (Some (stamp 4294967196)) (stamp 100) LinkUp ≡ chars "       9         100 ticks  +       200 ticks =        800 ns  link up"
unfolding entry_text since_text difference_text difference in_nanos record_text ten_of stamp_column clock_column place_text text_if column_of margin_of short_margin decimal_from glyph_of
later_entry = refl

totals : capture_totals_text 2 10 800 ≡ chars "entries 2, bytes 10, differences 800 ns in all"
unfolding capture_totals_text decimal_from glyph_of
totals = refl

-- ---- what ends a capture early
-- a kind 01 after a stamp that goes back is 32, and after one that goes forward 33
back-first : kind_fault (Some (stamp 1000)) (stamp 5) 1 5 ≡ Some (WentBack (stamp 1000) (stamp 5))
unfolding kind_fault later_fault went_back difference
back-first = refl

advance-next : kind_fault (Some (stamp 1000)) (stamp 1005) 1 5 ≡ Some (AdvanceKind (stamp 1000) (stamp 1005))
unfolding kind_fault later_fault forward_fault went_back difference
advance-next = refl

advance_at_first : kind_fault None (stamp 1005) 1 5 ≡ Some (AdvanceFirst (stamp 1005))
unfolding kind_fault forward_fault
advance_at_first = refl

-- 2^31 ticks are back, one less is forward
just_back : kind_fault (Some (stamp 0)) (stamp 2147483648) 5 1 ≡ Some (WentBack (stamp 0) (stamp 2147483648))
unfolding kind_fault later_fault went_back difference
just_back = refl

just_forward : kind_fault (Some (stamp 0)) (stamp 2147483647) 5 1 ≡ None
unfolding kind_fault later_fault forward_fault went_back difference
just_forward = refl

-- the first stamp never goes back
first_forward : kind_fault None (stamp 4294967295) 0x0E 0 ≡ Some (NoKind (stamp 4294967295) 0x0E)
unfolding kind_fault forward_fault
first_forward = refl

ends-whole : end_fault (stamp 0) 0 0 0 0 ≡ None
unfolding end_fault
ends-whole = refl

ends_in_stamp : end_fault (stamp 1000) 3 0 0 0 ≡ Some (StampCut 3)
unfolding end_fault
ends_in_stamp = refl

ends_after_stamp : end_fault (stamp 1000) 4 0 0 0 ≡ Some (NoRecord (stamp 1000))
unfolding end_fault
ends_after_stamp = refl

ends_in_record : end_fault (stamp 1000) 0 0x03 6 8 ≡ Some (RecordCut (stamp 1000) 0x03 6 8)
unfolding end_fault
ends_in_record = refl

-- the byte that is named, with 124 consumed
back_byte : fault_byte 124 (Some (WentBack (stamp 1000) (stamp 5))) ≡ 120
unfolding fault_byte in_hand
back_byte = refl

advance_byte : fault_byte 124 (Some (AdvanceKind (stamp 1000) (stamp 1005))) ≡ 124
unfolding fault_byte in_hand
advance_byte = refl

cut_byte : fault_byte 124 (Some (RecordCut (stamp 1000) 0x03 6 8)) ≡ 118
unfolding fault_byte in_hand
cut_byte = refl

went_back_lem : fault_message 120 (Some (WentBack (stamp 1000) (stamp 5))) ≡ chars "byte 120: 32: the recorder went back: stamp 1000 ticks, then stamp 5 ticks, which is 995 ticks (3980 ns) back or 4294966301 ticks forward: expected less than 2147483648 ticks (8589934592 ns) forward"
unfolding went_back_text apart_text span_text difference in_nanos fault_message fault_text stamp_text decimal_from hex_of glyph_of
went_back_lem = refl

advance-first : fault_message 4 (Some (AdvanceFirst (stamp 1000))) ≡ chars "byte 4: 33: kind 01h (advance) after stamp 1000 ticks, the first: an advance comes from the stamps alone; expected 02h to 0Dh"
unfolding advance_first_text fault_message fault_text stamp_text decimal_from hex_of glyph_of
advance-first = refl

advance_kind : fault_message 124 (Some (AdvanceKind (stamp 1000) (stamp 1005))) ≡ chars "byte 124: 33: kind 01h (advance) after stamp 1005 ticks, 5 ticks (20 ns) after stamp 1000 ticks: an advance comes from the stamps alone; expected 02h to 0Dh"
unfolding advance_kind_text span_text difference in_nanos fault_message fault_text stamp_text decimal_from hex_of glyph_of
advance_kind = refl

no_kind : fault_message 124 (Some (NoKind (stamp 1000) 0x0E)) ≡ chars "byte 124: 31: 0Eh after stamp 1000 ticks is no kind: expected 02h to 0Dh"
unfolding no_kind_text fault_message fault_text stamp_text decimal_from hex_of glyph_of
no_kind = refl

stamp_cut : fault_message 120 (Some (StampCut 2)) ≡ chars "byte 120: the stamp is cut off: expected 4 bytes, and there are 2"
unfolding stamp_cut_text fault_message fault_text stamp_text decimal_from hex_of glyph_of
stamp_cut = refl

no_record : fault_message 120 (Some (NoRecord (stamp 1000))) ≡ chars "byte 120: stamp 1000 ticks is without its record: expected a kind, 02h to 0Dh"
unfolding no_record_text fault_message fault_text stamp_text decimal_from hex_of glyph_of
no_record = refl

record_cut : fault_message 124 (Some (RecordCut (stamp 1000) 0x03 6 8)) ≡ chars "byte 124: the record of kind 03h after stamp 1000 ticks is cut off: expected 8 bytes, and there are 6"
unfolding record_cut_text fault_message fault_text stamp_text decimal_from hex_of glyph_of
record_cut = refl

went_back_line_lem : fault_line 120 (Some (WentBack (stamp 1000) (stamp 5))) ≡ chars "     120           5 ticks  the recorder went back, after stamp 1000 ticks: the capture ends here"
unfolding went_back_line fault_line stamp_text ten_of stamp_column clock_column place_text text_if column_of margin_of short_margin decimal_from glyph_of hex_of
went_back_line_lem = refl

advance_kind_line_lem : fault_line 124 (Some (AdvanceKind (stamp 995) (stamp 1000))) ≡ chars "     124        1000 ticks  kind 01h (advance): the capture ends here"
unfolding advance_kind_line fault_line stamp_text ten_of stamp_column clock_column place_text text_if column_of margin_of short_margin decimal_from glyph_of hex_of
advance_kind_line_lem = refl

no_kind_line_lem : fault_line 124 (Some (NoKind (stamp 1000) 0x0E)) ≡ chars "     124        1000 ticks  unknown kind 0Eh (kinds are 02h to 0Dh): the capture is broken here"
unfolding no_kind_line fault_line stamp_text ten_of stamp_column clock_column place_text text_if column_of margin_of short_margin decimal_from glyph_of hex_of
no_kind_line_lem = refl

stamp_cut_line_lem : fault_line 120 (Some (StampCut 2)) ≡ chars "     120  incomplete stamp: the file has 2 of its 4 bytes"
unfolding stamp_cut_line fault_line stamp_text ten_of stamp_column clock_column place_text text_if column_of margin_of short_margin decimal_from glyph_of hex_of
stamp_cut_line_lem = refl

no_record_line_lem : fault_line 120 (Some (NoRecord (stamp 1000))) ≡ chars "     120        1000 ticks  a stamp without its record: the file ends here"
unfolding no_record_line fault_line stamp_text ten_of stamp_column clock_column place_text text_if column_of margin_of short_margin decimal_from glyph_of hex_of
no_record_line_lem = refl

record_cut_line_lem : fault_line 124 (Some (RecordCut (stamp 1000) 0x03 6 8)) ≡ chars "     124        1000 ticks  incomplete record of kind 03h: the file has 6 of its 8 bytes"
unfolding record_cut_line fault_line stamp_text ten_of stamp_column clock_column place_text text_if column_of margin_of short_margin decimal_from glyph_of hex_of
record_cut_line_lem = refl
