-- Whole outputs for a card of two slots, as antt computes them.
use mathlib.Core.Path.{◌≡◌, refl}
use mathlib.Core.Bool.{true}
use mathlib.Core.List.{List, [], ◌∷◌}
use Prim.Native.Nat.{ℕ}
use lib.ListN.{replicate}
use Rattle.bits.specs.Text.{chars}
use Rattle.times.specs.declared.Unit.{Unit}
use Rattle.times.specs.declared.Unit.TheVariants.{Ns, Us, Ms}
use Rattle.times.specs.declared.ClaimedTime.{ClaimedTime}
use Rattle.readiness.specs.declared.Slot.{Slot}
use Rattle.readiness.specs.declared.Setup.{Setup}
use Rattle.readiness.specs.Blank.{blank_slot}
use Rattle.times.specs.Codes.{power_of, nanos_of}
use Rattle.times.specs.Claims.{nanos_in, claimed_nanos}
use Rattle.times.specs.Encoder.{rounded_up, fits_at, code_of, first_from, encoded, next_lower, starts_scale}
use Rattle.text_fields.specs.Text.{digit_of}
use Rattle.text_line.specs.Text.{glyph_of, hex_of, decimal_from, three_of, six_of, grouped_from, text_if}
use Rattle.describe_times.specs.Times.{unit_text, claim_text, nanos_text, thousandths_text, best_text, time_text, millionths_text, in_unit_text}
use Rattle.describe_sheet.specs.Parts.{time_name, slot_time_text, code_text, is_ns, not_ns_text, same_in_nanos_text, rounded_text, rounding_text}
use Rattle.describe_sheet.specs.Facts.{slots_fact, queue_fact, bus_fact, port_fact, slot_fact, word_fact}
use Rattle.describe_sheet.specs.Comments.{claimed_comment, code_comment, time_comment, unnamed_comment}
use Rattle.describe_sheet.specs.CodeWords.{claimed_text, same_in_unit_text, coded_text, given_text, lower_text, no_lower_text, too_long_text}
use Rattle.describe_sheet.specs.Refusals.{column_at, slots_below, field_name, layout_text, no_slot_text, named_text, one_too_long_text, first_too_long_text, reason_text, refusal_text}
use Rattle.describe_sheet.specs.Doubts.{both_text, doubt_text}
use Rattle.sheet_grammar.specs.Layout.{digits_from, number_fits, next_place, number_up_to, unit_bytes, unit_at, line_from, fault_in}
use Rattle.sheet_grammar.specs.Reading.{is_slot, is_too_long, has_too_long, refusal_of, with_times, with_line, lines_of, read_lines, sheet_of, line_naming, place_after}
use Rattle.sheet_grammar.specs.Doubts.{is_far, doubt_of}
use Rattle.sheet_text.specs.Cards.{front_text, times_text, comments_text, slot_text, slots_from, word_text, words_from, card_text}
use Rattle.sheet_text.specs.Doubts.{time_doubt, times_doubts, slot_doubts, doubts_from, doubts_text}
use Rattle.sheet_text.specs.Refused.{refusal_line, refused_text}
use Rattle.sheet_text.specs.CodeLines.{lower_line, lines_of_code, too_long_line, code_lines}

-- four codes, and FRS
abbrev slot : (reset dl_up flr d3hot : ℕ) → Slot
slot r l f d = record { reset = record { 0 = r }; dl_up = record { 0 = l }; flr = record { 0 = f }; d3hot = record { 0 = d }; sends_frs = true }

-- slot 0 has no times, and slot 1 an FLR time of 300 ns and a D3hot to D0 time of 5 ns
abbrev before : Setup
before = record { slots = 2; entries = slot 0 0 0 0 ∷ slot 0 0 0x12C 5 ∷ replicate 30 blank_slot; bus = 1; port_id = 8 }

-- the set-up after a sheet
abbrev after : (text : List ℕ) → Setup
after text = (sheet_of text before).setup

abbrev claim : ℕ → Unit → ClaimedTime
claim n unit = record { number = n; unit = unit }

-- a sheet that names slot 1
abbrev sheet : List ℕ
sheet = chars "1 0 1 300 0 us\n"

-- ---- the card

card : card_text (after sheet) 16 (0 ∷ 0x10000000 ∷ []) sheet ≡ chars "# The times of a sheet, on a card.\nslots 2\nqueue 16\nbus 01\nport 0008\n# slot 0: not on the sheet\nslot 0 reset 000 dlup 000 flr 000 d3hot 000 frs yes\n# slot 1 Reset: 0 us claimed = 0 ns; code 000h = 0 ns, exact\n# slot 1 DL Up: 1 us claimed = 1,000 ns; code 220h = 1,024 ns (1.024 us), rounded up by 24 ns\n# slot 1 FLR: 300 us claimed = 300,000 ns; code 525h = 300,032 ns (300.032 us), rounded up by 32 ns\n# slot 1 D3hot to D0: 0 us claimed = 0 ns; code 000h = 0 ns, exact\nslot 1 reset 000 dlup 220 flr 525 d3hot 000 frs yes\nword 0 04 10000000\n"
unfolding front_text times_text comments_text slot_text slots_from word_text words_from card_text slots_fact queue_fact bus_fact port_fact slot_fact word_fact claimed_comment code_comment time_comment unnamed_comment power_of nanos_of nanos_in claimed_nanos glyph_of hex_of decimal_from three_of six_of grouped_from text_if unit_text claim_text nanos_text thousandths_text best_text time_text millionths_text in_unit_text time_name slot_time_text code_text is_ns not_ns_text same_in_nanos_text rounded_text rounding_text rounded_up fits_at code_of first_from encoded next_lower starts_scale digit_of digits_from number_fits next_place number_up_to unit_bytes unit_at line_from fault_in is_slot is_too_long has_too_long refusal_of with_times with_line lines_of read_lines sheet_of line_naming place_after
card = refl

-- ---- doubts: one FLR time a thousand times the other, and one D3hot to D0 time 0; a DL Up time from 0 on is one too

doubts : doubts_text (chars "a.sheet") before (after sheet) sheet ≡ chars "a.sheet: slot 1 DL Up: 1 us is coded as 1,024 ns (1.024 us), the card had 0 ns\na.sheet: slot 1 FLR: 300 us is coded as 300,032 ns (300.032 us), the card had 300 ns: is the unit right?\na.sheet: slot 1 D3hot to D0: 0 us is coded as 0 ns, the card had 5 ns\n"
unfolding time_doubt times_doubts slot_doubts doubts_from doubts_text is_far doubt_of both_text doubt_text power_of nanos_of nanos_in claimed_nanos glyph_of hex_of decimal_from three_of six_of grouped_from text_if unit_text claim_text nanos_text thousandths_text best_text time_text millionths_text in_unit_text time_name slot_time_text code_text is_ns not_ns_text same_in_nanos_text rounded_text rounding_text rounded_up fits_at code_of first_from encoded next_lower starts_scale digit_of digits_from number_fits next_place number_up_to unit_bytes unit_at line_from fault_in is_slot is_too_long has_too_long refusal_of with_times with_line lines_of read_lines sheet_of line_naming place_after
doubts = refl

-- no question is left on the card that the sheet gave
no_doubts : doubts_text (chars "a.sheet") (after sheet) (after sheet) sheet ≡ []
unfolding time_doubt times_doubts slot_doubts doubts_from doubts_text is_far doubt_of both_text doubt_text power_of nanos_of nanos_in claimed_nanos glyph_of hex_of decimal_from three_of six_of grouped_from text_if unit_text claim_text nanos_text thousandths_text best_text time_text millionths_text in_unit_text time_name slot_time_text code_text is_ns not_ns_text same_in_nanos_text rounded_text rounding_text rounded_up fits_at code_of first_from encoded next_lower starts_scale digit_of digits_from number_fits next_place number_up_to unit_bytes unit_at line_from fault_in is_slot is_too_long has_too_long refusal_of with_times with_line lines_of read_lines sheet_of line_naming place_after
no_doubts = refl

-- ---- refusals

layout : refused_text (chars "a.sheet") before (chars "0 1 1 1 1 us\n1 1 1,5 1 1 us\n") ≡ chars "a.sheet: line 2: 40: column 6: expected a decimal number of 1 to 10 digits and one space, for the DL Up time\n"
unfolding refusal_line refused_text column_at slots_below field_name layout_text no_slot_text named_text one_too_long_text first_too_long_text reason_text refusal_text power_of nanos_of nanos_in claimed_nanos glyph_of hex_of decimal_from three_of six_of grouped_from text_if unit_text claim_text nanos_text thousandths_text best_text time_text millionths_text in_unit_text time_name slot_time_text code_text is_ns not_ns_text same_in_nanos_text rounded_text rounding_text rounded_up fits_at code_of first_from encoded next_lower starts_scale digit_of digits_from number_fits next_place number_up_to unit_bytes unit_at line_from fault_in is_slot is_too_long has_too_long refusal_of with_times with_line lines_of read_lines sheet_of line_naming place_after
layout = refl

no_slot : refused_text (chars "a.sheet") before (chars "0 1 1 1 1 us\n2 1 1 1 1 us\n") ≡ chars "a.sheet: line 2: 41: slot 2: expected a slot below 2\n"
unfolding refusal_line refused_text column_at slots_below field_name layout_text no_slot_text named_text one_too_long_text first_too_long_text reason_text refusal_text power_of nanos_of nanos_in claimed_nanos glyph_of hex_of decimal_from three_of six_of grouped_from text_if unit_text claim_text nanos_text thousandths_text best_text time_text millionths_text in_unit_text time_name slot_time_text code_text is_ns not_ns_text same_in_nanos_text rounded_text rounding_text rounded_up fits_at code_of first_from encoded next_lower starts_scale digit_of digits_from number_fits next_place number_up_to unit_bytes unit_at line_from fault_in is_slot is_too_long has_too_long refusal_of with_times with_line lines_of read_lines sheet_of line_naming place_after
no_slot = refl

too_long : refused_text (chars "a.sheet") before (chars "1 0 0 0 2000 ms\n") ≡ chars "a.sheet: line 1: 43: D3hot to D0 2000 ms is 2000000000 ns, above 1006632960 ns\n"
unfolding refusal_line refused_text column_at slots_below field_name layout_text no_slot_text named_text one_too_long_text first_too_long_text reason_text refusal_text claimed_text same_in_unit_text coded_text given_text lower_text no_lower_text too_long_text power_of nanos_of nanos_in claimed_nanos glyph_of hex_of decimal_from three_of six_of grouped_from text_if unit_text claim_text nanos_text thousandths_text best_text time_text millionths_text in_unit_text time_name slot_time_text code_text is_ns not_ns_text same_in_nanos_text rounded_text rounding_text rounded_up fits_at code_of first_from encoded next_lower starts_scale digit_of digits_from number_fits next_place number_up_to unit_bytes unit_at line_from fault_in is_slot is_too_long has_too_long refusal_of with_times with_line lines_of read_lines sheet_of line_naming place_after
too_long = refl

accepted : refused_text (chars "a.sheet") before sheet ≡ []
unfolding refusal_line refused_text column_at slots_below field_name layout_text no_slot_text named_text one_too_long_text first_too_long_text reason_text refusal_text power_of nanos_of nanos_in claimed_nanos glyph_of hex_of decimal_from three_of six_of grouped_from text_if unit_text claim_text nanos_text thousandths_text best_text time_text millionths_text in_unit_text time_name slot_time_text code_text is_ns not_ns_text same_in_nanos_text rounded_text rounding_text rounded_up fits_at code_of first_from encoded next_lower starts_scale digit_of digits_from number_fits next_place number_up_to unit_bytes unit_at line_from fault_in is_slot is_too_long has_too_long refusal_of with_times with_line lines_of read_lines sheet_of line_naming place_after
accepted = refl

-- ---- one time

microseconds : code_lines (claim 300 Us) ≡ chars "300 us = 300,000 ns\ncode 525h: 300,032 ns = 300.032 us, rounded up by 32 ns\nnext lower 524h: 299,008 ns = 299.008 us, 992 ns too short\n"
unfolding lower_line lines_of_code too_long_line claimed_text same_in_unit_text coded_text given_text lower_text no_lower_text too_long_text rounded_up fits_at code_of first_from encoded next_lower starts_scale power_of nanos_of nanos_in claimed_nanos glyph_of hex_of decimal_from three_of six_of grouped_from text_if unit_text claim_text nanos_text thousandths_text best_text time_text millionths_text in_unit_text time_name slot_time_text code_text is_ns not_ns_text same_in_nanos_text rounded_text rounding_text
microseconds = refl

zero : code_lines (claim 0 Ns) ≡ chars "0 ns\ncode 000h: 0 ns, exact\nno lower code: 0 ns is the least time\n"
unfolding lower_line lines_of_code too_long_line claimed_text same_in_unit_text coded_text given_text lower_text no_lower_text too_long_text rounded_up fits_at code_of first_from encoded next_lower starts_scale power_of nanos_of nanos_in claimed_nanos glyph_of hex_of decimal_from three_of six_of grouped_from text_if unit_text claim_text nanos_text thousandths_text best_text time_text millionths_text in_unit_text time_name slot_time_text code_text is_ns not_ns_text same_in_nanos_text rounded_text rounding_text
zero = refl

no_code : code_lines (claim 2000 Ms) ≡ []
unfolding lower_line lines_of_code too_long_line claimed_text same_in_unit_text coded_text given_text lower_text no_lower_text too_long_text rounded_up fits_at code_of first_from encoded next_lower starts_scale power_of nanos_of nanos_in claimed_nanos glyph_of hex_of decimal_from three_of six_of grouped_from text_if unit_text claim_text nanos_text thousandths_text best_text time_text millionths_text in_unit_text time_name slot_time_text code_text is_ns not_ns_text same_in_nanos_text rounded_text rounding_text
no_code = refl

above : too_long_line (claim 2000 Ms) ≡ chars "43: 2000 ms is 2000000000 ns, above 1006632960 ns\n"
unfolding lower_line lines_of_code too_long_line claimed_text same_in_unit_text coded_text given_text lower_text no_lower_text too_long_text power_of nanos_of nanos_in claimed_nanos glyph_of hex_of decimal_from three_of six_of grouped_from text_if unit_text claim_text nanos_text thousandths_text best_text time_text millionths_text in_unit_text time_name slot_time_text code_text is_ns not_ns_text same_in_nanos_text rounded_text rounding_text
above = refl
