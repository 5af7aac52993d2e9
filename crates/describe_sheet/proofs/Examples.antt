-- Lines of and about time sheets, as antt computes them.
use mathlib.Core.Path.{◌≡◌, refl}
use mathlib.Core.Bool.{true}
use mathlib.Core.List.{[]}
use Prim.Native.Nat.{ℕ}
use Rattle.std.specs.Prelude.{Some, None}
use Rattle.bits.specs.Text.{chars}
use Rattle.times.specs.declared.Code.{Code}
use Rattle.times.specs.declared.ClaimedTime.{ClaimedTime}
use Rattle.times.specs.declared.Unit.{Unit}
use Rattle.times.specs.declared.Unit.TheVariants.{Ns, Us, Ms}
use Rattle.times.specs.Codes.{power_of, nanos_of}
use Rattle.times.specs.Claims.{nanos_in, claimed_nanos}
use Rattle.sheet_grammar.specs.declared.SheetLine.{SheetLine}
use Rattle.sheet_grammar.specs.declared.Fault.{Fault}
use Rattle.sheet_grammar.specs.declared.Doubt.TheVariants.{AskUnit, OneIsZero}
use Rattle.sheet_grammar.specs.Reading.{is_too_long}
use Rattle.text_line.specs.Text.{glyph_of, hex_of, decimal_from, three_of, six_of, grouped_from}
use Rattle.describe_times.specs.Times.{unit_text, claim_text, nanos_text, thousandths_text, best_text, time_text, millionths_text, in_unit_text}
use Rattle.describe_sheet.specs.Parts.{time_name, slot_time_text, code_text, is_ns, not_ns_text, same_in_nanos_text, rounded_text, rounding_text}
use Rattle.describe_sheet.specs.Facts.{slots_fact, queue_fact, bus_fact, port_fact, slot_fact, word_fact}
use Rattle.describe_sheet.specs.Comments.{claimed_comment, code_comment, time_comment, unnamed_comment}
use Rattle.describe_sheet.specs.CodeWords.{claimed_text, same_in_unit_text, coded_text, given_text, lower_text, no_lower_text, too_long_text}
use Rattle.describe_sheet.specs.Refusals.{column_at, slots_below, field_name, layout_text, no_slot_text, named_text, one_too_long_text, first_too_long_text, reason_text, refusal_text}
use Rattle.describe_sheet.specs.Doubts.{both_text, doubt_text}

abbrev code : ℕ → Code
code n = record { 0 = n }

abbrev claim : ℕ → Unit → ClaimedTime
claim n unit = record { number = n; unit = unit }

-- slot 2, with a D3hot to D0 time of 2 s
abbrev line : (slot : ℕ) → SheetLine
line slot = record { slot = slot; reset = claim 5 Us; dl_up = claim 10 Us; flr = claim 300 Us; d3hot = claim 2000000 Us }

abbrev fault : (field place : ℕ) → Fault
fault field place = record { field = field; place = place }

-- ---- card facts

slots : slots_fact 2 ≡ chars "slots 2"
unfolding slots_fact queue_fact bus_fact port_fact slot_fact word_fact unit_text claim_text nanos_text thousandths_text best_text time_text millionths_text in_unit_text grouped_from decimal_from three_of six_of hex_of glyph_of nanos_of power_of claimed_nanos nanos_in time_name slot_time_text code_text is_ns not_ns_text same_in_nanos_text rounded_text rounding_text
slots = refl

queue : queue_fact 16 ≡ chars "queue 16"
unfolding slots_fact queue_fact bus_fact port_fact slot_fact word_fact unit_text claim_text nanos_text thousandths_text best_text time_text millionths_text in_unit_text grouped_from decimal_from three_of six_of hex_of glyph_of nanos_of power_of claimed_nanos nanos_in time_name slot_time_text code_text is_ns not_ns_text same_in_nanos_text rounded_text rounding_text
queue = refl

bus : bus_fact 1 ≡ chars "bus 01"
unfolding slots_fact queue_fact bus_fact port_fact slot_fact word_fact unit_text claim_text nanos_text thousandths_text best_text time_text millionths_text in_unit_text grouped_from decimal_from three_of six_of hex_of glyph_of nanos_of power_of claimed_nanos nanos_in time_name slot_time_text code_text is_ns not_ns_text same_in_nanos_text rounded_text rounding_text
bus = refl

port : port_fact 8 ≡ chars "port 0008"
unfolding slots_fact queue_fact bus_fact port_fact slot_fact word_fact unit_text claim_text nanos_text thousandths_text best_text time_text millionths_text in_unit_text grouped_from decimal_from three_of six_of hex_of glyph_of nanos_of power_of claimed_nanos nanos_in time_name slot_time_text code_text is_ns not_ns_text same_in_nanos_text rounded_text rounding_text
port = refl

slot : slot_fact 0 (record { reset = code 0; dl_up = code 10; flr = code 5; d3hot = code 0; sends_frs = true }) ≡ chars "slot 0 reset 000 dlup 00A flr 005 d3hot 000 frs yes"
unfolding slots_fact queue_fact bus_fact port_fact slot_fact word_fact unit_text claim_text nanos_text thousandths_text best_text time_text millionths_text in_unit_text grouped_from decimal_from three_of six_of hex_of glyph_of nanos_of power_of claimed_nanos nanos_in time_name slot_time_text code_text is_ns not_ns_text same_in_nanos_text rounded_text rounding_text
slot = refl

word : word_fact 29 0x10000000 ≡ chars "word 0 74 10000000"
unfolding slots_fact queue_fact bus_fact port_fact slot_fact word_fact unit_text claim_text nanos_text thousandths_text best_text time_text millionths_text in_unit_text grouped_from decimal_from three_of six_of hex_of glyph_of nanos_of power_of claimed_nanos nanos_in time_name slot_time_text code_text is_ns not_ns_text same_in_nanos_text rounded_text rounding_text
word = refl

-- ---- comments

rounded : time_comment 0 2 (claim 300 Us) (code 0x525) ≡ chars "# slot 0 FLR: 300 us claimed = 300,000 ns; code 525h = 300,032 ns (300.032 us), rounded up by 32 ns"
unfolding time_comment claimed_comment code_comment unnamed_comment unit_text claim_text nanos_text thousandths_text best_text time_text millionths_text in_unit_text grouped_from decimal_from three_of six_of hex_of glyph_of nanos_of power_of claimed_nanos nanos_in time_name slot_time_text code_text is_ns not_ns_text same_in_nanos_text rounded_text rounding_text
rounded = refl

exact : time_comment 0 2 (claim 300 Ns) (code 0x12C) ≡ chars "# slot 0 FLR: 300 ns claimed; code 12Ch = 300 ns, exact"
unfolding time_comment claimed_comment code_comment unnamed_comment unit_text claim_text nanos_text thousandths_text best_text time_text millionths_text in_unit_text grouped_from decimal_from three_of six_of hex_of glyph_of nanos_of power_of claimed_nanos nanos_in time_name slot_time_text code_text is_ns not_ns_text same_in_nanos_text rounded_text rounding_text
exact = refl

-- not a code that is given for 300 ns
below : time_comment 0 0 (claim 300 Ns) (code 0x12B) ≡ chars "# slot 0 Reset: 300 ns claimed; code 12Bh = 299 ns, rounded up by 0 ns"
unfolding time_comment claimed_comment code_comment unnamed_comment unit_text claim_text nanos_text thousandths_text best_text time_text millionths_text in_unit_text grouped_from decimal_from three_of six_of hex_of glyph_of nanos_of power_of claimed_nanos nanos_in time_name slot_time_text code_text is_ns not_ns_text same_in_nanos_text rounded_text rounding_text
below = refl

unnamed : unnamed_comment 3 ≡ chars "# slot 3: not on the sheet"
unfolding time_comment claimed_comment code_comment unnamed_comment unit_text claim_text nanos_text thousandths_text best_text time_text millionths_text in_unit_text grouped_from decimal_from three_of six_of hex_of glyph_of nanos_of power_of claimed_nanos nanos_in time_name slot_time_text code_text is_ns not_ns_text same_in_nanos_text rounded_text rounding_text
unnamed = refl

-- ---- the code of a claim

claimed : claimed_text (claim 300 Us) ≡ chars "300 us = 300,000 ns"
unfolding claimed_text same_in_unit_text coded_text given_text lower_text no_lower_text too_long_text unit_text claim_text nanos_text thousandths_text best_text time_text millionths_text in_unit_text grouped_from decimal_from three_of six_of hex_of glyph_of nanos_of power_of claimed_nanos nanos_in time_name slot_time_text code_text is_ns not_ns_text same_in_nanos_text rounded_text rounding_text
claimed = refl

claimed_ns : claimed_text (claim 300 Ns) ≡ chars "300 ns"
unfolding claimed_text same_in_unit_text coded_text given_text lower_text no_lower_text too_long_text unit_text claim_text nanos_text thousandths_text best_text time_text millionths_text in_unit_text grouped_from decimal_from three_of six_of hex_of glyph_of nanos_of power_of claimed_nanos nanos_in time_name slot_time_text code_text is_ns not_ns_text same_in_nanos_text rounded_text rounding_text
claimed_ns = refl

given : given_text (claim 300 Us) (code 0x525) ≡ chars "code 525h: 300,032 ns = 300.032 us, rounded up by 32 ns"
unfolding claimed_text same_in_unit_text coded_text given_text lower_text no_lower_text too_long_text unit_text claim_text nanos_text thousandths_text best_text time_text millionths_text in_unit_text grouped_from decimal_from three_of six_of hex_of glyph_of nanos_of power_of claimed_nanos nanos_in time_name slot_time_text code_text is_ns not_ns_text same_in_nanos_text rounded_text rounding_text
given = refl

given_ns : given_text (claim 300 Ns) (code 0x12C) ≡ chars "code 12Ch: 300 ns, exact"
unfolding claimed_text same_in_unit_text coded_text given_text lower_text no_lower_text too_long_text unit_text claim_text nanos_text thousandths_text best_text time_text millionths_text in_unit_text grouped_from decimal_from three_of six_of hex_of glyph_of nanos_of power_of claimed_nanos nanos_in time_name slot_time_text code_text is_ns not_ns_text same_in_nanos_text rounded_text rounding_text
given_ns = refl

lower : lower_text (claim 300 Us) (code 0x524) ≡ chars "next lower 524h: 299,008 ns = 299.008 us, 992 ns too short"
unfolding claimed_text same_in_unit_text coded_text given_text lower_text no_lower_text too_long_text unit_text claim_text nanos_text thousandths_text best_text time_text millionths_text in_unit_text grouped_from decimal_from three_of six_of hex_of glyph_of nanos_of power_of claimed_nanos nanos_in time_name slot_time_text code_text is_ns not_ns_text same_in_nanos_text rounded_text rounding_text
lower = refl

no_lower : no_lower_text ≡ chars "no lower code: 0 ns is the least time"
unfolding claimed_text same_in_unit_text coded_text given_text lower_text no_lower_text too_long_text unit_text claim_text nanos_text thousandths_text best_text time_text millionths_text in_unit_text grouped_from decimal_from three_of six_of hex_of glyph_of nanos_of power_of claimed_nanos nanos_in time_name slot_time_text code_text is_ns not_ns_text same_in_nanos_text rounded_text rounding_text
no_lower = refl

too_long : too_long_text (claim 2000 Ms) ≡ chars "2000 ms is 2000000000 ns, above 1006632960 ns"
unfolding claimed_text same_in_unit_text coded_text given_text lower_text no_lower_text too_long_text unit_text claim_text nanos_text thousandths_text best_text time_text millionths_text in_unit_text grouped_from decimal_from three_of six_of hex_of glyph_of nanos_of power_of claimed_nanos nanos_in time_name slot_time_text code_text is_ns not_ns_text same_in_nanos_text rounded_text rounding_text
too_long = refl

-- ---- refusals

layout : refusal_text 40 3 2 (line 2) (fault 4 6) ≡ chars "line 3: 40: column 7: expected a decimal number of 1 to 10 digits and one space, for the D3hot to D0 time"
unfolding refusal_text reason_text layout_text field_name column_at no_slot_text slots_below named_text first_too_long_text one_too_long_text is_too_long too_long_text unit_text claim_text nanos_text thousandths_text best_text time_text millionths_text in_unit_text grouped_from decimal_from three_of six_of hex_of glyph_of nanos_of power_of claimed_nanos nanos_in time_name slot_time_text code_text is_ns not_ns_text same_in_nanos_text rounded_text rounding_text
layout = refl

slot_layout : refusal_text 40 1 2 (line 2) (fault 0 0) ≡ chars "line 1: 40: column 1: expected a decimal number of 1 to 10 digits and one space, for the slot"
unfolding refusal_text reason_text layout_text field_name column_at no_slot_text slots_below named_text first_too_long_text one_too_long_text is_too_long too_long_text unit_text claim_text nanos_text thousandths_text best_text time_text millionths_text in_unit_text grouped_from decimal_from three_of six_of hex_of glyph_of nanos_of power_of claimed_nanos nanos_in time_name slot_time_text code_text is_ns not_ns_text same_in_nanos_text rounded_text rounding_text
slot_layout = refl

unit_layout : refusal_text 40 3 2 (line 2) (fault 5 16) ≡ chars "line 3: 40: column 17: expected ns, us or ms, and the end of the line (0Ah) after it"
unfolding refusal_text reason_text layout_text field_name column_at no_slot_text slots_below named_text first_too_long_text one_too_long_text is_too_long too_long_text unit_text claim_text nanos_text thousandths_text best_text time_text millionths_text in_unit_text grouped_from decimal_from three_of six_of hex_of glyph_of nanos_of power_of claimed_nanos nanos_in time_name slot_time_text code_text is_ns not_ns_text same_in_nanos_text rounded_text rounding_text
unit_layout = refl

no_slot : refusal_text 41 3 8 (line 9) (fault 0 0) ≡ chars "line 3: 41: slot 9: expected a slot below 8"
unfolding refusal_text reason_text layout_text field_name column_at no_slot_text slots_below named_text first_too_long_text one_too_long_text is_too_long too_long_text unit_text claim_text nanos_text thousandths_text best_text time_text millionths_text in_unit_text grouped_from decimal_from three_of six_of hex_of glyph_of nanos_of power_of claimed_nanos nanos_in time_name slot_time_text code_text is_ns not_ns_text same_in_nanos_text rounded_text rounding_text
no_slot = refl

named-before : refusal_text 42 3 8 (line 2) (fault 0 0) ≡ chars "line 3: 42: slot 2: named on an earlier line, expected each slot once"
unfolding refusal_text reason_text layout_text field_name column_at no_slot_text slots_below named_text first_too_long_text one_too_long_text is_too_long too_long_text unit_text claim_text nanos_text thousandths_text best_text time_text millionths_text in_unit_text grouped_from decimal_from three_of six_of hex_of glyph_of nanos_of power_of claimed_nanos nanos_in time_name slot_time_text code_text is_ns not_ns_text same_in_nanos_text rounded_text rounding_text
named-before = refl

too_long_time : refusal_text 43 3 8 (line 2) (fault 0 0) ≡ chars "line 3: 43: D3hot to D0 2000000 us is 2000000000 ns, above 1006632960 ns"
unfolding refusal_text reason_text layout_text field_name column_at no_slot_text slots_below named_text first_too_long_text one_too_long_text is_too_long too_long_text unit_text claim_text nanos_text thousandths_text best_text time_text millionths_text in_unit_text grouped_from decimal_from three_of six_of hex_of glyph_of nanos_of power_of claimed_nanos nanos_in time_name slot_time_text code_text is_ns not_ns_text same_in_nanos_text rounded_text rounding_text
too_long_time = refl

-- ---- doubts

ask_unit : doubt_text 2 2 (claim 300 Us) (code 0x12C) (code 0x525) (Some AskUnit) ≡ chars "slot 2 FLR: 300 us is coded as 300,032 ns (300.032 us), the card had 300 ns: is the unit right?"
unfolding doubt_text both_text unit_text claim_text nanos_text thousandths_text best_text time_text millionths_text in_unit_text grouped_from decimal_from three_of six_of hex_of glyph_of nanos_of power_of claimed_nanos nanos_in time_name slot_time_text code_text is_ns not_ns_text same_in_nanos_text rounded_text rounding_text
ask_unit = refl

one_is_zero : doubt_text 2 2 (claim 300 Us) (code 0) (code 0x525) (Some OneIsZero) ≡ chars "slot 2 FLR: 300 us is coded as 300,032 ns (300.032 us), the card had 0 ns"
unfolding doubt_text both_text unit_text claim_text nanos_text thousandths_text best_text time_text millionths_text in_unit_text grouped_from decimal_from three_of six_of hex_of glyph_of nanos_of power_of claimed_nanos nanos_in time_name slot_time_text code_text is_ns not_ns_text same_in_nanos_text rounded_text rounding_text
one_is_zero = refl

no_doubt : doubt_text 2 2 (claim 300 Us) (code 0x525) (code 0x525) None ≡ []
unfolding doubt_text
no_doubt = refl
