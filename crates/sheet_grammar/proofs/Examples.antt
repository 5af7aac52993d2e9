-- Worked examples of a sheet, which antt computes.
use mathlib.Core.Path.{◌≡◌, refl}
use mathlib.Core.Bool.{true}
use mathlib.Core.List.{[], ◌∷◌}
use Prim.Native.Nat.{ℕ}
use lib.ListN.{replicate}
use Rattle.bits.specs.Text.{chars}
use Rattle.times.specs.declared.Code.{Code}
use Rattle.times.specs.declared.Unit.TheVariants.{Us}
use Rattle.times.specs.Codes.{power_of, nanos_of}
use Rattle.times.specs.Claims.{nanos_in, claimed_nanos}
use Rattle.times.specs.Encoder.{rounded_up, fits_at, code_of, first_from, encoded}
use Rattle.readiness.specs.declared.Slot.{Slot}
use Rattle.readiness.specs.declared.Setup.{Setup}
use Rattle.readiness.specs.Blank.{blank_slot}
use Rattle.text_fields.specs.Text.{digit_of}
use Rattle.std.specs.Prelude.{Some, None}
use Rattle.sheet_grammar.specs.declared.Doubt.TheVariants.{AskUnit, OneIsZero}
use Rattle.sheet_grammar.specs.Layout.{digits_from, number_fits, next_place, number_up_to, unit_bytes, unit_at, claim, line_from, fault_in}
use Rattle.sheet_grammar.specs.Reading.{is_slot, is_too_long, has_too_long, refusal_of, with_times, with_line, lines_of, gives, read_lines, sheet_of, line_naming, place_after}
use Rattle.sheet_grammar.specs.Doubts.{is_far, doubt_of}

abbrev code : ℕ → Code
code n = record { 0 = n }

-- four codes, and FRS
abbrev slot : (reset dl_up flr d3hot : ℕ) → Slot
slot r l f d = record { reset = record { 0 = r }; dl_up = record { 0 = l }; flr = record { 0 = f }; d3hot = record { 0 = d }; sends_frs = true }

-- a card of two slots
abbrev card : (first second : Slot) → Setup
card first second = record { slots = 2; entries = first ∷ second ∷ replicate 30 blank_slot; bus = 1; port_id = 8 }

abbrev before : Setup
before = card (slot 1 2 3 4) (slot 5 6 7 8)

-- 511 ns, 512 ns, 16,352 ns and 16,353 ns; 1 us is no code's time, and 1,024 ns is the least above it
two_lines : sheet_of (chars "1 511 512 16352 16353 ns\n0 1 1 1 1 us\n") before ≡ gives 0 0 (card (slot 0x220 0x220 0x220 0x220) (slot 0x1FF 0x210 0x3FF 0x410))
unfolding sheet_of read_lines lines_of refusal_of with_line with_times is_slot has_too_long is_too_long line_from unit_at unit_bytes number_up_to next_place number_fits digits_from digit_of claimed_nanos nanos_in encoded first_from fits_at code_of rounded_up power_of
two_lines = refl

-- the unit is that of the line: 300 ns, 300 us and 300 ms
units : sheet_of (chars "0 300 0 0 0 us\n1 300 0 0 300 ms\n") before ≡ gives 0 0 (card (slot 0x525 0 0 0) (slot 0x91F 0 0 0x91F))
unfolding sheet_of read_lines lines_of refusal_of with_line with_times is_slot has_too_long is_too_long line_from unit_at unit_bytes number_up_to next_place number_fits digits_from digit_of claimed_nanos nanos_in encoded first_from fits_at code_of rounded_up power_of
units = refl

-- no lines: nothing changes
empty : sheet_of [] before ≡ gives 0 0 before
unfolding sheet_of read_lines lines_of refusal_of with_line with_times is_slot has_too_long is_too_long line_from unit_at unit_bytes number_up_to next_place number_fits digits_from digit_of claimed_nanos nanos_in encoded first_from fits_at code_of rounded_up power_of
empty = refl

-- zeros in front are fine; eleven digits are not
zeros : sheet_of (chars "0000000001 0000000511 0 0 0 ns\n") before ≡ gives 0 0 (card (slot 1 2 3 4) (slot 0x1FF 0 0 0))
unfolding sheet_of read_lines lines_of refusal_of with_line with_times is_slot has_too_long is_too_long line_from unit_at unit_bytes number_up_to next_place number_fits digits_from digit_of claimed_nanos nanos_in encoded first_from fits_at code_of rounded_up power_of
zeros = refl

eleven : sheet_of (chars "1 00000000511 0 0 0 ns\n") before ≡ gives 40 1 before
unfolding sheet_of read_lines lines_of refusal_of with_line with_times is_slot has_too_long is_too_long line_from unit_at unit_bytes number_up_to next_place number_fits digits_from digit_of claimed_nanos nanos_in encoded first_from fits_at code_of rounded_up power_of
eleven = refl

-- a line without 0Ah is bad, and refuses the lines before it
no_end : sheet_of (chars "1 511 0 0 0 ns\n0 1 1 1 1 ns") before ≡ gives 40 2 before
unfolding sheet_of read_lines lines_of refusal_of with_line with_times is_slot has_too_long is_too_long line_from unit_at unit_bytes number_up_to next_place number_fits digits_from digit_of claimed_nanos nanos_in encoded first_from fits_at code_of rounded_up power_of
no_end = refl

-- the first of the line's numbers: 40 before 41, 41 before 42, 42 before 43
slot_and_layout : sheet_of (chars "2 0 0 0 2000 mS\n") before ≡ gives 40 1 before
unfolding sheet_of read_lines lines_of refusal_of with_line with_times is_slot has_too_long is_too_long line_from unit_at unit_bytes number_up_to next_place number_fits digits_from digit_of claimed_nanos nanos_in encoded first_from fits_at code_of rounded_up power_of
slot_and_layout = refl

slot_and_time : sheet_of (chars "2 0 0 0 2000 ms\n") before ≡ gives 41 1 before
unfolding sheet_of read_lines lines_of refusal_of with_line with_times is_slot has_too_long is_too_long line_from unit_at unit_bytes number_up_to next_place number_fits digits_from digit_of claimed_nanos nanos_in encoded first_from fits_at code_of rounded_up power_of
slot_and_time = refl

named_and_time : sheet_of (chars "1 0 0 0 0 ms\n0 0 0 0 0 ms\n1 0 0 0 2000 ms\n") before ≡ gives 42 3 before
unfolding sheet_of read_lines lines_of refusal_of with_line with_times is_slot has_too_long is_too_long line_from unit_at unit_bytes number_up_to next_place number_fits digits_from digit_of claimed_nanos nanos_in encoded first_from fits_at code_of rounded_up power_of
named_and_time = refl

-- 1,006,632,960 ns is fine, and 1 ns more is not
longest : sheet_of (chars "1 0 0 0 1006632960 ns\n") before ≡ gives 0 0 (card (slot 1 2 3 4) (slot 0 0 0 0xA1E))
unfolding sheet_of read_lines lines_of refusal_of with_line with_times is_slot has_too_long is_too_long line_from unit_at unit_bytes number_up_to next_place number_fits digits_from digit_of claimed_nanos nanos_in encoded first_from fits_at code_of rounded_up power_of
longest = refl

too_long : sheet_of (chars "1 0 0 0 1006632961 ns\n") before ≡ gives 43 1 before
unfolding sheet_of read_lines lines_of refusal_of with_line with_times is_slot has_too_long is_too_long line_from unit_at unit_bytes number_up_to next_place number_fits digits_from digit_of claimed_nanos nanos_in encoded first_from fits_at code_of rounded_up power_of
too_long = refl

-- the earliest bad line
earliest : sheet_of (chars "1 0 0 0 2000 ms\n0 0 0 0\n") before ≡ gives 43 1 before
unfolding sheet_of read_lines lines_of refusal_of with_line with_times is_slot has_too_long is_too_long line_from unit_at unit_bytes number_up_to next_place number_fits digits_from digit_of claimed_nanos nanos_in encoded first_from fits_at code_of rounded_up power_of
earliest = refl

-- ---- what is wrong with a line: field and place, both counted from 0

second_space : fault_in (chars "0  1 1 1 1 ns\n") ≡ record { field = 1; place = 2 }
unfolding fault_in line_from unit_at unit_bytes number_up_to next_place number_fits digits_from digit_of
second_space = refl

eleventh_digit : fault_in (chars "0 1 1 1 12345678901 ns\n") ≡ record { field = 4; place = 18 }
unfolding fault_in line_from unit_at unit_bytes number_up_to next_place number_fits digits_from digit_of
eleventh_digit = refl

no_unit : fault_in (chars "0 1 1 1 1 nS\n") ≡ record { field = 5; place = 11 }
unfolding fault_in line_from unit_at unit_bytes number_up_to next_place number_fits digits_from digit_of
no_unit = refl

-- ---- where things stand

third_line : place_after 2 (lines_of (chars "0 1 1 1 1 ns\n1 1 1 1 1 ns\nx")) ≡ 26
unfolding place_after lines_of line_from unit_at unit_bytes number_up_to next_place number_fits digits_from digit_of
third_line = refl

naming : line_naming 1 (lines_of (chars "0 1 1 1 1 ns\n1 2 3 4 5 us\n")) ≡ record { fits = true; line = record { slot = 1; reset = claim 2 Us; dl_up = claim 3 Us; flr = claim 4 Us; d3hot = claim 5 Us }; size = 13 }
unfolding line_naming lines_of line_from unit_at unit_bytes number_up_to next_place number_fits digits_from digit_of
naming = refl

-- ---- is the unit right?

-- 300 us in place of 300 ns, and the other way round
us_for_ns : doubt_of (code 0x12C) (code 0x525) ≡ Some AskUnit
unfolding doubt_of is_far nanos_of power_of
us_for_ns = refl

ns_for_us : doubt_of (code 0x525) (code 0x12C) ≡ Some AskUnit
unfolding doubt_of is_far nanos_of power_of
ns_for_us = refl

-- 1 ms in place of 1 us: the codes' times are 1,015,808 ns and 1,024 ns, less than 1,000 times apart
ms_for_us : doubt_of (code 0x220) (code 0x61F) ≡ Some AskUnit
unfolding doubt_of is_far nanos_of power_of
ms_for_us = refl

-- 499 times is no question; 500 times is
near : doubt_of (code 1) (code 499) ≡ None
unfolding doubt_of is_far nanos_of power_of
near = refl

far : doubt_of (code 1) (code 500) ≡ Some AskUnit
unfolding doubt_of is_far nanos_of power_of
far = refl

-- 0 is no factor of anything; 200h is 0 ns too
from_zero : doubt_of (code 0x200) (code 5) ≡ Some OneIsZero
unfolding doubt_of is_far nanos_of power_of
from_zero = refl

both_zero : doubt_of (code 0x200) (code 0) ≡ None
unfolding doubt_of is_far nanos_of power_of
both_zero = refl
