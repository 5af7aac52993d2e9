-- Worked examples of a file of seen times, which antt computes.
use mathlib.Core.Path.{◌≡◌, refl}
use mathlib.Core.List.{List, [], ◌∷◌}
use Prim.Native.Nat.{ℕ}
use lib.ListN.{replicate}
use Rattle.bits.specs.Bits.{bit, number, word}
use Rattle.bits.specs.Text.{chars}
use Rattle.std.specs.Prelude.{Option, Some, Err}
use Rattle.times.specs.declared.Unit.TheVariants.{Us}
use Rattle.times.specs.declared.Nanos.{Nanos}
use Rattle.times.specs.Claims.{nanos_in, claimed_nanos}
use Rattle.readiness.specs.MadeReady.{with_bit}
use Rattle.text_fields.specs.Text.{digit_of}
use Rattle.sheet_grammar.specs.Layout.{digits_from, number_fits, next_place, number_up_to, unit_bytes, unit_at}
use Rattle.sheet_grammar.specs.Reading.{lines_of}
use Rattle.seen_grammar.specs.declared.SeenRefusal.TheVariants.{Layout, NoSlot, NamedBefore, TooLong}
use Rattle.seen_grammar.specs.Reading.{line_of, is_slot, is_too_long, refusal_of, with_time, accepts, refuses, read_lines, seen_of}

abbrev at : ℕ → Option Nanos
at t = Some (record { 0 = t })

abbrev two_lines : List ℕ
two_lines = chars "3 2150 us\n0 5000 ns\n"

-- slots 0 and 3 of a card of four were seen, at 5,000 ns and at 2,150 us
both_seen : seen_of two_lines 4 ≡ accepts (record { made = 9; at_ns = 5000 ∷ 0 ∷ 0 ∷ 2150000 ∷ replicate 28 0 })
unfolding seen_of read_lines lines_of refusal_of is_slot is_too_long with_time with_bit word number bit line_of unit_at unit_bytes number_up_to next_place number_fits digits_from digit_of claimed_nanos nanos_in
both_seen = refl

-- 2 ms, and 16 digits of ns
sixteen_digits : seen_of (chars "0 1000000000000000 ns\n1 2 ms\n") 4 ≡ accepts (record { made = 3; at_ns = 1000000000000000 ∷ 2000000 ∷ replicate 30 0 })
unfolding seen_of read_lines lines_of refusal_of is_slot is_too_long with_time with_bit word number bit line_of unit_at unit_bytes number_up_to next_place number_fits digits_from digit_of claimed_nanos nanos_in
sixteen_digits = refl

nothing_seen : seen_of [] 4 ≡ accepts (record { made = 0; at_ns = replicate 32 0 })
unfolding seen_of read_lines lines_of
nothing_seen = refl

-- a last line without 0Ah, a unit that isn't one, 17 digits
no_end : seen_of (chars "3 2150 us\n0 5000 ns") 4 ≡ refuses Layout 2
unfolding seen_of read_lines lines_of refusal_of is_slot is_too_long with_time line_of unit_at unit_bytes number_up_to next_place number_fits digits_from digit_of claimed_nanos nanos_in
no_end = refl

-- what was read of it
no_end_read : line_of (chars "3 2150 us") ≡ Err (record { so_far = record { slot = 3; time = record { number = 2150; unit = Us } } })
unfolding line_of unit_at unit_bytes number_up_to next_place number_fits digits_from digit_of
no_end_read = refl

no_unit : seen_of (chars "3 2150 s\n") 4 ≡ refuses Layout 1
unfolding seen_of read_lines lines_of refusal_of line_of unit_at unit_bytes number_up_to next_place number_fits digits_from digit_of
no_unit = refl

seventeen_digits : seen_of (chars "3 00000000000000001 ns\n") 4 ≡ refuses Layout 1
unfolding seen_of read_lines lines_of refusal_of line_of unit_at unit_bytes number_up_to next_place number_fits digits_from digit_of
seventeen_digits = refl

no_such_slot : seen_of (chars "4 1 ns\n") 4 ≡ refuses NoSlot 1
unfolding seen_of read_lines lines_of refusal_of is_slot line_of unit_at unit_bytes number_up_to next_place number_fits digits_from digit_of
no_such_slot = refl

named_twice : seen_of (chars "3 1 ns\n3 1 ns\n") 4 ≡ refuses NamedBefore 2
unfolding seen_of read_lines lines_of refusal_of is_slot is_too_long with_time line_of unit_at unit_bytes number_up_to next_place number_fits digits_from digit_of claimed_nanos nanos_in
named_twice = refl

-- 2 · 10^15 ns are fine, and 1 ns more is not; nor is a time past 2^64 ns
longest : seen_of (chars "0 2000000000 ms\n") 4 ≡ accepts (record { made = 1; at_ns = 2000000000000000 ∷ replicate 31 0 })
unfolding seen_of read_lines lines_of refusal_of is_slot is_too_long with_time with_bit word number bit line_of unit_at unit_bytes number_up_to next_place number_fits digits_from digit_of claimed_nanos nanos_in
longest = refl

one_more : seen_of (chars "0 2000000000000001 ns\n") 4 ≡ refuses TooLong 1
unfolding seen_of read_lines lines_of refusal_of is_slot is_too_long line_of unit_at unit_bytes number_up_to next_place number_fits digits_from digit_of claimed_nanos nanos_in
one_more = refl

past_64_bits : seen_of (chars "0 9999999999999999 ms\n") 4 ≡ refuses TooLong 1
unfolding seen_of read_lines lines_of refusal_of is_slot is_too_long line_of unit_at unit_bytes number_up_to next_place number_fits digits_from digit_of claimed_nanos nanos_in
past_64_bits = refl
