-- The lateness report in words, as antt computes it.
use Rattle.times.specs.declared.Nanos.{Nanos}
use Rattle.std.specs.Prelude.{Option, None, Some}
use mathlib.Core.Path.{◌≡◌, refl}
use Prim.Native.Nat.{ℕ}
use lib.IntN.{pos, negsuc}
use Rattle.bits.specs.Text.{chars}
use Rattle.text_line.specs.Text.{glyph_of, decimal_from, three_of, grouped_from, text_if}
use Rattle.lateness.specs.Lateness.{within, apart, lateness_of}
use Rattle.describe_times.specs.Times.{nanos_text}
use Rattle.describe_lateness.specs.Signed.{sign_text, difference_text, verdict_text, plain_text}
use Rattle.describe_lateness.specs.Rows.{group_margin, margin_text, column_text, slot_text, bench_text, seen_text, missing_text, within_text, note_text, row_text}
use Rattle.describe_lateness.specs.Totals.{counts_text, range_text, refusal_text}
use Rattle.seen_grammar.specs.declared.SeenRefusal.TheVariants.{NamedBefore}
use Rattle.describe_lateness.specs.Refusals.{reason_text, file_text}
use Rattle.describe_lateness.specs.Csv.{moment_csv, difference_csv, verdict_csv, times_csv, end_csv, row_csv}

abbrev at : ℕ → Option Nanos
at t = Some (record { 0 = t })

late_row : row_text 3 (at 2000000) (at 2150000) ≡ chars "slot  3  bench     2,000,000 ns  seen     2,150,000 ns  +150,000 ns  late"
unfolding row_text slot_text bench_text seen_text column_text margin_text group_margin note_text within_text difference_text sign_text verdict_text nanos_text lateness_of apart within grouped_from decimal_from three_of glyph_of text_if
late_row = refl

early_row : row_text 12 (at 5000) (at 4999) ≡ chars "slot 12  bench         5,000 ns  seen         4,999 ns  -1 ns  early"
unfolding row_text slot_text bench_text seen_text column_text margin_text group_margin note_text within_text difference_text sign_text verdict_text nanos_text lateness_of apart within grouped_from decimal_from three_of glyph_of text_if
early_row = refl

on_time_row : row_text 0 (at 5000) (at 5000) ≡ chars "slot  0  bench         5,000 ns  seen         5,000 ns  0 ns  on time"
unfolding row_text slot_text bench_text seen_text column_text margin_text group_margin note_text within_text difference_text sign_text verdict_text nanos_text lateness_of apart within grouped_from decimal_from three_of glyph_of text_if
on_time_row = refl

not_made_ready : row_text 4 None (at 5000) ≡ chars "slot  4  bench not made Ready  seen         5,000 ns  no difference: the replay did not make it Ready"
unfolding row_text slot_text bench_text seen_text column_text margin_text group_margin note_text missing_text nanos_text lateness_of grouped_from decimal_from three_of glyph_of text_if
not_made_ready = refl

not_seen : row_text 4 (at 5000) None ≡ chars "slot  4  bench         5,000 ns  not seen  no difference: no seen time"
unfolding row_text slot_text bench_text seen_text column_text margin_text group_margin note_text missing_text nanos_text lateness_of grouped_from decimal_from three_of glyph_of text_if
not_seen = refl

outside : note_text (at 0) (lateness_of (at 0) (at 1000000000000001)) ≡ chars "  34 (difference outside +/-10^15 ns)"
unfolding note_text lateness_of apart within
outside = refl

counts : counts_text (record { number = 0; early = 1; on_time = 0; late = 8999; least = negsuc 4; greatest = pos 7; sum = pos 62988 }) ≡ chars "early 1, on time 0, late 8,999"
unfolding counts_text grouped_from decimal_from three_of glyph_of
counts = refl

range : range_text (negsuc 4) (pos 7) (pos 62988) ≡ chars "least -5 ns, greatest +7 ns, sum +62,988 ns"
unfolding range_text difference_text sign_text nanos_text grouped_from decimal_from three_of glyph_of text_if
range = refl

too_many : refusal_text 35 ≡ chars "35 (more than 9,000 differences): no totals"
unfolding refusal_text
too_many = refl

late_csv : row_csv (chars "night1") 3 (at 2000000) (at 2150000) ≡ chars "night1,3,2000000,2150000,150000,late"
unfolding row_csv times_csv end_csv moment_csv difference_csv verdict_csv plain_text verdict_text lateness_of apart within decimal_from glyph_of text_if
late_csv = refl

early_csv : row_csv (chars "night1") 3 (at 2150000) (at 2000000) ≡ chars "night1,3,2150000,2000000,-150000,early"
unfolding row_csv times_csv end_csv moment_csv difference_csv verdict_csv plain_text verdict_text lateness_of apart within decimal_from glyph_of text_if
early_csv = refl

missing_csv : row_csv (chars "night1") 4 (at 7) None ≡ chars "night1,4,7,,,"
unfolding row_csv times_csv end_csv moment_csv difference_csv verdict_csv lateness_of decimal_from glyph_of
missing_csv = refl

named-before : file_text 2 NamedBefore ≡ chars "line 2: the slot was named before"
unfolding file_text reason_text decimal_from glyph_of
named-before = refl
