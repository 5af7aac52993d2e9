-- Times in words, as antt computes them.
use mathlib.Core.Path.{◌≡◌, refl}
use Prim.Native.Nat.{ℕ}
use Rattle.bits.specs.Text.{chars}
use Rattle.times.specs.declared.Nanos.{Nanos}
use Rattle.times.specs.declared.Unit.TheVariants.{Ns, Us, Ms}
use Rattle.text_line.specs.Text.{glyph_of, decimal_from, three_of, six_of, grouped_from}
use Rattle.describe_times.specs.Times.{unit_text, claim_text, nanos_text, thousandths_text, best_text, time_text, millionths_text, in_unit_text}

abbrev ns : ℕ → Nanos
ns n = record { 0 = n }

a_claim : claim_text (record { number = 300; unit = Us }) ≡ chars "300 us"
unfolding unit_text claim_text nanos_text thousandths_text best_text time_text millionths_text in_unit_text grouped_from decimal_from three_of six_of glyph_of
a_claim = refl

-- the number isn't grouped
plain-claim : claim_text (record { number = 2000000; unit = Ms }) ≡ chars "2000000 ms"
unfolding unit_text claim_text nanos_text thousandths_text best_text time_text millionths_text in_unit_text grouped_from decimal_from three_of six_of glyph_of
plain-claim = refl

no_time : time_text (ns 0) ≡ chars "0 ns"
unfolding unit_text claim_text nanos_text thousandths_text best_text time_text millionths_text in_unit_text grouped_from decimal_from three_of six_of glyph_of
no_time = refl

below_1_us : time_text (ns 999) ≡ chars "999 ns"
unfolding unit_text claim_text nanos_text thousandths_text best_text time_text millionths_text in_unit_text grouped_from decimal_from three_of six_of glyph_of
below_1_us = refl

in_us : time_text (ns 1024) ≡ chars "1,024 ns (1.024 us)"
unfolding unit_text claim_text nanos_text thousandths_text best_text time_text millionths_text in_unit_text grouped_from decimal_from three_of six_of glyph_of
in_us = refl

-- cut, not rounded
below_1_ms : time_text (ns 999999) ≡ chars "999,999 ns (999.999 us)"
unfolding unit_text claim_text nanos_text thousandths_text best_text time_text millionths_text in_unit_text grouped_from decimal_from three_of six_of glyph_of
below_1_ms = refl

in_ms : time_text (ns 300941312) ≡ chars "300,941,312 ns (300.941 ms)"
unfolding unit_text claim_text nanos_text thousandths_text best_text time_text millionths_text in_unit_text grouped_from decimal_from three_of six_of glyph_of
in_ms = refl

in_s : time_text (ns 1006632960) ≡ chars "1,006,632,960 ns (1.006 s)"
unfolding unit_text claim_text nanos_text thousandths_text best_text time_text millionths_text in_unit_text grouped_from decimal_from three_of six_of glyph_of
in_s = refl

exactly_ns : in_unit_text (ns 300032) Ns ≡ chars "300,032 ns"
unfolding unit_text claim_text nanos_text thousandths_text best_text time_text millionths_text in_unit_text grouped_from decimal_from three_of six_of glyph_of
exactly_ns = refl

exactly_us : in_unit_text (ns 300032) Us ≡ chars "300.032 us"
unfolding unit_text claim_text nanos_text thousandths_text best_text time_text millionths_text in_unit_text grouped_from decimal_from three_of six_of glyph_of
exactly_us = refl

exactly_ms : in_unit_text (ns 300032) Ms ≡ chars "0.300032 ms"
unfolding unit_text claim_text nanos_text thousandths_text best_text time_text millionths_text in_unit_text grouped_from decimal_from three_of six_of glyph_of
exactly_ms = refl

grouped_us : in_unit_text (ns 300941312) Us ≡ chars "300,941.312 us"
unfolding unit_text claim_text nanos_text thousandths_text best_text time_text millionths_text in_unit_text grouped_from decimal_from three_of six_of glyph_of
grouped_us = refl
