-- A slot and codes in words, as antt computes them.
use mathlib.Core.Path.{◌≡◌, refl}
use Rattle.readiness.specs.declared.Cause.TheVariants.{Flr}
use Rattle.readiness.specs.declared.Phase.TheVariants.{Pending}
use Rattle.bits.specs.Text.{chars}
use Rattle.times.specs.Codes.{power_of, nanos_of, allowed}
use Rattle.text_line.specs.Text.{glyph_of, hex_of, decimal_from, three_of, grouped_from, text_if}
use Rattle.describe_times.specs.Times.{nanos_text, thousandths_text, best_text, time_text}
use Rattle.describe_state.specs.Cards.{code_text}
use Rattle.describe_state.specs.States.{moment_text, cause_text, pending_text, phase_text, slot_text}

in_flr : slot_text 1 (Pending (Flr (record { 0 = 15 })) (record { 0 = 20 })) ≡ chars "slot 1: Pending until 20 ns (FLR, in progress until 15 ns)"
unfolding slot_text phase_text pending_text cause_text moment_text decimal_from glyph_of
in_flr = refl

a_code : code_text (chars "FLR ") (record { 0 = 0x91F }) ≡ chars "FLR 91Fh = 300,941,312 ns (300.941 ms)"
unfolding code_text time_text nanos_text best_text thousandths_text text_if nanos_of power_of allowed hex_of grouped_from decimal_from three_of glyph_of
a_code = refl

above_the_greatest : code_text (chars "FLR ") (record { 0 = 0xA1F }) ≡ chars "FLR A1Fh = 1,040,187,392 ns (1.040 s) (above A1Eh: refused)"
unfolding code_text time_text nanos_text best_text thousandths_text text_if nanos_of power_of allowed hex_of grouped_from decimal_from three_of glyph_of
above_the_greatest = refl
