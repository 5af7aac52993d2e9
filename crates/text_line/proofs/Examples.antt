-- Numbers in groups of three digits, as antt computes them.
use mathlib.Core.Path.{◌≡◌, refl}
use Rattle.bits.specs.Text.{chars}
use Rattle.text_line.specs.Text.{glyph_of, decimal_from, three_of, six_of, grouped_from, grouped_of}

none : grouped_of 0 ≡ chars "0"
unfolding grouped_from decimal_from three_of glyph_of
none = refl

below_a_thousand : grouped_of 999 ≡ chars "999"
unfolding grouped_from decimal_from three_of glyph_of
below_a_thousand = refl

a_thousand : grouped_of 1000 ≡ chars "1,000"
unfolding grouped_from decimal_from three_of glyph_of
a_thousand = refl

below_a_million : grouped_of 999999 ≡ chars "999,999"
unfolding grouped_from decimal_from three_of glyph_of
below_a_million = refl

a_million : grouped_of 1000000 ≡ chars "1,000,000"
unfolding grouped_from decimal_from three_of glyph_of
a_million = refl

greatest_time : grouped_of 1006632960 ≡ chars "1,006,632,960"
unfolding grouped_from decimal_from three_of glyph_of
greatest_time = refl

greatest : grouped_of 18446744073709551615 ≡ chars "18,446,744,073,709,551,615"
unfolding grouped_from decimal_from three_of glyph_of
greatest = refl

-- zeros in front, and what is above cut off
three_digits : three_of 1024 ≡ chars "024"
unfolding three_of glyph_of
three_digits = refl

six_digits : six_of 5000032 ≡ chars "000032"
unfolding six_of three_of glyph_of
six_digits = refl
