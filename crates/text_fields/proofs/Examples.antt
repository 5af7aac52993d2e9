-- Lines, fields and numbers, as antt computes them.
use mathlib.Core.Path.{◌≡◌, refl}
use mathlib.Core.Bool.{true}
use Rattle.std.specs.Prelude.{Some, None}
use mathlib.Core.List.{[], ◌∷◌}
use Rattle.bits.specs.Text.{chars}
use Rattle.text_fields.specs.Text.{in_line, lines_of, is_blank, in_field, run, field_start, field, no_field, digit_of, value_from, width_allowed, number_of}
use Rattle.text_fields.specs.declared.Base.{Base}
use Rattle.text_fields.specs.declared.Base.TheVariants.{Decimal, Hex}
use Rattle.text_fields.specs.declared.Numeral.{Numeral}

-- lines, with or without a last 0Ah
three_lines : lines_of (chars "a\n\nbc\n") ≡ chars "a" ∷ [] ∷ chars "bc" ∷ []
unfolding lines_of in_line
three_lines = refl

no_last_end : lines_of (chars "a\n\nbc") ≡ chars "a" ∷ [] ∷ chars "bc" ∷ []
unfolding lines_of in_line
no_last_end = refl

-- fields stand apart by spaces, tabs and carriage returns; a comment starts anywhere
second_field : field 1 (chars "  bus\t 01\r# the first\r") ≡ chars "01"
unfolding field_start run is_blank in_field
second_field = refl

no_third_field : no_field 2 (chars "  bus\t 01# the first") ≡ true
unfolding no_field field_start run is_blank in_field
no_third_field = refl

-- numbers
up_to_8 : Base → Numeral
up_to_8 base = record { base = base; least = 1; most = 8 }

three : Numeral
three = record { base = Hex; least = 3; most = 3 }

decimal : number_of (up_to_8 Decimal) (chars "4095") ≡ Some 4095
unfolding number_of width_allowed value_from digit_of up_to_8
decimal = refl

hex : number_of (up_to_8 Hex) (chars "56781234") ≡ Some 0x56781234
unfolding number_of width_allowed value_from digit_of up_to_8
hex = refl

either_case : number_of three (chars "a1E") ≡ Some 0xA1E
unfolding number_of width_allowed value_from digit_of three
either_case = refl

-- too many digits, and a letter that is no digit
too_long : number_of three (chars "0A1E") ≡ None
unfolding number_of width_allowed three
too_long = refl

no_digit : number_of three (chars "A1G") ≡ None
unfolding number_of width_allowed value_from digit_of three
no_digit = refl
