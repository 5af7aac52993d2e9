-- Examples, computed.
use Rattle.std.proofs.Common.{◌≡◌, ℕ, Bool, true, false, List, [], ◌∷◌, refl}
use Rattle.bits.specs.Text.{chars}
use Rattle.text_hex.specs.declared.Within.{Within}
use Rattle.text_hex.specs.declared.Within.TheVariants.{Gap, Byte}
use Rattle.text_fields.specs.Text.{is_blank, digit_of}
use Rattle.text_hex.specs.Text.{separates, in_gap, in_byte, in_comment, turn_of}
use Rattle.text_hex.specs.Packing.{start, past, spoiled, step_by, step_of, Given, packs}

abbrev given : Within → Bool → (line column consumed : ℕ) → List ℕ → Given
given within bad line column consumed bytes =
    record { after = record { within = within; bad = bad; line = line; column = column }; consumed = consumed; bytes = bytes }

-- blanks, a comment, small and capital letters
pub two_lines : packs start (chars "0B 03 # on\nfFAa") 9 ≡ given Gap false 2 5 15 (0x0B ∷ 0x03 ∷ 0xFF ∷ 0xAA ∷ [])
unfolding packs step_of step_by turn_of in_gap in_byte in_comment digit_of separates is_blank past spoiled
two_lines = refl

-- the place of the first bad character
pub bad_letter : packs start (chars "0B\n02 0G 05") 9 ≡ given (Byte 0) true 2 5 7 (0x0B ∷ 0x02 ∷ [])
unfolding packs step_of step_by turn_of in_gap in_byte in_comment digit_of separates is_blank past spoiled
bad_letter = refl

-- a blank within a byte
pub parted : packs start (chars "0 B") 9 ≡ given (Byte 0) true 1 2 1 []
unfolding packs step_of step_by turn_of in_gap in_byte in_comment digit_of separates is_blank past spoiled
parted = refl

-- a room that is full: the second byte is left for the next call
pub full : packs start (chars "0B03") 1 ≡ given (Byte 0) false 1 4 3 (0x0B ∷ [])
unfolding packs step_of step_by turn_of in_gap in_byte in_comment digit_of separates is_blank past spoiled
full = refl

-- a byte that lacks its second digit at the end
pub cut : packs start (chars "0B 0") 9 ≡ given (Byte 0) false 1 5 4 (0x0B ∷ [])
unfolding packs step_of step_by turn_of in_gap in_byte in_comment digit_of separates is_blank past spoiled
cut = refl
