-- Examples of the definitions, which antt computes.
use mathlib.Core.Path.{◌≡◌, refl}
use mathlib.Core.Bool.{true, false}
use mathlib.Core.List.{[], ◌∷◌}
use Prim.Native.Nat.{◌*◌}
use lib.Dec.{ltb}
use Rattle.bits.specs.Bits.{bit, number, word, enabled}
use Rattle.bits.specs.Lists.{listed, replaced}

pub bit_fifteen : bit 0x8000 15 ≡ true
unfolding bit
bit_fifteen = refl

pub bit_fourteen : bit 0x8000 14 ≡ false
unfolding bit
bit_fourteen = refl

-- a word is the number that its bits say, and bits above 31 are not part of it
pub word_of_bits : word (bit 0xDEADBEEF) ≡ 0xDEADBEEF
unfolding word number bit
word_of_bits = refl

pub word_cut : word (bit 0x1FFFFFFFF) ≡ 0xFFFFFFFF
unfolding word number bit
word_cut = refl

-- bit 15 is in byte lane 1
pub lane_on : enabled 2 15 ≡ true
unfolding bit
lane_on = refl

pub lane_off : enabled 13 15 ≡ false
unfolding bit
lane_off = refl

pub squares : listed 4 (λ i. i * i) ≡ 0 ∷ 1 ∷ 4 ∷ 9 ∷ []
unfolding listed
squares = refl

pub first_two : replaced (λ i. ltb i 2) (λ i. i) (7 ∷ 7 ∷ 7 ∷ []) ≡ 0 ∷ 1 ∷ 7 ∷ []
unfolding replaced listed
first_two = refl
