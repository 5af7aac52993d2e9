-- Byte lanes of a word: the shifts that spread four enables over the word, and a byte of a word.
use mathlib.Core.Path.{◌≡◌}
use Prim.Native.Nat.{ℕ, ◌*◌, ◌%◌, ◌^◌, ◌<◌}
use lib.Bits.{bit_and, bit_or}
use lib.Dec.{eqb, eqb→eq}
use Rattle.bits.specs.Bits.{bit, number, word, enabled}
use Rattle.bits.proofs.Tests.{all_at}

-- the four enables, shifted so that each stands in the lowest bit of its lane, and those four bits times 255, as code on u32 has it
abbrev pub spread : ℕ → ℕ
spread e =
    bit_and (bit_or (bit_or (bit_or (bit_and e 15) (bit_and e 15 * 2 ^ 7 % 2 ^ 32)) (bit_and e 15 * 2 ^ 14 % 2 ^ 32)) (bit_and e 15 * 2 ^ 21 % 2 ^ 32)) 0x01010101 * 255

-- it has all eight bits of each enabled lane: a test at each byte of enables
pub spread_is : (e : ℕ) → e < 256 → spread e ≡ word (enabled e)
unfolding bit number word
spread_is e h = eqb→eq (spread e) (word (enabled e)) (all_at 256 (λ e. eqb (spread e) (word (enabled e))) tt e h)
