-- Tests of a byte's bits.
use mathlib.Core.Path.{◌≡◌}
use mathlib.Core.Bool.{not}
use Rattle.std.proofs.Common.{ℕ, bit_and, nat_eq}
use Rattle.bits.specs.Bits.{bit}
use Rattle.bits.proofs.Bits.{bit_test_set}

pub first_bit : (x : ℕ) → not (nat_eq (bit_and x 1) 0) ≡ bit x 0
first_bit x = bit_test_set x 0

pub second_bit : (x : ℕ) → not (nat_eq (bit_and x 2) 0) ≡ bit x 1
second_bit x = bit_test_set x 1
