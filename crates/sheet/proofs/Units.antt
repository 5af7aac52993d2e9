-- The bytes of a unit, one by one.
use mathlib.Core.Path.{◌≡◌, sym, ◌∙◌}
use mathlib.Core.Bool.{true, false, cond, false≢true}
use mathlib.Core.List.{List}
use Prim.Native.Nat.{ℕ, zero, suc, ◌+◌, ◌≤◌, ◌<◌}
use native.Mathlib.Omega.{arith}
use lib.Dec.{eqb}
use lib.ListN.{length}
use borrow.Author.Tests.{eqb-true, eq-eqb, ne_eqb}
use Rattle.bits.proofs.Choices.{when_true, when_false, either_way}
use Rattle.sheet_grammar.specs.Layout.{line_end, byte_at, is_unit_letter, unit_bytes}
use Rattle.sheet.proofs.Numbers.{byte_below}

letter_some : (b : ℕ) → is_unit_letter b ≡ true → 1 ≤ b
letter_some zero e = absurd (false≢true e)
letter_some (suc b) e = omega arith

module _ (at : ℕ) (s : List ℕ) where
  pub letter_below : is_unit_letter (byte_at at s) ≡ true → at < length s
  letter_below e = byte_below s at (letter_some (byte_at at s) e)

  byte_stands : (i b : ℕ) → 1 ≤ b → eqb (byte_at i s) b ≡ true → i < length s
  byte_stands i b h e = byte_below s i (omega (arith, eqb-true (byte_at i s) b e))

  -- not past what the place and the text's end are below
  pub unit_within : (most : ℕ) → at ≤ most → length s ≤ most → at + unit_bytes at s ≤ most
  unfolding unit_bytes
  unit_within most h k =
      either_way (λ (n : ℕ). at + n ≤ most) (is_unit_letter (byte_at at s)) _ _
      (λ e. either_way (λ (n : ℕ). at + n ≤ most) (eqb (byte_at (at + 1) s) 0x73) _ _
      (λ f. either_way (λ (n : ℕ). at + n ≤ most) (eqb (byte_at (at + 2) s) line_end) _ _
      (λ g. omega (arith, byte_stands (at + 2) line_end (omega arith) g)) (λ g. omega (arith, byte_stands (at + 1) 0x73 (omega arith) f)))
      (λ f. omega (arith, letter_below e)))
      (λ e. omega arith)

  pub no_letter : is_unit_letter (byte_at at s) ≡ false → 0 ≡ unit_bytes at s
  unfolding unit_bytes
  no_letter e = sym (when_false (is_unit_letter (byte_at at s)) _ _ e)

  module _ (letter : is_unit_letter (byte_at at s) ≡ true) where
    pub one_byte : (byte_at (at + 1) s ≡ 0x73 → ⊥) → 1 ≡ unit_bytes at s
    unfolding unit_bytes
    one_byte f =
        sym (when_true (is_unit_letter (byte_at at s)) _ _ letter ∙ when_false (eqb (byte_at (at + 1) s) 0x73) _ _ (ne_eqb (byte_at (at + 1) s) 0x73 f))

    module _ (second : byte_at (at + 1) s ≡ 0x73) where
      pub second_below : at + 1 < length s
      second_below = byte_below s (at + 1) (omega (arith, second))

      two : unit_bytes at s ≡ cond (eqb (byte_at (at + 2) s) line_end) 3 2
      unfolding unit_bytes
      two = when_true (is_unit_letter (byte_at at s)) _ _ letter ∙ when_true (eqb (byte_at (at + 1) s) 0x73) _ _ (eq-eqb (byte_at (at + 1) s) 0x73 second)

      pub two_bytes : (byte_at (at + 2) s ≡ 0x0A → ⊥) → 2 ≡ unit_bytes at s
      two_bytes f = sym (two ∙ when_false (eqb (byte_at (at + 2) s) line_end) 3 2 (ne_eqb (byte_at (at + 2) s) 0x0A f))

      pub three_bytes_lem : byte_at (at + 2) s ≡ 0x0A → 3 ≡ unit_bytes at s
      three_bytes_lem f = sym (two ∙ when_true (eqb (byte_at (at + 2) s) line_end) 3 2 (eq-eqb (byte_at (at + 2) s) 0x0A f))
