-- Differences with their sign, in words and as plain integers.
use Rattle.std.specs.Prelude.{ℕ, ◌≤◌, ◌≡◌, cond, Option, Some, option_map, List, ◌++◌, eqb, get_or, drop, ℤ, pos, neg_ℤ, nat_abs}
use Rattle.bits.specs.Text.{chars}
use Rattle.text_fields.specs.declared.Base.TheVariants.{Decimal}
use Rattle.text_fields.specs.Text.{value_from}
use Rattle.text_line.specs.Text.{decimal_of, text_if}
use Rattle.lateness.specs.Totals.{is_early, is_late}
use Rattle.describe_times.specs.Times.{nanos_text}

-- '-' if it is early, '+' if it is late
unfoldable pub sign_text : ℤ → List ℕ
sign_text d = text_if (is_early d) (chars "-") ++ text_if (is_late d) (chars "+")

-- in nanoseconds, thousands grouped
unfoldable pub difference_text : ℤ → List ℕ
difference_text d = sign_text d ++ nanos_text (nat_abs d)

unfoldable pub verdict_text : ℤ → List ℕ
verdict_text d = cond (is_early d) (chars "early") (cond (is_late d) (chars "late") (chars "on time"))

-- a plain integer, as programs read it: '-' before a negative one, no grouping
unfoldable pub plain_text : ℤ → List ℕ
plain_text d = text_if (is_early d) (chars "-") ++ decimal_of (nat_abs d)

-- the integer that a text is, if it is one: digits, after '-' for a negative one
unfoldable pub integer_in : List ℕ → Option ℤ
integer_in s =
    cond (eqb (get_or s 0 0) 0x2D)
    (option_map (λ (n : ℕ). neg_ℤ (pos n)) (value_from Decimal 0 (drop 1 s)))
    (option_map (λ (n : ℕ). pos n) (value_from Decimal 0 s))

-- THE STATEMENT: every i64 that is put so is read back
abbrev pub ReadBack : Type 0
ReadBack = (d : ℤ) → nat_abs d ≤ 9223372036854775808 → integer_in (plain_text d) ≡ Some d
