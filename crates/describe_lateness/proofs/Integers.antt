-- A plain integer, read back.
use mathlib.Core.Path.{◌≡◌, refl, ap, ◌∙◌}
use mathlib.Core.Bool.{Bool, true, false, cond}
use mathlib.Core.List.{List, [], ◌∷◌, ◌++◌}
use Prim.Native.Nat.{ℕ, zero, suc, ◌+◌, ◌/◌, ◌%◌, ◌^◌, ◌≤◌, ◌<◌}
use native.Mathlib.Omega.{arith}
use lib.Dec.{eqb, ltb}
use lib.ListN.{length, get_or, length-append}
use lib.IntN.{ℤ, pos, negsuc, neg_ℤ, nat_abs}
use borrow.Author.Tests.{ltb-true, lt-ltb, le-ltb, ne_eqb}
use Rattle.std.specs.Prelude.{Some, option_map}
use Rattle.bits.specs.Text.{chars}
use Rattle.bits.proofs.Choices.{when_true, when_false}
use Rattle.text_line.specs.Text.{glyph_of, decimal_from, decimal_of, text_if}
use Rattle.text_line.proofs.Laws.{decimal_value}
use Rattle.describe_lateness.specs.Signed.{plain_text, integer_in, ReadBack}

-- ---- a decimal number starts with a digit

digit_glyph : (n : ℕ) → n < 10 → glyph_of n ≡ 0x30 + n
unfolding glyph_of
digit_glyph n h = when_true (ltb n 10) _ _ (lt-ltb n 10 h)

front : (a b : List ℕ) → 1 ≤ length a → get_or (a ++ b) 0 0 ≡ get_or a 0 0
front [] b h = absurd (omega arith)
front (x ∷ a) b h = refl

record Starts (s : List ℕ) : Type 0 where
  some : 1 ≤ length s
  high : 0x30 ≤ get_or s 0 0

one_digit : (k : ℕ) → k < 10 → Starts (glyph_of k ∷ [])
one_digit k h = record { some = omega arith; high = omega (arith, digit_glyph k h) }

more_digits : (s : List ℕ) (b : ℕ) → Starts s → Starts (s ++ (b ∷ []))
more_digits s b r = record { some = omega (arith, length-append s (b ∷ []), r.some); high = omega (arith, front s (b ∷ []) r.some, r.high) }

starts : (most n : ℕ) → Starts (decimal_from (suc most) n)
unfolding decimal_from
starts zero n = by (ltb n 10) refl
  where
    by : (t : Bool) → ltb n 10 ≡ t → Starts (cond t (glyph_of n ∷ []) ([] ++ (glyph_of (n % 10) ∷ [])))
    by true e = one_digit n (ltb-true n 10 e)
    by false e = one_digit (n % 10) (omega arith)
starts (suc most) n = by (ltb n 10) refl (starts most (n / 10))
  where
    by : (t : Bool) → ltb n 10 ≡ t → Starts (decimal_from (suc most) (n / 10)) → Starts (cond t (glyph_of n ∷ []) (decimal_from (suc most) (n / 10) ++ (glyph_of (n % 10) ∷ [])))
    by true e r = one_digit n (ltb-true n 10 e)
    by false e r = more_digits (decimal_from (suc most) (n / 10)) (glyph_of (n % 10)) r

-- ---- what is put is read back

plain-pos : (n : ℕ) → plain_text (pos n) ≡ decimal_of n
unfolding plain_text text_if
plain-pos n = ap (λ (b : Bool). cond b (chars "-") [] ++ decimal_of n) (le-ltb n 0 (omega arith))

plain_neg : (n : ℕ) → plain_text (negsuc n) ≡ 0x2D ∷ decimal_of (suc n)
unfolding plain_text text_if
plain_neg n = refl

plain_back : (d : ℤ) → nat_abs d < 10 ^ 20 → integer_in (plain_text d) ≡ Some d
unfolding integer_in
plain_back (pos n) h =
    ap integer_in (plain-pos n)
    ∙ when_false (eqb (get_or (decimal_of n) 0 0) 0x2D) _ _ (ne_eqb (get_or (decimal_of n) 0 0) 0x2D (λ (e : get_or (decimal_of n) 0 0 ≡ 0x2D). omega (arith, (starts 19 n).high)))
    ∙ ap (option_map (λ (k : ℕ). pos k)) (decimal_value 20 n h)
plain_back (negsuc n) h = ap integer_in (plain_neg n) ∙ ap (option_map (λ (k : ℕ). neg_ℤ (pos k))) (decimal_value 20 (suc n) h)

pub read_back : ReadBack
read_back d h = plain_back d (omega arith)
