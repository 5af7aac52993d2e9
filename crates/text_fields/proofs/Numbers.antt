-- A number read digit by digit.
use mathlib.Core.Path.{◌≡◌, refl, ap, subst, ◌∙◌}
use mathlib.Core.Bool.{Bool, true, false, ◌&&◌, cond}
use mathlib.Core.List.{List, [], ◌∷◌}
use Prim.Native.Nat.{ℕ, zero, suc, ◌+◌, ◌*◌, ◌-◌, ◌^◌, ◌≤◌, ◌<◌}
use native.Mathlib.Nat.{pow-suc}
use native.Mathlib.Numerals.{add-one}
use native.Mathlib.Omega.{arith}
use lib.Dec.{leb, leb→le}
use lib.ListN.{length, get_or, drop, drop_of_length-le}
use lib.Seq.{drop-cons}
use borrow.Author.Tests.{leb-true}
use Rattle.std.specs.Prelude.{Option, Some, None, is_some, unwrap_or}
use Rattle.bits.proofs.Tests.{all_at, both_left, both_right}
use Rattle.text_fields.specs.Text.{base_of, is_hex, digit_of, is_digit, digit_value, value_from, width_allowed, number_of}
use Rattle.text_fields.specs.declared.Base.{Base}
use Rattle.text_fields.specs.declared.Base.TheVariants.{Decimal, Hex}
use Rattle.text_fields.specs.declared.Numeral.{Numeral}

-- ---- digits

either : (P : Option ℕ → Type 0) (t : Bool) (o u : Option ℕ) → (t ≡ true → P o) → P u → P (cond t o u)
either P true o u f p = f refl
either P false o u f p = p

Small : ℕ → Option ℕ → Type 0
Small n o = unwrap_or o 0 < n

-- a digit is below its base
pub digit_small : (base : Base) (b : ℕ) → digit_value base b < 16
unfolding digit_of Small
digit_small base b =
    let low : (k : ℕ) → (leb k b && leb b 0x39) ≡ true → b ≤ 0x39 = λ k e. leb-true b 0x39 (both_right (leb k b) (leb b 0x39) e) in
    let capital : (is_hex base && (leb 0x41 b && leb b 0x46)) ≡ true → b ≤ 0x46 =
    λ e. leb-true b 0x46 (both_right (leb 0x41 b) (leb b 0x46) (both_right (is_hex base) (leb 0x41 b && leb b 0x46) e)) in
    let small : (is_hex base && (leb 0x61 b && leb b 0x66)) ≡ true → b ≤ 0x66 =
    λ e. leb-true b 0x66 (both_right (leb 0x61 b) (leb b 0x66) (both_right (is_hex base) (leb 0x61 b && leb b 0x66) e)) in
    either (Small 16) (leb 0x30 b && leb b 0x39) (Some (b - 0x30)) _ (λ e. omega (arith, low 0x30 e))
    (either (Small 16) (is_hex base && (leb 0x41 b && leb b 0x46)) (Some (b - 0x41 + 10)) _ (λ e. omega (arith, capital e))
    (either (Small 16) (is_hex base && (leb 0x61 b && leb b 0x66)) (Some (b - 0x61 + 10)) None (λ e. omega (arith, small e)) (omega arith)))

-- one digit more: the number so far stays below a power of 16
pub scaled : (base : Base) (v p d : ℕ) → v < p → d < 16 → v * base_of base + d < p * 16
scaled Hex v p d h k = omega arith
scaled Decimal v p d h k = omega arith

-- ---- widths

-- a field of a width that is allowed has at most 8 digits
pub width_most : (form : Numeral) (n : ℕ) → width_allowed form n ≡ true → n ≤ 8
unfolding width_allowed
width_most form n e = leb-true n 8 (both_right (leb form.least n && leb n form.most) (leb n 8) e)

powers : ℕ → Bool
powers i = leb (16 ^ i) 268435456

pub power_most : (i : ℕ) → i < 8 → 16 ^ i ≤ 268435456
unfolding powers
power_most i h = leb→le _ _ (all_at 8 powers tt i h)

-- ---- so many digits are below so many powers of 16

Below : ℕ → Option ℕ → Type 0
Below n o = unwrap_or o 0 < n

above_0 : (n : ℕ) → 0 < 16 ^ n
above_0 zero = omega arith
above_0 (suc n) = omega (arith, pow-suc 16 n, above_0 n)

value_width : (base : Base) (s : List ℕ) (v i : ℕ) → v < 16 ^ i → Below (16 ^ (i + length s)) (value_from base v s)
unfolding value_from Below
value_width base [] v i h = let e : i + 0 ≡ i = omega arith in rw e h
value_width base (b ∷ s) v i h =
    let e : i + suc (length s) ≡ suc i + length s = omega arith in
    either (Below (16 ^ (i + suc (length s)))) (is_digit base b) (value_from base (v * base_of base + digit_value base b) s) None
    (λ d. rw e (value_width base s (v * base_of base + digit_value base b) (suc i)
    (omega (arith, pow-suc 16 i, scaled base v (16 ^ i) (digit_value base b) h (digit_small base b)))))
    (above_0 (i + suc (length s)))

from_cond : (t : Bool) (o : Option ℕ) {n : ℕ} → cond t o None ≡ Some n → (t ≡ true) × (o ≡ Some n)
from_cond true o e = (refl, e)
from_cond false o e = cc

number_width : (form : Numeral) (s : List ℕ) {n : ℕ} → number_of form s ≡ Some n → (width_allowed form (length s) ≡ true) × (n < 16 ^ length s)
unfolding number_of Below
number_width form s {n} e =
    let both = from_cond (width_allowed form (length s)) (value_from form.base 0 s) e in
    let z : 0 + length s ≡ length s = omega arith in
    let below : unwrap_or (value_from form.base 0 s) 0 < 16 ^ (0 + length s) = value_width form.base s 0 0 (omega arith) in
    let value : unwrap_or (value_from form.base 0 s) 0 ≡ n = ap (λ (o : Option ℕ). unwrap_or o 0) both.1 in
    (both.0, subst (λ (m : ℕ). m < 16 ^ length s) value (subst (λ (m : ℕ). unwrap_or (value_from form.base 0 s) 0 < 16 ^ m) z below))

powers_small : ℕ → Bool
powers_small i = leb (16 ^ i) 4294967296

-- a number is below 2^32
pub number_small : (form : Numeral) (s : List ℕ) {n : ℕ} → number_of form s ≡ Some n → n < 4294967296
unfolding powers_small
number_small form s e =
    let w = number_width form s e in
    let all : 16 ^ length s ≤ 4294967296 = leb→le _ _ (all_at 9 powers_small tt (length s) (omega (arith, width_most form (length s) w.0))) in
    omega (arith, w.1)

thousands : ℕ → Bool
thousands i = leb (16 ^ i) 4096

-- a number of at most three digits is below 1000h
pub code_small : (base : Base) (s : List ℕ) {n : ℕ} → number_of (record { base = base; least = 3; most = 3 }) s ≡ Some n → n < 4096
unfolding width_allowed thousands
code_small base s e =
    let w = number_width (record { base = base; least = 3; most = 3 }) s e in
    let three : length s ≤ 3 = leb-true (length s) 3 (both_right (leb 3 (length s)) (leb (length s) 3) (both_left (leb 3 (length s) && leb (length s) 3) (leb (length s) 8) w.0)) in
    let all : 16 ^ length s ≤ 4096 = leb→le _ _ (all_at 4 thousands tt (length s) (omega arith)) in
    omega (arith, w.1)

-- ---- the loop over the digits

module _ (base : Base) (v : ℕ) (s : List ℕ) (i : ℕ) where
  from : i < length s → value_from base v (drop i s)
      ≡ cond (is_digit base (get_or s i 0)) (value_from base (v * base_of base + digit_value base (get_or s i 0)) (drop (suc i) s)) None
  unfolding value_from
  from h = ap (value_from base v) (drop-cons s i 0 h)

  pub value_passes : {d : ℕ} → i < length s → digit_of base (get_or s i 0) ≡ Some d
      → value_from base v (drop i s) ≡ value_from base (v * base_of base + d) (drop (i + 1) s)
  value_passes h e =
      rw add-one (from h ∙ ap (λ (o : Option ℕ). cond (is_some o) (value_from base (v * base_of base + unwrap_or o 0) (drop (suc i) s)) None) e)

  pub value_stops : i < length s → digit_of base (get_or s i 0) ≡ None → value_from base v (drop i s) ≡ None
  value_stops h e =
      from h ∙ ap (λ (o : Option ℕ). cond (is_some o) (value_from base (v * base_of base + unwrap_or o 0) (drop (suc i) s)) None) e

  pub value_ends : length s ≤ i → value_from base v (drop i s) ≡ Some v
  unfolding value_from
  value_ends h = ap (value_from base v) (drop_of_length-le s h)

-- the number so far with one digit more fits, and is below the next power of 16
pub number_more : (base : Base) (v i d : ℕ) → v < 16 ^ i → i < 8 → d < 16 → v * base_of base + d < 4294967296
number_more base v i d h k l = omega (arith, scaled base v (16 ^ i) d h l, power_most i k)

pub power_more : (base : Base) (v i d : ℕ) → v < 16 ^ i → d < 16 → v * base_of base + d < 16 ^ (i + 1)
power_more base v i d h l = rw add-one (omega (arith, pow-suc 16 i, scaled base v (16 ^ i) d h l))

pub some_small : (base : Base) (b : ℕ) {d : ℕ} → digit_of base b ≡ Some d → d < 16
some_small base b e = omega (arith, digit_small base b, ap (λ (o : Option ℕ). unwrap_or o 0) e)
