-- Digits read one by one, how far they reach, and a number with the space after it.
use mathlib.Core.Path.{◌≡◌, refl, sym, ap, ◌∙◌}
use mathlib.Core.Bool.{Bool, true, false, ◌&&◌, cond, false≢true}
use mathlib.Core.List.{List, [], ◌∷◌}
use Prim.Native.Nat.{ℕ, zero, suc, ◌+◌, ◌-◌, ◌*◌, ◌^◌, ◌≤◌, ◌<◌}
use native.Mathlib.Nat.{pow-suc}
use native.Mathlib.Numerals.{add-one}
use native.Mathlib.Omega.{arith}
use lib.Dec.{leb, ltb, eqb, leb→le}
use lib.ListN.{length, get_or, drop, length-drop, drop_of_length-le, get_or-eq_default}
use lib.Seq.{drop-cons}
use borrow.Author.Tests.{leb-true, leb-false, ltb-true, ltb-false, eqb-true}
use Rattle.bits.proofs.Choices.{either_way}
use Rattle.bits.proofs.Tests.{all_at, both_right, split}
use Rattle.std.specs.Prelude.{Option, Some, None, is_some, unwrap_or}
use Rattle.text_fields.specs.declared.Base.TheVariants.{Decimal}
use Rattle.text_fields.specs.Text.{digit_of}
use Rattle.sheet_grammar.specs.declared.Digits.{Digits}
use Rattle.sheet_grammar.specs.declared.NumberRead.{NumberRead}
use Rattle.sheet_grammar.specs.Layout.{is_digit, digit_value, space, byte_at, digits_from, digits_at, number_fits, next_place, number_up_to}

-- so many digits, which are such a number
abbrev pub counted : (count number : ℕ) → Digits
counted count number = record { count = count; number = number }

-- ---- one digit more

and_rest : (a b : Bool) → a ≡ true → (a && b) ≡ false → b ≡ false
and_rest true b k e = e
and_rest false b k e = absurd (false≢true k)

none : (more count number : ℕ) → digits_from more count number [] ≡ counted count number
unfolding digits_from
none zero count number = refl
none (suc more) count number = refl

module _ (s : List ℕ) (most i count number : ℕ) where
  from : i < length s → count ≤ most → digits_from (suc most - count) count number (drop i s)
      ≡ cond (is_digit (get_or s i 0)) (digits_from (most - count) (suc count) (number * 10 + digit_value (get_or s i 0)) (drop (suc i) s)) (counted count number)
  unfolding digits_from
  from h k =
      let e : suc most - count ≡ suc (most - count) = omega arith in
      ap (λ (m : ℕ). digits_from m count number (drop i s)) e ∙ ap (digits_from (suc (most - count)) count number) (drop-cons s i 0 h)

  full : most < count → digits_from (suc most - count) count number (drop i s) ≡ counted count number
  unfolding digits_from
  full k = let e : suc most - count ≡ zero = omega arith in ap (λ (m : ℕ). digits_from m count number (drop i s)) e

  -- a digit
  pub digit_passes : {d : ℕ} → i < length s → count ≤ most → digit_of Decimal (get_or s i 0) ≡ Some d → digits_from (suc most - count) count number (drop i s)
      ≡ digits_from (suc most - (count + 1)) (count + 1) (number * 10 + d) (drop (i + 1) s)
  digit_passes {d} h k is =
      let e : most - count ≡ suc most - suc count = omega arith in
      rw (add-one count, add-one i)
      (from h k
      ∙ ap (λ (o : Option ℕ). cond (is_some o) (digits_from (most - count) (suc count) (number * 10 + unwrap_or o 0) (drop (suc i) s)) (counted count number)) is
      ∙ ap (λ (m : ℕ). digits_from m (suc count) (number * 10 + d) (drop (suc i) s)) e)

  -- all digits that there may be, or a byte that is none
  pub digits_full : most < count → counted count number ≡ digits_from (suc most - count) count number (drop i s)
  digits_full k = sym (full k)

  pub digit_stops : i < length s → digit_of Decimal (get_or s i 0) ≡ None → counted count number ≡ digits_from (suc most - count) count number (drop i s)
  digit_stops h e =
      sym
      (split (leb count most)
      (λ k.
      from h (leb-true count most k)
      ∙ ap (λ (o : Option ℕ). cond (is_some o) (digits_from (most - count) (suc count) (number * 10 + unwrap_or o 0) (drop (suc i) s)) (counted count number)) e)
      (λ k. full (leb-false count most k)))

  -- the end
  pub digits_end : length s ≤ i → counted count number ≡ digits_from (suc most - count) count number (drop i s)
  digits_end h = sym (ap (digits_from (suc most - count) count number) (drop_of_length-le s h) ∙ none (suc most - count) count number)

-- ---- the number has room

powers : ℕ → Bool
powers i = leb (10 ^ i) 10000000000000000

power_most : (i : ℕ) → i < 17 → 10 ^ i ≤ 10000000000000000
unfolding powers
power_most i h = leb→le _ _ (all_at 17 powers tt i h)

-- a number of i digits, each below 16
abbrev pub Digits-below : (number i : ℕ) → Type 0
Digits-below number i = number * 9 + 15 ≤ 15 * 10 ^ i

pub number-room : (v i d : ℕ) → Digits-below v i → i ≤ 16 → d < 16 → v * 10 + d < 1000000000000000000
number-room v i d h k l = omega (arith, h, power_most i (omega arith))

pub number_more : (v i d : ℕ) → Digits-below v i → d < 16 → Digits-below (v * 10 + d) (i + 1)
number_more v i d h l = rw (add-one i) (omega (arith, h, pow-suc 10 i))

-- ---- how far digits reach

digits_most : (more count number : ℕ) (s : List ℕ) → (digits_from more count number s).count ≤ count + length s
unfolding digits_from
digits_most zero count number s = omega arith
digits_most (suc more) count number [] = omega arith
digits_most (suc more) count number (b ∷ s) =
    either_way (λ (d : Digits). d.count ≤ count + suc (length s)) (is_digit b) _ _
    (λ e. omega (arith, digits_most more (suc count) (number * 10 + digit_value b) s)) (λ e. omega arith)

-- not past what the place and the text's end are below
pub digits_within : (limit most at : ℕ) (s : List ℕ) → at ≤ most → length s ≤ most → at + (digits_at limit at s).count ≤ most
digits_within limit most at s h k = omega (arith, digits_most (suc limit) 0 0 (drop at s), length-drop at s)

-- a byte other than 0 stands in the text
pub byte_below : (s : List ℕ) (i : ℕ) → 1 ≤ get_or s i 0 → i < length s
byte_below s i h =
    split (ltb i (length s)) (ltb-true i (length s))
    (λ t. let z : get_or s i 0 ≡ 0 = get_or-eq_default s 0 (ltb-false i (length s) t) in absurd (omega arith))

-- ---- a number

-- with the space after it, or without
number_with : (most at : ℕ) → Digits → Bool → NumberRead
number_with most at d fits = record { fits = fits; number = d.number; next = next_place most at d.count fits }

number_by : (most at : ℕ) (s : List ℕ) → Digits → NumberRead
number_by most at s d = number_with most at d (number_fits most d.count (byte_at (at + d.count) s))

module _ (most at : ℕ) (s : List ℕ) (d : Digits) (is : d ≡ digits_at most at s) {b : ℕ} {fits : Bool} (byte : b ≡ byte_at (at + d.count) s) (tested : fits ≡ number_fits most d.count b) where
  by : number_with most at d fits ≡ number_up_to most at s
  unfolding number_up_to number_by number_with
  by = ap (number_with most at d) (tested ∙ ap (number_fits most d.count) byte) ∙ ap (number_by most at s) is

  pub number_fits_lem : fits ≡ true → record { fits = true; number = d.number; next = at + d.count + 1 } ≡ number_up_to most at s
  unfolding number_with next_place
  number_fits_lem e = rw (add-one (at + d.count)) (ap (number_with most at d) (sym e) ∙ by)

  pub number_departs : fits ≡ false → {next : ℕ} → next ≡ next_place most at d.count false → record { fits = false; number = d.number; next = next } ≡ number_up_to most at s
  unfolding number_with
  number_departs e f = ap (λ (n : ℕ). record { fits = false; number = d.number; next = n }) f ∙ ap (number_with most at d) (sym e) ∙ by

  -- after a number that fits there is a byte
  pub space_below : fits ≡ true → at + d.count < length s
  unfolding number_fits
  space_below e =
      let t : (leb 1 d.count && leb d.count most && eqb b space) ≡ true = sym tested ∙ e in
      let is_space : b ≡ space = eqb-true b space (both_right (leb 1 d.count && leb d.count most) (eqb b space) t) in
      byte_below s (at + d.count) (omega (arith, byte, is_space))
