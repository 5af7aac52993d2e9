-- Numbers in groups of three digits: the digits without the commas.
use Prim.Native.Nat.{ℕ, zero, suc, ◌+◌, ◌*◌, ◌/◌, ◌%◌, ◌^◌, ◌≤◌, ◌<◌}
use mathlib.Core.Path.{◌≡◌, refl, ap, ap₂, sym, ◌∙◌}
use mathlib.Core.Bool.{Bool, true, false, cond}
use mathlib.Core.List.{List, [], ◌∷◌, ◌++◌, append-nil, append_assoc}
use native.Mathlib.Omega.{arith}
use native.Mathlib.Nat.{div-div-eq-div-mul, div-lt_iff_lt-mul, pow-suc}
use borrow.Author.Tests.{le-ltb, ltb-true, ltb-false, ne_eqb}
use lib.Dec.{eqb, ltb}
use Rattle.bits.specs.Text.{chars}
use Rattle.text_line.specs.Text.{glyph_of, decimal_from, decimal_of, three_of, grouped_from, grouped_of, without_commas}

-- ---- without commas

plain_append : (a b : List ℕ) → without_commas (a ++ b) ≡ without_commas a ++ without_commas b
unfolding without_commas
plain_append [] b = refl
plain_append (c ∷ a) b = by (plain_append a b) (eqb c 0x2C)
  where
    by : without_commas (a ++ b) ≡ without_commas a ++ without_commas b → (t : Bool) → cond t (without_commas (a ++ b)) (c ∷ without_commas (a ++ b)) ≡ cond t (without_commas a) (c ∷ without_commas a) ++ without_commas b
    by so true = so
    by so false = ap (λ (l : List ℕ). c ∷ l) so

no_comma : (n : ℕ) → eqb (glyph_of n) 0x2C ≡ false
unfolding glyph_of
no_comma n = by (ltb n 10) (ltb n 16)
  where
    by : (s t : Bool) → eqb (cond s (0x30 + n) (cond t (0x37 + n) 0x3F)) 0x2C ≡ false
    by true t = ne_eqb (0x30 + n) 0x2C (λ e. omega arith)
    by false true = ne_eqb (0x37 + n) 0x2C (λ e. omega arith)
    by false false = refl

plain_glyph : (n : ℕ) (l : List ℕ) → without_commas (glyph_of n ∷ l) ≡ glyph_of n ∷ without_commas l
unfolding without_commas
plain_glyph n l = rw (no_comma n) refl

plain_three : (n : ℕ) → without_commas (three_of n) ≡ three_of n
unfolding three_of without_commas
plain_three n = rw (no_comma (n / 100 % 10), no_comma (n / 10 % 10), no_comma (n % 10)) refl

plain_decimal : (most n : ℕ) → without_commas (decimal_from most n) ≡ decimal_from most n
unfolding decimal_from without_commas
plain_decimal zero n = refl
plain_decimal (suc most) n = by (plain_decimal most (n / 10)) (ltb n 10)
  where
    by : without_commas (decimal_from most (n / 10)) ≡ decimal_from most (n / 10) → (t : Bool)
        → without_commas (cond t (glyph_of n ∷ []) (decimal_from most (n / 10) ++ (glyph_of (n % 10) ∷ [])))
        ≡ cond t (glyph_of n ∷ []) (decimal_from most (n / 10) ++ (glyph_of (n % 10) ∷ []))
    by so true = plain_glyph n []
    by so false =
        plain_append (decimal_from most (n / 10)) (glyph_of (n % 10) ∷ [])
        ∙ ap₂ (λ (l m : List ℕ). l ++ m) so (plain_glyph (n % 10) [])

-- the decimal form has the last three digits behind the others
decimal_three : (most n : ℕ) → 1000 ≤ n → decimal_from (suc (suc (suc most))) n ≡ decimal_from most (n / 1000) ++ three_of n
unfolding decimal_from three_of
decimal_three most n h =
    let a : 10 ≤ n = omega arith in
    let b : 10 ≤ n / 10 = omega arith in
    let c : 10 ≤ n / 100 = omega arith in
    let l = decimal_from most (n / 1000) in
    let d = glyph_of (n / 100 % 10) in
    let e = glyph_of (n / 10 % 10) in
    let f = glyph_of (n % 10) in
    rw (le-ltb n 10 a, le-ltb (n / 10) 10 b, div-div-eq-div-mul n 10 10, le-ltb (n / 100) 10 c, div-div-eq-div-mul n 100 10)
    (ap (λ (m : List ℕ). m ++ (f ∷ [])) (append_assoc l (d ∷ []) (e ∷ [])) ∙ append_assoc l (d ∷ e ∷ []) (f ∷ []))

by_ten : (a b n : ℕ) → n < 10 ^ suc a → a ≤ b → (t : Bool) → ltb n 10 ≡ t
    → ((x y : ℕ) → a ≡ suc x → b ≡ suc y → n / 10 < 10 ^ suc x → decimal_from (suc x) (n / 10) ≡ decimal_from (suc y) (n / 10))
    → decimal_from (suc a) n ≡ decimal_from (suc b) n
unfolding decimal_from
by_ten a b n h le true e f = rw e refl
by_ten zero b n h le false e f = absurd (omega (arith, ltb-false n 10 e))
by_ten (suc a) zero n h le false e f = absurd (omega arith)
by_ten (suc a) (suc b) n h le false e f =
    let g : n < 10 ^ suc a * 10 = rw (pow-suc 10 (suc a)) at h in
    rw e
    (ap (λ (l : List ℕ). l ++ (glyph_of (n % 10) ∷ []))
    (f a b refl refl ((div-lt_iff_lt-mul {k = 10} {x = n} {y = 10 ^ suc a} (omega arith)).1 g)))

-- it is the same for any number of digits that is enough
enough : (a b n : ℕ) → n < 10 ^ suc a → a ≤ b → decimal_from (suc a) n ≡ decimal_from (suc b) n
enough zero b n h le = by_ten zero b n h le (ltb n 10) refl (λ x y p. absurd (omega arith))
enough (suc a) b n h le =
    by_ten (suc a) b n h le (ltb n 10) refl
    (λ x y p q h'.
    let i : x ≡ a = omega arith in
    rw i (enough a y (n / 10) (rw i at h') (omega arith)))

abbrev thrice : ℕ → ℕ
thrice zero = 0
thrice (suc most) = suc (suc (suc (thrice most)))

module _ (most n : ℕ) where
  small : n < 1000 → decimal_of n ≡ decimal_from (thrice (suc most)) n
  small h = sym (enough 2 19 n (omega arith) (omega arith)) ∙ enough 2 (suc (suc (thrice most))) n (omega arith) (omega arith)

  by_thousand : without_commas (grouped_from most (n / 1000)) ≡ decimal_from (thrice most) (n / 1000) → (t : Bool) → ltb n 1000 ≡ t
      → without_commas (grouped_from (suc most) n) ≡ decimal_from (thrice (suc most)) n
  unfolding grouped_from without_commas
  by_thousand so true e = rw e (plain_decimal 20 n ∙ small (ltb-true n 1000 e))
  by_thousand so false e =
      let l = grouped_from most (n / 1000) in
      rw e
      (plain_append (l ++ chars ",") (three_of n)
      ∙ ap₂ (λ (a b : List ℕ). a ++ b) (plain_append l (chars ",") ∙ append-nil (without_commas l) ∙ so) (plain_three n)
      ∙ sym (decimal_three (thrice most) n (ltb-false n 1000 e)))

plain_groups : (most n : ℕ) → without_commas (grouped_from most n) ≡ decimal_from (thrice most) n
unfolding grouped_from without_commas decimal_from
plain_groups zero n = refl
plain_groups (suc most) n = by_thousand most n (plain_groups most (n / 1000)) (ltb n 1000) refl

-- the commas taken away, a number in groups is the number in decimal
pub grouped_plain : (n : ℕ) → n < 2 ^ 64 → without_commas (grouped_of n) ≡ decimal_of n
grouped_plain n h = plain_groups 7 n ∙ sym (enough 19 20 n (omega arith) (omega arith))
