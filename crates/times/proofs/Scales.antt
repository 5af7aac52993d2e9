-- Rounding up, the first scale at which a time fits, and the codes there.
use mathlib.Core.Path.{◌≡◌, refl, sym, ap, ◌∙◌}
use mathlib.Core.Bool.{Bool, true, false, cond}
use mathlib.Core.Logic.{⊎_elim}
use Prim.Native.Nat.{ℕ, zero, suc, ◌+◌, ◌-◌, ◌*◌, ◌/◌, ◌%◌, ◌^◌, ◌≤◌, ◌<◌}
use native.Mathlib.Nat.{div-lt_iff_lt-mul, div-add-mod', mod-lt, one-le-pow, suc-mul, eq-or-lt_of_le, add-mul-mod_self_left, add-mul-div_left, mod-eq_of_lt}
use native.Mathlib.Omega.{arith}
use lib.Dec.{leb, lit<, leb→le}
use lib.Pow.{pow-add}
use borrow.Author.Tests.{leb-true, le-leb}
use Rattle.bits.proofs.Tests.{all_at}
use Rattle.times.specs.declared.Code.{Code}
use Rattle.std.specs.Prelude.{Some, None}
use Rattle.times.specs.Codes.{power_of, nanos_of, allowed, value_of, scale_of}
use Rattle.times.specs.Encoder.{rounded_up, greatest_value, fits_at, code_of, code_at, first_from}

-- ---- rounding up

pub power_pos : (s : ℕ) → 0 < power_of s
unfolding power_of
power_pos s = one-le-pow s 32 (lit< tt)

pub power_low : (s : ℕ) → s < 6 → power_of s ≤ 33554432
unfolding power_of
power_low s h = leb→le _ _ (all_at 6 (λ n. leb (power_of n) 33554432) tt s h)

-- so many times the factor cover t
pub up_covers : (t f : ℕ) → 0 < f → t ≤ rounded_up t f * f
unfolding rounded_up
up_covers t f h = omega (arith, div-add-mod' (t + (f - 1)) f, mod-lt (t + (f - 1)) h)

-- and no fewer
pub up_least : (t v f : ℕ) → 0 < f → t ≤ v * f → rounded_up t f ≤ v
unfolding rounded_up
up_least t v f h k =
    let less : (t + (f - 1)) / f < suc v = (div-lt_iff_lt-mul h).1 (omega (arith, suc-mul v f)) in
    omega arith

-- a higher power is a multiple of a lower one
pub power_split : (s r : ℕ) → s ≤ r → power_of r ≡ power_of (r - s) * power_of s
unfolding power_of
power_split s r h = let e : r ≡ (r - s) + s = omega arith in ap (λ (k : ℕ). 32 ^ k) e ∙ pow-add 32 (r - s) s

-- ---- the first scale at which a time fits

pub record First (n s t : ℕ) (c : Code) : Type 0 where
  pub scale : ℕ
  pub low : s ≤ scale
  pub high : scale < s + n
  pub fit : fits_at t scale ≡ true
  pub is : c ≡ code_at t scale
  pub earlier : (k : ℕ) → s ≤ k → k < scale → fits_at t k ≡ false

module _ (n s t : ℕ) (c : Code) where
  later : fits_at t s ≡ false → First n (suc s) t c → First (suc n) s t c
  later no-fit f =
      record {
        scale = f.scale;
        low = omega (arith, f.low);
        high = omega (arith, f.high);
        fit = f.fit;
        is = f.is;
        earlier = λ k l h. ⊎_elim (λ (d : s ≡ k). ap (fits_at t) (sym d) ∙ no-fit) (λ (m : s < k). f.earlier k m h) (eq-or-lt_of_le l);
      }

  first_by : (first_from n (suc s) t ≡ Some c → First n (suc s) t c) → (b : Bool) → fits_at t s ≡ b → cond b (Some (code_at t s)) (first_from n (suc s) t) ≡ Some c
      → First (suc n) s t c
  first_by f true p q =
      record { scale = s; low = omega arith; high = omega arith; fit = p; is = cc; earlier = λ k l h. absurd (omega arith) }
  first_by f false p q = later p (f q)

pub first : (n s t : ℕ) (c : Code) → first_from n s t ≡ Some c → First n s t c
unfolding first_from
first zero s t c e = let z : ◌≡◌ {A = ℕ} 0 1 = cc in absurd (omega arith)
first (suc n) s t c e = first_by n s t c (first n (suc s) t c) (fits_at t s) refl e

pub nowhere : (n s t : ℕ) → first_from n s t ≡ None → (k : ℕ) → s ≤ k → k < s + n → fits_at t k ≡ false
unfolding first_from
nowhere zero s t e k l h = absurd (omega arith)
nowhere (suc n) s t e k l h = by (nowhere n (suc s) t) (fits_at t s) refl e
  where
    by : (first_from n (suc s) t ≡ None → (k : ℕ) → suc s ≤ k → k < suc s + n → fits_at t k ≡ false) → (b : Bool) → fits_at t s ≡ b
        → cond b (Some (code_at t s)) (first_from n (suc s) t) ≡ None → fits_at t k ≡ false
    by f true p q = let z : ◌≡◌ {A = ℕ} 0 1 = cc in absurd (omega arith)
    by f false p q = ⊎_elim (λ (d : s ≡ k). ap (fits_at t) (sym d) ∙ p) (λ (m : s < k). f q k m (omega arith)) (eq-or-lt_of_le l)

-- ---- codes by value and scale

-- an allowed code's value
pub allowed_value : (c : Code) → allowed c ≡ true → value_of c ≤ greatest_value (scale_of c)
unfolding allowed
allowed_value c e =
    leb→le _ _
    (all_at 2591 (λ n. leb (value_of (record { 0 = n })) (greatest_value (scale_of (record { 0 = n })))) tt c.0 (omega (arith, leb-true c.0 2590 e)))

-- a time that an allowed code covers fits at that code's scale
pub covered_fits : (t : ℕ) (c : Code) → allowed c ≡ true → t ≤ (nanos_of c).0 → fits_at t (scale_of c) ≡ true
unfolding fits_at nanos_of
covered_fits t c a h =
    le-leb (rounded_up t (power_of (scale_of c))) (greatest_value (scale_of c))
    (omega (arith, up_least t (value_of c) (power_of (scale_of c)) (power_pos (scale_of c)) h, allowed_value c a))

pub value_most : (s : ℕ) → s < 6 → greatest_value s ≤ 511
value_most s h = leb→le _ _ (all_at 6 (λ n. leb (greatest_value n) 511) tt s h)

-- the greatest values are those of allowed codes
number_most : (s : ℕ) → s < 6 → greatest_value s + 512 * s ≤ 2590
number_most s h = leb→le _ _ (all_at 6 (λ n. leb (greatest_value n + 512 * n) 2590) tt s h)

pub fit_value : (t s : ℕ) → fits_at t s ≡ true → rounded_up t (power_of s) ≤ greatest_value s
unfolding fits_at
fit_value t s e = leb-true _ (greatest_value s) e

-- a value and a scale, taken out of a code's number again
value_out : (v s : ℕ) → v ≤ 511 → (v + 512 * s) % 512 ≡ v
value_out v s h = let l : v < 512 = omega arith in add-mul-mod_self_left v 512 s ∙ mod-eq_of_lt l

scale_out : (v s : ℕ) → v ≤ 511 → s < 6 → (v + 512 * s) / 512 % 8 ≡ s
scale_out v s h l =
    let q : (v + 512 * s) / 512 ≡ v / 512 + s = add-mul-div_left v s (lit< tt) in
    let z : v / 512 ≡ 0 = omega arith in
    let e : (v + 512 * s) / 512 ≡ s = omega (arith, q, z) in
    let m : s < 8 = omega arith in
    ap (λ (x : ℕ). x % 8) e ∙ mod-eq_of_lt m

-- the code of a value and a scale has this time
pub time_at : (t s : ℕ) → s < 6 → fits_at t s ≡ true → (nanos_of (code_at t s)).0 ≡ rounded_up t (power_of s) * power_of s
unfolding nanos_of code_of
time_at t s h e =
    let v : rounded_up t (power_of s) ≤ 511 = omega (arith, fit_value t s e, value_most s h) in
    ap (λ (x : ℕ). x * power_of ((rounded_up t (power_of s) + 512 * s) / 512 % 8)) (value_out (rounded_up t (power_of s)) s v)
    ∙ ap (λ (x : ℕ). rounded_up t (power_of s) * power_of x) (scale_out (rounded_up t (power_of s)) s v h)

-- and is allowed
pub allowed_at : (t s : ℕ) → s < 6 → fits_at t s ≡ true → allowed (code_at t s) ≡ true
unfolding allowed code_of
allowed_at t s h e = le-leb (rounded_up t (power_of s) + 512 * s) 2590 (omega (arith, fit_value t s e, number_most s h))
