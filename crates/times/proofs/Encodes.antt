-- The encoder gives the code that 02 asks for: `encodes`.
use mathlib.Core.Path.{◌≡◌, refl, sym, ap, ◌∙◌, subst}
use mathlib.Core.Bool.{Bool, true, false, cond, ◌&&◌, true≢false}
use Prim.Native.Nat.{ℕ, ◌+◌, ◌-◌, ◌*◌, ◌/◌, ◌≤◌, ◌<◌}
use native.Mathlib.Nat.{mul_assoc, mul-le-mul_right, mul-lt-mul_of_pos_right, le_antisymm}
use native.Mathlib.Omega.{arith}
use lib.Dec.{T, leb, ltb, eqb, eqb→eq, ltb→lt}
use borrow.Author.Tests.{leb-true, leb-false, le-leb, eq-eqb}
use Rattle.bits.proofs.Tests.{all_at, and_left, and_right}
use Rattle.times.specs.declared.Code.{Code}
use Rattle.times.specs.declared.Nanos.{Nanos}
use Rattle.std.specs.Prelude.{Option, Some, None}
use Rattle.times.specs.Codes.{power_of, nanos_of, allowed, value_of, scale_of, greatest_time}
use Rattle.times.specs.Encoder.{rounded_up, fits_at, code_of, first_from, encoded, starts_scale, next_lower}
use Rattle.times.specs.Encodes.{Lowest, LeastCovering, NextSmaller, Encodes}
use Rattle.times.proofs.Laws.{allowed_most}
use Rattle.times.proofs.Scales.{First, first, nowhere, power_pos, power_split, up_covers, up_least, value_most, fit_value, covered_fits, time_at, allowed_at}

-- ---- the code that is given

module _ (t : Nanos) (c : Code) (e : encoded t ≡ Some c) where
  chosen : First 6 0 t.0 c
  unfolding encoded
  chosen = first 6 0 t.0 c e

  scale_low : chosen.scale < 6
  scale_low = omega (arith, chosen.high)

  time_is : (nanos_of c).0 ≡ rounded_up t.0 (power_of chosen.scale) * power_of chosen.scale
  time_is = ap (λ (x : Code). (nanos_of x).0) chosen.is ∙ time_at t.0 chosen.scale scale_low chosen.fit

  is_allowed_lem : allowed c ≡ true
  is_allowed_lem = ap allowed chosen.is ∙ allowed_at t.0 chosen.scale scale_low chosen.fit

  covers : t.0 ≤ (nanos_of c).0
  covers = omega (arith, time_is, up_covers t.0 (power_of chosen.scale) (power_pos chosen.scale))

  -- an allowed code that covers the time has no lower scale
  not_lower : (d : Code) → allowed d ≡ true → t.0 ≤ (nanos_of d).0 → chosen.scale ≤ scale_of d
  not_lower d a h = by (leb chosen.scale (scale_of d)) refl
    where
      by : (b : Bool) → leb chosen.scale (scale_of d) ≡ b → chosen.scale ≤ scale_of d
      by true p = leb-true _ _ p
      by false p =
          let f : fits_at t.0 (scale_of d) ≡ false = chosen.earlier (scale_of d) (omega arith) (leb-false chosen.scale (scale_of d) p) in
          let y : fits_at t.0 (scale_of d) ≡ true = covered_fits t.0 d a h in
          let z : ◌≡◌ {A = ℕ} 0 1 = cc in
          absurd (omega arith)

  least : (d : Code) → allowed d ≡ true → t.0 ≤ (nanos_of d).0 → (nanos_of c).0 ≤ (nanos_of d).0
  unfolding nanos_of
  least d a h =
      let s = chosen.scale in
      let r = scale_of d in
      let split : value_of d * power_of r ≡ value_of d * power_of (r - s) * power_of s =
      ap (λ (x : ℕ). value_of d * x) (power_split s r (not_lower d a h)) ∙ sym (mul_assoc (value_of d) (power_of (r - s)) (power_of s)) in
      let up : rounded_up t.0 (power_of s) ≤ value_of d * power_of (r - s) =
      up_least t.0 (value_of d * power_of (r - s)) (power_of s) (power_pos s) (omega (arith, split)) in
      omega (arith, time_is, split, mul-le-mul_right (power_of s) up)

  lowest : Lowest c
  unfolding nanos_of code_of allowed
  lowest d l same =
      let s = chosen.scale in
      let v = rounded_up t.0 (power_of s) in
      let v_most : v ≤ 511 = omega (arith, fit_value t.0 s chosen.fit, value_most s scale_low) in
      let number : c.0 ≡ v + 512 * s = ap (λ (x : Code). x.0) chosen.is in
      let below : d.0 ≤ 2590 = omega (arith, leb-true c.0 2590 is_allowed_lem) in
      let above : s ≤ scale_of d = not_lower d (le-leb d.0 2590 below) (omega (arith, covers)) in
      let scale : scale_of d ≡ s = omega (arith, scale_low) in
      let value : value_of d < v = omega (arith, scale_low) in
      let time : (nanos_of d).0 ≡ value_of d * power_of s = ap (λ (x : ℕ). value_of d * power_of x) scale in
      omega (arith, time_is, time, mul-lt-mul_of_pos_right value (power_pos s))

  given : LeastCovering t c
  given = record { is_allowed = is_allowed_lem; covers = covers; least = least; lowest = lowest }

-- ---- when there is one

none_above : (t : Nanos) → encoded t ≡ None → greatest_time < t.0
unfolding encoded fits_at power_of rounded_up
none_above t e =
    let f : fits_at t.0 5 ≡ false = nowhere 6 0 t.0 e 5 (omega arith) (omega arith) in
    omega (arith, leb-false ((t.0 + 33554431) / 33554432) 30 f)

some : (t : Nanos) → t.0 ≤ greatest_time → (c : Code) × (encoded t ≡ Some c)
some t h = by (encoded t) refl
  where
    by : (x : Option Code) → encoded t ≡ x → (c : Code) × (encoded t ≡ Some c)
    by (Some c) e = (c, e)
    by None e = absurd (omega (arith, none_above t e))

pub none : (t : Nanos) → greatest_time < t.0 → encoded t ≡ None
none t h = by (encoded t) refl
  where
    by : (x : Option Code) → encoded t ≡ x → encoded t ≡ None
    by (Some c) e = absurd (omega (arith, covers t c e, allowed_most c (is_allowed_lem t c e)))
    by None e = e

-- ---- there is one such code

-- of two codes with one time the lowest is no higher
no_higher : (c d : Code) → Lowest c → (nanos_of d).0 ≡ (nanos_of c).0 → c.0 ≤ d.0
no_higher c d low same = by (leb c.0 d.0) refl
  where
    by : (b : Bool) → leb c.0 d.0 ≡ b → c.0 ≤ d.0
    by true e = leb-true _ _ e
    by false e = absurd (low d (leb-false c.0 d.0 e) same)

same_code : (t : Nanos) (c d : Code) → LeastCovering t c → LeastCovering t d → c ≡ d
same_code t c d l m =
    let time : (nanos_of c).0 ≡ (nanos_of d).0 = le_antisymm (l.least d m.is_allowed m.covers) (m.least c l.is_allowed l.covers) in
    let number : c.0 ≡ d.0 = le_antisymm (no_higher c d l.lowest (sym time)) (no_higher d c m.lowest time) in
    λ i. record { 0 = number i }

only : (t : Nanos) (c : Code) → LeastCovering t c → encoded t ≡ Some c
only t c l = by (encoded t) refl
  where
    by : (x : Option Code) → encoded t ≡ x → encoded t ≡ Some c
    by (Some d) e = e ∙ ap Some (same_code t d c (given t d e) l)
    by None e = absurd (omega (arith, none_above t e, l.covers, allowed_most c l.is_allowed))

-- a code that is given is given for its own time
again : (t : Nanos) (c : Code) → encoded t ≡ Some c → encoded (nanos_of c) ≡ Some c
again t c e =
    let l = given t c e in
    only (nanos_of c) c (record { is_allowed = l.is_allowed; covers = omega arith; least = λ d a h. h; lowest = l.lowest })

-- ---- the next lower code

-- whether this time is given the code of this number
is_code : ℕ → Option Code → Bool
is_code n (Some c) = eqb c.0 n
is_code n None = false

gives : (t n : ℕ) → Bool
gives t n = is_code n (encoded (record { 0 = t }))

gives-code : (t n : ℕ) → T (gives t n) → encoded (record { 0 = t }) ≡ Some (record { 0 = n })
unfolding gives is_code
gives-code t n = by (encoded (record { 0 = t }))
  where
    by : (x : Option Code) → T (is_code n x) → x ≡ Some (record { 0 = n })
    by (Some c) h = let e : c.0 ≡ n = eqb→eq c.0 n h in λ i. Some (record { 0 = e i })
    by None h = absurd h

-- the next lower code of the code n of time t: it is given for its own time, and a nanosecond more is given n
is_lower : (t n : ℕ) → Option Code → Bool
is_lower t n (Some d) = ltb (nanos_of d).0 t && (gives (nanos_of d).0 d.0 && gives ((nanos_of d).0 + 1) n)
is_lower t n None = eqb t 0

lower_right : Code → Bool
lower_right c = cond (gives (nanos_of c).0 c.0) (is_lower (nanos_of c).0 c.0 (next_lower c)) true

-- computed for each allowed code
all_lower : (c : Code) → allowed c ≡ true → T (lower_right c)
unfolding allowed lower_right is_lower gives is_code next_lower starts_scale encoded first_from fits_at code_of rounded_up nanos_of power_of
all_lower c a = all_at 2591 (λ n. lower_right (record { 0 = n })) tt c.0 (omega (arith, leb-true c.0 2590 a))

module _ (t : Nanos) (c : Code) (e : encoded t ≡ Some c) where
  lower_right_lem : T (is_lower (nanos_of c).0 c.0 (next_lower c))
  unfolding lower_right gives is_code
  lower_right_lem = by (gives (nanos_of c).0 c.0) (ap (is_code c.0) (again t c e) ∙ eq-eqb c.0 c.0 refl) (all_lower c (is_allowed_lem t c e))
    where
      by : (b : Bool) → b ≡ true → T (cond b (is_lower (nanos_of c).0 c.0 (next_lower c)) true) → T (is_lower (nanos_of c).0 c.0 (next_lower c))
      by true p h = h
      by false p h = absurd (true≢false (sym p))

  lower_none_lem : next_lower c ≡ None → (nanos_of c).0 ≡ 0
  unfolding is_lower
  lower_none_lem k = eqb→eq (nanos_of c).0 0 (subst (λ (x : Option Code). T (is_lower (nanos_of c).0 c.0 x)) k lower_right_lem)

  lower_is_lem : (d : Code) → next_lower c ≡ Some d → NextSmaller c d
  unfolding is_lower
  lower_is_lem d k =
      let time = (nanos_of d).0 in
      let h : T (is_lower (nanos_of c).0 c.0 (Some d)) = subst (λ (x : Option Code). T (is_lower (nanos_of c).0 c.0 x)) k lower_right_lem in
      let both : T (gives time d.0 && gives (time + 1) c.0) = and_right (ltb time (nanos_of c).0) (gives time d.0 && gives (time + 1) c.0) h in
      let own = given (nanos_of d) d (gives-code time d.0 (and_left (gives time d.0) (gives (time + 1) c.0) both)) in
      let more = given (record { 0 = time + 1 }) c (gives-code (time + 1) c.0 (and_right (gives time d.0) (gives (time + 1) c.0) both)) in
      record {
        is_allowed = own.is_allowed;
        smaller = ltb→lt time (nanos_of c).0 (and_left (ltb time (nanos_of c).0) (gives time d.0 && gives (time + 1) c.0) h);
        next = λ x a l. between x a l more;
        lowest = own.lowest;
      }
    where
      between : (x : Code) → allowed x ≡ true → (nanos_of x).0 < (nanos_of c).0 → LeastCovering (record { 0 = (nanos_of d).0 + 1 }) c → (nanos_of x).0 ≤ (nanos_of d).0
      between x a l m = by (leb (nanos_of x).0 (nanos_of d).0) refl
        where
          by : (b : Bool) → leb (nanos_of x).0 (nanos_of d).0 ≡ b → (nanos_of x).0 ≤ (nanos_of d).0
          by true p = leb-true _ _ p
          by false p = absurd (omega (arith, m.least x a (omega (arith, leb-false (nanos_of x).0 (nanos_of d).0 p))))

-- ---- all of it

pub encodes : Encodes
encodes =
    record {
      given = given;
      only = only;
      some = some;
      none = none;
      none_above = none_above;
      comes_back = λ d c a e. le_antisymm (least (nanos_of d) c e d a (omega arith)) (covers (nanos_of d) c e);
      monotone = λ t u c d h e k. least t c e d (is_allowed_lem u d k) (omega (arith, covers u d k));
      lower_is = λ t c d e k. lower_is_lem t c e d k;
      lower_none = λ t c e k. lower_none_lem t c e k;
    }
