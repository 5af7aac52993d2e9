-- From nanoseconds to a code (02, Q-1): the first scale at which the time, rounded up, has a value.
use Rattle.std.specs.Prelude.{ℕ, zero, suc, ◌+◌, ◌-◌, ◌*◌, ◌/◌, Bool, cond, ◌&&◌, leb, ltb, eqb, Option, Some, None}
use Rattle.times.specs.declared.Code.{Code}
use Rattle.times.specs.declared.Nanos.{Nanos}
use Rattle.times.specs.Codes.{value_of, scale_of, power_of}

-- a time divided by a factor, rounded up
unfoldable pub rounded_up : (t factor : ℕ) → ℕ
rounded_up t factor = (t + (factor - 1)) / factor

-- the greatest value of an allowed code: 511, and 30 at scale 5, since A1Eh is the greatest code
abbrev pub greatest_value : (scale : ℕ) → ℕ
greatest_value scale = cond (eqb scale 5) 30 511

-- the time, rounded up, has a value at this scale
unfoldable pub fits_at : (t scale : ℕ) → Bool
fits_at t scale = leb (rounded_up t (power_of scale)) (greatest_value scale)

-- the code of a value and a scale
unfoldable pub code_of : (value scale : ℕ) → Code
code_of value scale = record { 0 = value + 512 * scale }

-- the code of the time, rounded up, at this scale
abbrev pub code_at : (t scale : ℕ) → Code
code_at t scale = code_of (rounded_up t (power_of scale)) scale

-- the first of n scales, from this one on, at which the time fits
unfoldable pub first_from : (n scale t : ℕ) → Option Code
first_from zero scale t = None
first_from (suc n) scale t = cond (fits_at t scale) (Some (code_at t scale)) (first_from n (suc scale) t)

-- the code of a time: scales 0 to 5 are tried in turn
unfoldable pub encoded : Nanos → Option Code
encoded t = first_from 6 0 t.0

-- 16 at a scale above 0: the time of 512 at the scale below, which has no such value
unfoldable pub starts_scale : (value scale : ℕ) → Bool
starts_scale value scale = eqb value 16 && ltb 0 scale

-- the code of the next smaller time below a code that is given: 511 of the scale below where 16 starts a scale, else a value less by 1
unfoldable pub next_lower : Code → Option Code
next_lower c =
    cond (eqb (value_of c) 0) None
    (Some (cond (starts_scale (value_of c) (scale_of c)) (code_of 511 (scale_of c - 1)) (code_of (value_of c - 1) (scale_of c))))
