-- Where the unit of a sheet may be wrong: a code far from the one that the card had.
use Rattle.std.specs.Prelude.{ℕ, ◌*◌, Bool, ◌&&◌, ◌||◌, cond, eqb, leb, Option, Some, None}
use Rattle.times.specs.declared.Code.{Code}
use Rattle.times.specs.Codes.{nanos_of}
use Rattle.sheet_grammar.specs.declared.Doubt.{Doubt}
use Rattle.sheet_grammar.specs.declared.Doubt.TheVariants.{AskUnit, OneIsZero}

-- A factor of 1,000 shows as 976 or more, since times are rounded up to codes.
abbrev pub far_factor : ℕ
far_factor = 500

-- 500 times the other or more
unfoldable pub is_far : (t u : ℕ) → Bool
is_far t u = leb (far_factor * t) u || leb (far_factor * u) t

unfoldable pub doubt_of : (before after : Code) → Option Doubt
doubt_of before after =
    let t = (nanos_of before).0 in
    let u = (nanos_of after).0 in
    cond (eqb t 0 && eqb u 0) None (cond (eqb t 0 || eqb u 0) (Some OneIsZero) (cond (is_far t u) (Some AskUnit) None))
