-- Laws of tests.
use mathlib.Core.Path.{◌≡◌, refl}
use mathlib.Core.Bool.{Bool, true, false, true≢false, false≢true}
use Rattle.trace.specs.Format.{when◌then◌else◌}

-- (`rw` with an equation of a record's field would rewrite the record too, which is the record of its fields: so these go by the test's value)
pub if_true : {A : Type 0} (t : Bool) (a b : A) → t ≡ true → (when t then a else b) ≡ a
if_true true a b e = refl
if_true false a b e = absurd (false≢true e)

pub if_false : {A : Type 0} (t : Bool) (a b : A) → t ≡ false → (when t then a else b) ≡ b
if_false true a b e = absurd (true≢false e)
if_false false a b e = refl

-- what holds of both, each where the test says so
pub if_cases : {A : Type 0} (P : A → Type 0) (t : Bool) (a b : A) → (t ≡ true → P a) → (t ≡ false → P b) → P (when t then a else b)
if_cases P true a b f g = f refl
if_cases P false a b f g = g refl
