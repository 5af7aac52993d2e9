-- A choice by a test.
use mathlib.Core.Path.{◌≡◌, refl}
use mathlib.Core.Bool.{Bool, true, false, not, cond, true≢false, false≢true}

-- (`rw` with an equation of a record's field would rewrite the record too, which is the record of its fields: so these go by the
-- test's value)
pub when_true : {A : Type 0} (t : Bool) (a b : A) → t ≡ true → cond t a b ≡ a
when_true true a b e = refl
when_true false a b e = absurd (false≢true e)

pub when_false : {A : Type 0} (t : Bool) (a b : A) → t ≡ false → cond t a b ≡ b
when_false true a b e = absurd (true≢false e)
when_false false a b e = refl

pub unless-true : {A : Type 0} (t : Bool) (a b : A) → t ≡ true → cond (not t) a b ≡ b
unless-true true a b e = refl
unless-true false a b e = absurd (false≢true e)

pub unless-false : {A : Type 0} (t : Bool) (a b : A) → t ≡ false → cond (not t) a b ≡ a
unless-false true a b e = absurd (true≢false e)
unless-false false a b e = refl

-- what holds of both, each where the test says so
pub either_way : {A : Type 0} (P : A → Type 0) (t : Bool) (a b : A) → (t ≡ true → P a) → (t ≡ false → P b) → P (cond t a b)
either_way P true a b f g = f refl
either_way P false a b f g = g refl

-- a function of the choice
pub through : {A B : Type 0} (f : A → B) (t : Bool) {u v : B} (x y : A) → u ≡ f x → v ≡ f y → cond t u v ≡ f (cond t x y)
through f true x y p q = p
through f false x y p q = q
