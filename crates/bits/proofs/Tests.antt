-- Laws by a test that antt computes: at every number below a bound, and at every choice of some Bools.
use mathlib.Core.Path.{◌≡◌, refl, sym, subst, ◌∙◌}
use mathlib.Core.Bool.{Bool, true, false, not, ◌&&◌, ◌||◌, beq, true≢false, or-true}
use mathlib.Core.Logic.{⊎_elim}
use Prim.Native.Nat.{ℕ, zero, suc, ◌<◌}
use native.Mathlib.Nat.{eq-or-lt_of_le}
use native.Mathlib.Omega.{arith}
use lib.Dec.{T}

pub and_left : (a b : Bool) → T (a && b) → T a
and_left true b t = tt
and_left false b t = t

pub and_right : (a b : Bool) → T (a && b) → T b
and_right true b t = t
and_right false b t = absurd t

-- f passes at every number below n
abbrev pub all : ℕ → (ℕ → Bool) → Bool
all zero f = true
all (suc n) f = f n && all n f

pub all_at : (n : ℕ) (f : ℕ → Bool) → T (all n f) → (k : ℕ) → k < n → T (f k)
all_at zero f t k h = absurd (omega arith)
all_at (suc n) f t k h =
    ⊎_elim (λ (e : suc k ≡ suc n). let m : n ≡ k = omega arith in subst (λ (i : ℕ). T (f i)) m (and_left (f n) (all n f) t))
    (λ (l : suc k < suc n). all_at n f (and_right (f n) (all n f) t) k (omega arith)) (eq-or-lt_of_le h)

-- two functions of n Bools, and whether they agree
abbrev pub Fun : ℕ → Type 0
Fun zero = Bool
Fun (suc n) = Bool → Fun n

abbrev pub Agree : (n : ℕ) → Fun n → Fun n → Type 0
Agree zero a b = a ≡ b
Agree (suc n) f g = (x : Bool) → Agree n (f x) (g x)

abbrev pub agree : (n : ℕ) → Fun n → Fun n → Bool
agree zero a b = beq a b
agree (suc n) f g = agree n (f true) (g true) && agree n (f false) (g false)

pub truth : (n : ℕ) (f g : Fun n) → T (agree n f g) → Agree n f g
truth zero true true t = refl
truth zero false false t = refl
truth zero true false t = absurd t
truth zero false true t = absurd t
truth (suc n) f g t =
    elim [
      | true ↦ truth n (f true) (g true) (and_left (agree n (f true) (g true)) (agree n (f false) (g false)) t)
      | false ↦ truth n (f false) (g false) (and_right (agree n (f true) (g true)) (agree n (f false) (g false)) t)
    ]

-- ---- a test that is true where another is

pub same_test : (a b : Bool) → (a ≡ true → b ≡ true) → (b ≡ true → a ≡ true) → a ≡ b
same_test true b f g = sym (f refl)
same_test false true f g = g refl
same_test false false f g = refl

pub both_left : (a b : Bool) → (a && b) ≡ true → a ≡ true
both_left true b e = refl
both_left false b e = e

pub both_right : (a b : Bool) → (a && b) ≡ true → b ≡ true
both_right true b e = e
both_right false true e = refl
both_right false false e = e

-- each of two tests where another is
pub and_each : (a b c d : Bool) → (a ≡ true → c ≡ true) → (b ≡ true → d ≡ true) → (a && b) ≡ true → (c && d) ≡ true
and_each true b c d f g e = rw (f refl) (g e)
and_each false b c d f g e = absurd (true≢false (sym e))

pub or_right : (n a b : Bool) → (a ≡ true → b ≡ true) → (n || a) ≡ true → (n || b) ≡ true
or_right true a b f e = refl
or_right false a b f e = f e

pub both : (a b : Bool) → a ≡ true → b ≡ true → (a && b) ≡ true
both a b e d = rw (e, d) refl

-- a test that cannot be true
pub untrue : (a : Bool) → (a ≡ true → ⊥) → a ≡ false
untrue true f = absurd (f refl)
untrue false f = refl

-- ---- a test by its value

pub split : {P : Type 0} (t : Bool) → (t ≡ true → P) → (t ≡ false → P) → P
split true f g = f refl
split false f g = g refl

pub not_both : {P : Type 0} {t : Bool} → t ≡ true → t ≡ false → P
not_both e f = absurd (true≢false (sym e ∙ f))

pub is_true : (t : Bool) → T t → t ≡ true
is_true true h = refl
is_true false h = absurd h

pub is_false : (t : Bool) → T (not t) → t ≡ false
is_false true h = absurd h
is_false false h = refl

pub or_last : (a b : Bool) → b ≡ true → (a || b) ≡ true
or_last a b e = rw e (or-true a)
