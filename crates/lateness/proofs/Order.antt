-- The lower and the higher of two differences.
use mathlib.Core.Path.{◌≡◌, refl, sym, ap, ◌∙◌}
use mathlib.Core.Bool.{Bool, true, false, cond}
use mathlib.Core.Logic.{◌⊎◌, inl, inr}
use Prim.Native.Nat.{ℕ, min, max}
use native.Mathlib.Omega.{arith}
use lib.Dec.{leb}
use lib.IntN.{ℤ, pos, negsuc}
use lib.Signed.{le_z}
use borrow.Author.Tests.{leb-true, leb-false, le-leb}
use Rattle.lateness.specs.Totals.{lower_of, higher_of}

pub no_way : ◌≡◌ {A = Bool} false true → ⊥
no_way e = let z : ◌≡◌ {A = ℕ} 0 1 = cc in omega arith

-- ---- the order

pub le_same : (a : ℤ) → le_z a a ≡ true
le_same (pos a) = le-leb a a (omega arith)
le_same (negsuc a) = le-leb a a (omega arith)

pub le_via : (a b c : ℤ) → le_z a b ≡ true → le_z b c ≡ true → le_z a c ≡ true
le_via (pos a) (pos b) (pos c) h k = le-leb a c (omega (arith, leb-true a b h, leb-true b c k))
le_via (pos a) (pos b) (negsuc c) h k = k
le_via (pos a) (negsuc b) (pos c) h k = absurd (no_way h)
le_via (pos a) (negsuc b) (negsuc c) h k = h
le_via (negsuc a) (pos b) (pos c) h k = refl
le_via (negsuc a) (pos b) (negsuc c) h k = absurd (no_way k)
le_via (negsuc a) (negsuc b) (pos c) h k = refl
le_via (negsuc a) (negsuc b) (negsuc c) h k = le-leb c a (omega (arith, leb-true b a h, leb-true c b k))

pub le_or : (a b : ℤ) → le_z a b ≡ false → le_z b a ≡ true
le_or (pos a) (pos b) h = le-leb b a (omega (arith, leb-false a b h))
le_or (pos a) (negsuc b) h = refl
le_or (negsuc a) (pos b) h = absurd (no_way (sym h))
le_or (negsuc a) (negsuc b) h = le-leb a b (omega (arith, leb-false b a h))

-- ---- by the signs

abbrev low : ℤ → ℤ → ℤ
low (pos a) (pos b) = pos (min a b)
low (pos a) (negsuc b) = negsuc b
low (negsuc a) (pos b) = negsuc a
low (negsuc a) (negsuc b) = negsuc (max a b)

abbrev high : ℤ → ℤ → ℤ
high (pos a) (pos b) = pos (max a b)
high (pos a) (negsuc b) = pos a
high (negsuc a) (pos b) = pos b
high (negsuc a) (negsuc b) = negsuc (min a b)

lesser : (a b : ℕ) (f : ℕ → ℤ) (t : Bool) → leb a b ≡ t → cond t (f a) (f b) ≡ f (min a b)
lesser a b f true e = let h : a ≡ min a b = omega (arith, leb-true a b e) in ap f h
lesser a b f false e = let h : b ≡ min a b = omega (arith, leb-false a b e) in ap f h

greater : (a b : ℕ) (f : ℕ → ℤ) (t : Bool) → leb a b ≡ t → cond t (f b) (f a) ≡ f (max a b)
greater a b f true e = let h : b ≡ max a b = omega (arith, leb-true a b e) in ap f h
greater a b f false e = let h : a ≡ max a b = omega (arith, leb-false a b e) in ap f h

low_is : (d e : ℤ) → lower_of d e ≡ low d e
unfolding lower_of
low_is (pos a) (pos b) = lesser a b pos (leb a b) refl
low_is (pos a) (negsuc b) = refl
low_is (negsuc a) (pos b) = refl
low_is (negsuc a) (negsuc b) = greater b a negsuc (leb b a) refl ∙ ap negsuc (omega arith)

high_is : (d e : ℤ) → higher_of d e ≡ high d e
unfolding higher_of
high_is (pos a) (pos b) = greater a b pos (leb a b) refl
high_is (pos a) (negsuc b) = refl
high_is (negsuc a) (pos b) = refl
high_is (negsuc a) (negsuc b) = lesser b a negsuc (leb b a) refl ∙ ap negsuc (omega arith)

low_turn : (d e : ℤ) → low d e ≡ low e d
low_turn (pos a) (pos b) = ap pos (omega arith)
low_turn (pos a) (negsuc b) = refl
low_turn (negsuc a) (pos b) = refl
low_turn (negsuc a) (negsuc b) = ap negsuc (omega arith)

high_turn : (d e : ℤ) → high d e ≡ high e d
high_turn (pos a) (pos b) = ap pos (omega arith)
high_turn (pos a) (negsuc b) = refl
high_turn (negsuc a) (pos b) = refl
high_turn (negsuc a) (negsuc b) = ap negsuc (omega arith)

low-past : (d e m : ℤ) → low d (low e m) ≡ low e (low d m)
low-past (pos a) (pos b) (pos c) = ap pos (omega arith)
low-past (pos a) (pos b) (negsuc c) = refl
low-past (pos a) (negsuc b) (pos c) = refl
low-past (pos a) (negsuc b) (negsuc c) = refl
low-past (negsuc a) (pos b) (pos c) = refl
low-past (negsuc a) (pos b) (negsuc c) = refl
low-past (negsuc a) (negsuc b) (pos c) = ap negsuc (omega arith)
low-past (negsuc a) (negsuc b) (negsuc c) = ap negsuc (omega arith)

high-past : (d e m : ℤ) → high d (high e m) ≡ high e (high d m)
high-past (pos a) (pos b) (pos c) = ap pos (omega arith)
high-past (pos a) (pos b) (negsuc c) = ap pos (omega arith)
high-past (pos a) (negsuc b) (pos c) = refl
high-past (pos a) (negsuc b) (negsuc c) = refl
high-past (negsuc a) (pos b) (pos c) = refl
high-past (negsuc a) (pos b) (negsuc c) = refl
high-past (negsuc a) (negsuc b) (pos c) = refl
high-past (negsuc a) (negsuc b) (negsuc c) = ap negsuc (omega arith)

-- ---- two that are exchanged

pub lower_turn : (d e : ℤ) → lower_of d e ≡ lower_of e d
lower_turn d e = low_is d e ∙ low_turn d e ∙ sym (low_is e d)

pub higher_turn : (d e : ℤ) → higher_of d e ≡ higher_of e d
higher_turn d e = high_is d e ∙ high_turn d e ∙ sym (high_is e d)

pub lower_past : (d e m : ℤ) → lower_of d (lower_of e m) ≡ lower_of e (lower_of d m)
lower_past d e m =
    ap (lower_of d) (low_is e m) ∙ low_is d (low e m) ∙ low-past d e m ∙ sym (ap (lower_of e) (low_is d m) ∙ low_is e (low d m))

pub higher_past : (d e m : ℤ) → higher_of d (higher_of e m) ≡ higher_of e (higher_of d m)
higher_past d e m =
    ap (higher_of d) (high_is e m) ∙ high_is d (high e m) ∙ high-past d e m ∙ sym (ap (higher_of e) (high_is d m) ∙ high_is e (high d m))

-- ---- it is one of the two, and bounds both

pub record Low (d e x : ℤ) : Type 0 where
  pub one : (x ≡ d) ⊎ (x ≡ e)
  pub left : le_z x d ≡ true
  pub right : le_z x e ≡ true

pub record High (d e x : ℤ) : Type 0 where
  pub one : (x ≡ d) ⊎ (x ≡ e)
  pub left : le_z d x ≡ true
  pub right : le_z e x ≡ true

pub lower_low : (d e : ℤ) → Low d e (lower_of d e)
unfolding lower_of
lower_low d e = by (le_z d e) refl
  where
    by : (t : Bool) → le_z d e ≡ t → Low d e (cond t d e)
    by true h = record { one = inl refl; left = le_same d; right = h }
    by false h = record { one = inr refl; left = le_or d e h; right = le_same e }

pub higher_high : (d e : ℤ) → High d e (higher_of d e)
unfolding higher_of
higher_high d e = by (le_z d e) refl
  where
    by : (t : Bool) → le_z d e ≡ t → High d e (cond t e d)
    by true h = record { one = inr refl; left = h; right = le_same e }
    by false h = record { one = inl refl; left = le_same d; right = le_or d e h }
