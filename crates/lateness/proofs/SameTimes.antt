-- Two lists in which every difference stands equally often are the same but for their order.
use mathlib.Core.Path.{◌≡◌, refl, sym, ap, subst}
use mathlib.Core.Bool.{Bool, true, false}
use mathlib.Core.List.{List, [], ◌∷◌, ◌++◌}
use Prim.Native.Nat.{◌+◌, ◌<◌}
use native.Mathlib.Omega.{arith}
use lib.IntN.{ℤ, pos, negsuc}
use borrow.Author.Tests.{eqb-true, eq-eqb}
use Rattle.bits.specs.Bits.{one}
use Rattle.lateness.specs.Orders.{Reordered, none, keep, swap, again, same_z, times_in, SameTimes}
use Rattle.lateness.proofs.Order.{no_way}

same_self : (d : ℤ) → same_z d d ≡ true
unfolding same_z
same_self (pos a) = eq-eqb a a refl
same_self (negsuc a) = eq-eqb a a refl

same_is : (d e : ℤ) → same_z d e ≡ true → d ≡ e
unfolding same_z
same_is (pos a) (pos b) h = ap pos (eqb-true a b h)
same_is (pos a) (negsuc b) h = absurd (no_way h)
same_is (negsuc a) (pos b) h = absurd (no_way h)
same_is (negsuc a) (negsuc b) h = ap negsuc (eqb-true a b h)

-- ---- a difference that stands in a list

record Found (d : ℤ) (m : List ℤ) : Type 0 where
  front : List ℤ
  rest : List ℤ
  is : m ≡ front ++ (d ∷ rest)

found : (d : ℤ) (m : List ℤ) → 0 < times_in d m → Found d m
unfolding times_in
found d [] h = absurd (omega arith)
found d (e ∷ m) h = by (same_z d e) refl (found d m) h
  where
    by : (b : Bool) → same_z d e ≡ b → (0 < times_in d m → Found d m) → 0 < one b + times_in d m → Found d (e ∷ m)
    by true q f k = record { front = []; rest = m; is = ap (λ (x : ℤ). x ∷ m) (sym (same_is d e q)) }
    by false q f k = let r = f (omega arith) in record { front = e ∷ r.front; rest = r.rest; is = ap (λ (x : List ℤ). e ∷ x) r.is }

times_join : (d : ℤ) (a b : List ℤ) → times_in d (a ++ b) ≡ times_in d a + times_in d b
unfolding times_in
times_join d [] b = omega arith
times_join d (e ∷ a) b = omega (arith, times_join d a b)

-- ---- the same list, and a list with one brought to the front

unmoved : (l : List ℤ) → Reordered l l
unmoved [] = none
unmoved (d ∷ l) = keep d (unmoved l)

brought : (d : ℤ) (a b : List ℤ) → Reordered (d ∷ a ++ b) (a ++ (d ∷ b))
brought d [] b = unmoved (d ∷ b)
brought d (e ∷ a) b = again (swap d e (a ++ b)) (keep e (brought d a b))

-- ---- all of it

first_times : (d : ℤ) (l : List ℤ) → 0 < times_in d (d ∷ l)
unfolding times_in
first_times d l = let e = ap one (same_self d) in omega (arith, e)

left_times : (d : ℤ) (l a b : List ℤ) → SameTimes (d ∷ l) (a ++ (d ∷ b)) → SameTimes l (a ++ b)
unfolding times_in
left_times d l a b h e = omega (arith, h e, times_join e a b, times_join e a (d ∷ b))

pub order_of : (l m : List ℤ) → SameTimes l m → Reordered l m
unfolding times_in
order_of [] [] h = none
order_of [] (e ∷ m) h = absurd (omega (arith, h e, first_times e m))
order_of (d ∷ l) m h =
    let f = found d m (omega (arith, h d, first_times d l)) in
    let same : SameTimes (d ∷ l) (f.front ++ (d ∷ f.rest)) = subst (SameTimes (d ∷ l)) f.is h in
    subst (Reordered (d ∷ l)) (sym f.is)
    (again (keep d (order_of l (f.front ++ f.rest) (left_times d l f.front f.rest same))) (brought d f.front f.rest))
