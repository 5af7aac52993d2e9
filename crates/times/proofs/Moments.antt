-- The derived order of moments is that of their numbers.
use mathlib.Core.Path.{◌≡◌, refl}
use Prim.Native.Nat.{ℕ}
use lib.Dec.{leb, ltb, eqb}
use borrow.Author.Tests.{le-ltb, lt-ltb, leb-true, leb-false}
use Rattle.std.specs.Ordering.{is_lt, nat_cmp, ord_min}
use Rattle.bits.proofs.Tests.{split}
use Rattle.times.specs.declared.Nanos.{Nanos}
use Rattle.times.specs.contracts.NanosOrd.TheImpl.{cmp-value}
use Rattle.times.specs.Moments.{least_of}

-- one number before another
is_before : (x y : ℕ) → is_lt (nat_cmp x y) ≡ ltb x y
is_before x y = split (ltb x y) (λ e. rw e refl) (λ e. rw e (split (eqb x y) (λ d. rw d refl) (λ d. rw d refl)))

-- `s.min(t)` is the earlier of two moments
pub min_least : (s t : Nanos) → ord_min (cmp-value).it s t ≡ least_of s t
unfolding least_of
min_least s t =
    rw (is_before t.0 s.0)
    (split (leb s.0 t.0)
    (λ e. rw (e, le-ltb t.0 s.0 (leb-true s.0 t.0 e)) refl)
    (λ e. rw (e, lt-ltb t.0 s.0 (leb-false s.0 t.0 e)) refl))
