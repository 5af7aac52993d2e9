-- `times::sum` meets its contract.
use mathlib.Core.Path.{◌≡◌, ap, ◌∙◌}
use mathlib.Core.Bool.{cond}
use Prim.Native.Nat.{ℕ, min}
use native.Mathlib.Omega.{arith}
use lib.Dec.{leb}
use borrow.Author.Tests.{leb-true, leb-false}
use Rattle.bits.proofs.Tests.{split}
use Rattle.times.specs.Moments.{sum_of}
use Rattle.times.proofs.sum.Goals as goal

-- the lesser of two by a test
by_test : (x most : ℕ) → min x most ≡ cond (leb x most) x most
by_test x most =
    split (leb x most)
    (λ t. let h = leb-true x most t in rw t (omega arith))
    (λ t. let h = leb-false x most t in rw t (omega arith))

pub returns : goal.returns
unfolding sum_of
returns c = ap (λ (n : ℕ). record { 0 = n }) (c.saturating_add.ensures ∙ by_test _ _)
