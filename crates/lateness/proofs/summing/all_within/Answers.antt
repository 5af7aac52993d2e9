-- `summing::all_within` meets its contract.
use mathlib.Core.Path.{◌≡◌, refl}
use mathlib.Core.Bool.{Bool, true}
use mathlib.Core.List.{List, [], ◌∷◌}
use Prim.Native.Nat.{ℕ, zero, suc, ◌<◌}
use native.Mathlib.Omega.{arith}
use lib.ListN.{length, get_or}
use lib.IntN.{ℤ, pos}
use borrow.Author.Rules.{rules}
use Rattle.std.proofs.Common.{IsTrue, ◌↔◌}
use Rattle.bits.proofs.Tests.{both, both_left, both_right, same_test}
use Rattle.lateness.specs.Lateness.{within}
use Rattle.lateness.specs.Totals.{all_within}
use Rattle.lateness.proofs.summing.all_within.Goals as goal

each_of : (l : List ℤ) → ((k : ℕ) → k < length l → within (get_or l k (pos 0)) ≡ true) → all_within l ≡ true
unfolding all_within
each_of [] h = refl
each_of (d ∷ l) h = both (within d) (all_within l) (h 0 (omega arith)) (each_of l (λ k g. h (suc k) (omega arith)))

each_at : (l : List ℤ) → all_within l ≡ true → (k : ℕ) → k < length l → within (get_or l k (pos 0)) ≡ true
unfolding all_within
each_at [] e k h = absurd (omega arith)
each_at (d ∷ l) e zero h = both_left (within d) (all_within l) e
each_at (d ∷ l) e (suc k) h = each_at l (both_right (within d) (all_within l) e) k (omega arith)

all_is : (l : List ℤ) (b : Bool) → (IsTrue b ↔ ((k : ℕ) → k < length l → within (get_or l k (pos 0)) ≡ true)) → b ≡ all_within l
all_is l b h = same_test b (all_within l) (λ e. each_of l (h.0 e)) (λ e. h.1 (each_at l e))

pub returns : goal.returns
returns c = all_is c.args.list.now c.all.result (search rules)
