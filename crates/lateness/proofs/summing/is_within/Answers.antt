-- `summing::is_within` meets its contract.
use mathlib.Core.Path.{sym, ap, ◌∙◌}
use mathlib.Core.Bool.{Bool, true, false}
use Prim.Native.Nat.{◌-◌}
use lib.IntN.{ℤ, pos, negsuc}
use lib.Signed.{lt_z, le_z}
use Rattle.lateness.specs.Lateness.{greatest_difference, within}
use Rattle.lateness.proofs.Ints.{read, read_test, below_limit, above_limit}
use Rattle.lateness.proofs.summing.is_within.Goals as goal

abbrev is_below : ℤ → Bool
is_below z = lt_z z (negsuc (greatest_difference - 1))

pub returns-then-d-ltminus1000000000000000 : goal.returns-then-d-ltminus1000000000000000
unfolding within
returns-then-d-ltminus1000000000000000 c = let a = c in sym (below_limit a.args.d (read_test is_below a.args.d true a.ranges.d c.if-d-ltminus1000000000000000.true))

pub returns : goal.returns
unfolding within
returns c =
    let a = c in
    ap (λ (z : ℤ). le_z z (pos greatest_difference)) (read a.args.d a.ranges.d) ∙ above_limit a.args.d (read_test is_below a.args.d false a.ranges.d c.if-d-ltminus1000000000000000.false)
