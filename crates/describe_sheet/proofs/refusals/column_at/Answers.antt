-- `describe_sheet::refusals::column_at` meets its contract.
use Prim.Native.Nat.{◌<◌, ◌^◌}
use native.Mathlib.Omega.{arith}
use borrow.Author.Rules.{rules}
use Rattle.describe_sheet.specs.Refusals.{column_at}
use Rattle.describe_sheet.proofs.refusals.column_at.Goals as goal

pub returns-then-n-lt-GREATEST_NANOS : goal.returns-then-n-lt-GREATEST_NANOS
unfolding column_at
returns-then-n-lt-GREATEST_NANOS c = omega (arith, c.if-n-lt-GREATEST_NANOS.true)

pub returns-else-n-lt-GREATEST_NANOS : goal.returns-else-n-lt-GREATEST_NANOS
unfolding column_at
returns-else-n-lt-GREATEST_NANOS c = let h : c.args.place < 2 ^ 64 = search rules in omega (arith, h, c.if-n-lt-GREATEST_NANOS.false)
