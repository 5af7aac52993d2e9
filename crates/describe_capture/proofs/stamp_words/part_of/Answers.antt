-- `describe_capture::stamp_words::part_of` meets its contract.
use Rattle.std.proofs.Common.{arith}
use Rattle.describe_capture.proofs.Parts.{of_zero, only_one, after_one, longest, the_rest, after_two}
use Rattle.describe_capture.proofs.stamp_words.part_of.Goals as goal

pub returns-then-n-eq0 : goal.returns-then-n-eq0
returns-then-n-eq0 c = let a = c.args in of_zero a.n a.k c.if-n-eq0.true

pub returns-then-k-eq0 : goal.returns-then-k-eq0
returns-then-k-eq0 c = let a = c.args in only_one a.n a.k c.if-n-eq0.false c.if-n-le-LONGEST.true c.if-k-eq0.true

pub returns-else-k-eq0 : goal.returns-else-k-eq0
returns-else-k-eq0 c = let a = c.args in after_one a.n a.k c.if-n-eq0.false c.if-n-le-LONGEST.true c.if-k-eq0.false

pub returns-in-0 : goal.returns-in-0
returns-in-0 c = let a = c.args in longest a.n a.k c.if-n-le-LONGEST.false c.in-0.is

pub returns-in-1 : goal.returns-in-1
returns-in-1 c = let a = c.args in the_rest a.n a.k c.if-n-le-LONGEST.false c.in-1.is

pub returns-in_default : goal.returns-in_default
returns-in_default c = let a = c.args in after_two a.n a.k c.if-n-le-LONGEST.false (λ e. omega arith) (λ e. omega arith)
