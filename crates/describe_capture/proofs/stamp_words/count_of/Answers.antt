-- `describe_capture::stamp_words::count_of` meets its contract.
use borrow.Author.Tests.{eq-eqb, le-leb, lt-leb, ne_eqb}
use Rattle.capture.specs.Advances.{advances}
use Rattle.describe_capture.proofs.stamp_words.count_of.Goals as goal

pub returns-then-n-eq0 : goal.returns-then-n-eq0
unfolding advances
returns-then-n-eq0 c = simp (eq-eqb _ 0 c.if-n-eq0.true)

pub returns-then-n-le-LONGEST : goal.returns-then-n-le-LONGEST
unfolding advances
returns-then-n-le-LONGEST c = simp (ne_eqb _ 0 c.if-n-eq0.false, le-leb _ 4294967295 c.if-n-le-LONGEST.true)

pub returns-else-n-le-LONGEST : goal.returns-else-n-le-LONGEST
unfolding advances
returns-else-n-le-LONGEST c = simp (ne_eqb _ 0 c.if-n-eq0.false, lt-leb _ 4294967295 c.if-n-le-LONGEST.false)
