-- `set_up::refusing::begins` meets its contract.
use mathlib.Core.Path.{◌≡◌, ◌∙◌}
use native.Mathlib.Omega.{arith}
use lib.ListN.{length}
use borrow.Author.Rules.{rules}
use borrow.Author.Tests.{eq-eqb}
use Rattle.trace.proofs.Gathering.{begun_at, begun_none}
use Rattle.set_up.proofs.refusing.begins.Goals as goal

pub returns-then-n-eq0 : goal.returns-then-n-eq0
returns-then-n-eq0 c = eq-eqb c.args.n 0 c.if-n-eq0.true ∙ begun_none _ _ c.if-n-eq0.true

pub returns-else-n-eq0 : goal.returns-else-n-eq0
returns-else-n-eq0 c =
    let a = c.args in
    let n : length a.carried ≡ 16 = search rules in
    rw c.size_of.ensures (begun_at a.carried a.n (omega arith) (omega arith))
