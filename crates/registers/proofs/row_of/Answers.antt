-- `registers::row_of` meets its contract. Above word 63 there are no attributes; below, the lent table has the rows of the definition.
use native.Mathlib.Omega.{arith}
use borrow.Author.Rules.{rules}
use Rattle.registers.proofs.Rules.{row-past, row_in}
use Rattle.registers.proofs.row_of.Goals as goal

pub returns-then-i-gt63 : goal.returns-then-i-gt63
returns-then-i-gt63 c = let (w, (x, (s, k))) = c.default.ensures in search (rules, row-past)

pub returns : goal.returns
returns c =
    let r = c in
    let s = r in
    row_in _ s.args.kind s.args.i _ s.args.table.now.given r.start.ensures.0 (omega arith)
