-- `sheet::layout::unit_at` meets its contract.
use Prim.Native.Nat.{◌+◌, ◌≤◌}
use native.Mathlib.Omega.{arith}
use lib.ListN.{length}
use Rattle.sheet_grammar.specs.Layout.{unit_at}
use Rattle.sheet.proofs.Units.{unit_within}
use borrow.Author.Rules.{rules}
use Rattle.sheet.proofs.layout.unit_at.Goals as goal

pub overflow_add-result : goal.overflow_add-result
overflow_add-result c =
    let counted = c in
    let args = counted.args in
    let s = args.s.now in
    let most : length s ≤ 18446744073709551615 = search rules in
    let room : args.at + counted.unit_bytes-n.result ≤ 18446744073709551615 =
    omega (arith, counted.unit_bytes-n.ensures, unit_within args.at s 18446744073709551615 (omega arith) most) in
    search rules

pub returns : goal.returns
unfolding unit_at
returns c = simp (c.unit_of.ensures, c.byte_at.ensures, c.unit_bytes-n.ensures)
