-- `sheet::layout::first_wrong` meets its contract.
use mathlib.Core.Path.{sym, ap}
use mathlib.Core.Bool.{Bool, cond}
use Prim.Native.Nat.{◌+◌}
use borrow.Author.Tests.{le-leb, lt-leb}
use Rattle.sheet_grammar.specs.Layout.{next_place}
use Rattle.sheet.proofs.layout.first_wrong.Goals as goal

pub returns-then-count-most : goal.returns-then-count-most
unfolding next_place
returns-then-count-most c =
    let args = c.args in
    ap (λ (b : Bool). args.at + cond b args.count args.most) (sym (le-leb args.count args.most c.if-count-most.true))

pub returns-else-count-most : goal.returns-else-count-most
unfolding next_place
returns-else-count-most c =
    let args = c.args in
    ap (λ (b : Bool). args.at + cond b args.count args.most) (sym (lt-leb args.count args.most c.if-count-most.false))
