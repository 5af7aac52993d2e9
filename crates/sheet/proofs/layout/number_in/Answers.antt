-- `sheet::layout::number_in` meets its contract.
use mathlib.Core.Path.{ap}
use mathlib.Core.Bool.{◌&&◌}
use mathlib.Core.List.{List}
use Prim.Native.Nat.{ℕ}
use lib.Dec.{leb, eqb}
use lib.ListN.{length}
use Rattle.sheet_grammar.specs.declared.Digits.{Digits}
use Rattle.sheet_grammar.specs.declared.NumberRead.{NumberRead}
use Rattle.sheet_grammar.specs.Layout.{most_digits, number_in}
use Rattle.sheet.proofs.layout.number_in.Goals as goal

-- a number by its digits
whole : List ℕ → Digits → NumberRead
whole s d = record { fits = leb 1 d.count && leb d.count most_digits && eqb d.count (length s); number = d.number; next = d.count }

pub returns : goal.returns
unfolding number_in whole
returns c =
    let d = c in
    ap (whole d.args.s.now) d.digits_at-d.ensures
