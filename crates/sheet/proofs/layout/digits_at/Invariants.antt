-- `sheet::layout::digits_at` meets its contract. The loop's invariant: the bytes left, read on, give the digits; count digits are below 2 · 10^count.
use mathlib.Core.Path.{◌≡◌}
use Prim.Native.Nat.{suc, ◌-◌, ◌≤◌}
use lib.ListN.{drop}
use Rattle.sheet_grammar.specs.Layout.{digits_from, digits_at}
use Rattle.sheet.proofs.Numbers.{Digits-below}
use Rattle.sheet.proofs.layout.digits_at.Given as goal

abbrev pub invariant-loop-i : goal.invariant-loop-i
invariant-loop-i l = record {
  short : l.count ≤ suc l.most;
  below : Digits-below l.number l.count;
  rest : digits_from (suc l.most - l.count) l.count l.number (drop l.i l.s) ≡ digits_at l.most l.at l.s;
}
