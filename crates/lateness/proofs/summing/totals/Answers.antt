-- `summing::totals` meets its contract.
use mathlib.Core.Path.{◌≡◌, sym, ap, ◌∙◌}
use mathlib.Core.Bool.{Bool, true, false, not, cond}
use mathlib.Core.List.{List}
use lib.Dec.{leb}
use lib.ListN.{length}
use lib.IntN.{ℤ}
use borrow.Author.Tests.{not-true, not-false, le-leb, lt-leb}
use Rattle.lateness.specs.Totals.{all_within, longest_list, totals_of, refused, report}
use Rattle.lateness.proofs.summing.totals.Goals as goal

module _ (l : List ℤ) (b : Bool) (e : b ≡ all_within l) where
  outside : not b ≡ true → report l ≡ refused 34
  unfolding report
  outside n = ap (λ (w : Bool). cond w (cond (leb (length l) longest_list) (totals_of l) (refused 35)) (refused 34)) (sym e ∙ not-true b n)

  inside : not b ≡ false → all_within l ≡ true
  inside n = sym e ∙ not-false b n

  by_length : (t : Bool) → not b ≡ false → leb (length l) longest_list ≡ t → report l ≡ cond t (totals_of l) (refused 35)
  unfolding report
  by_length t n h = λ i. cond (inside n i) (cond (h i) (totals_of l) (refused 35)) (refused 34)

pub returns-then-not-all_within : goal.returns-then-not-all_within
returns-then-not-all_within c = let a = c in c.refusal.ensures ∙ sym (outside a.args.list.now a.all_within.result a.all_within.ensures (ap not c.if-not-all_within.true))

pub returns-then-list-gt-LONGEST_LIST : goal.returns-then-list-gt-LONGEST_LIST
returns-then-list-gt-LONGEST_LIST c = let a = c in c.refusal-then-list-gt-LONGEST_LIST.ensures ∙ sym (by_length a.args.list.now a.all_within.result a.all_within.ensures false (ap not c.if-not-all_within.false) (lt-leb (length a.args.list.now) longest_list c.if-list-gt-LONGEST_LIST.true))

pub summed-requires : goal.summed-requires
summed-requires c = let a = c in (inside a.args.list.now a.all_within.result a.all_within.ensures (ap not c.if-not-all_within.false), c.if-list-gt-LONGEST_LIST.false)

pub returns : goal.returns
returns c = let a = c in c.summed.ensures ∙ sym (by_length a.args.list.now a.all_within.result a.all_within.ensures true (ap not c.if-not-all_within.false) (le-leb (length a.args.list.now) longest_list c.if-list-gt-LONGEST_LIST.false))
