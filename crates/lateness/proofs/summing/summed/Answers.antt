-- `summing::summed` meets its contract. The loop's invariant: the totals are those of the list from i on.
use mathlib.Core.Path.{◌≡◌, sym, ap, ◌∙◌, subst}
use mathlib.Core.Bool.{true}
use mathlib.Core.List.{List, [], ◌∷◌}
use Prim.Native.Nat.{ℕ, ◌-◌, ◌≤◌, ◌<◌}
use native.Mathlib.Omega.{arith}
use lib.ListN.{length, get_or, drop, length-drop, drop_of_length-le}
use lib.IntN.{ℤ, pos}
use Rattle.lateness.specs.declared.Report.{Report}
use Rattle.lateness.specs.Totals.{all_within, totals_of, longest_list}
use Rattle.lateness.specs.inner.Steps.{with_one, Room}
use Rattle.lateness.proofs.Ints.{told}
use Rattle.lateness.proofs.Steps.{drop_one, within-drop, with_more, room}
use Rattle.lateness.proofs.summing.summed.Goals as goal

none_yet : (l : List ℤ) → totals_of [] ≡ totals_of (drop (length l) l)
none_yet l = let h : length l ≤ length l = omega arith in sym (ap totals_of (drop_of_length-le l h))

whole : (l : List ℤ) (i : ℕ) → i ≡ 0 → totals_of (drop i l) ≡ totals_of l
whole [] i z = ap (λ (n : ℕ). totals_of (drop n [])) z
whole (d ∷ l) i z = ap (λ (n : ℕ). totals_of (drop n (d ∷ l))) z

module _ (l : List ℤ) (i : ℕ) (low : 0 < i) (high : i ≤ length l) where
  abbrev here : ℤ
  here = get_or l (i - 1) (pos 0)

  left : length (drop i l) ≡ length l - i
  left = length-drop i l

  more : (t : Report) → t ≡ totals_of (drop i l) → with_one here (length l - i) t ≡ totals_of (drop (i - 1) l)
  more t e =
      (λ j. with_one here (sym left j) (e j)) ∙ sym (with_more here (drop i l)) ∙ ap totals_of (sym (drop_one l i low high))

  fits : (t : Report) → t ≡ totals_of (drop i l) → all_within l ≡ true → length l ≤ longest_list → Room here t
  fits t e w h =
      let a : all_within (here ∷ drop i l) ≡ true = ap all_within (sym (drop_one l i low high)) ∙ within-drop (i - 1) l w in
      let n : length (here ∷ drop i l) ≤ longest_list = omega (arith, left) in
      subst (Room here) (sym e) (room here (drop i l) a n)

pub loop-i-init : goal.loop-i-init
loop-i-init c = c.no_totals-t.ensures ∙ none_yet c.args.list.now

pub with_one-t-requires : goal.with_one-t-requires
with_one-t-requires c =
    subst (λ (z : ℤ). Room z c.loop-i.t) (sym (told _ c.d-1.given))
    (fits c.args.list.now c.loop-i.i c.loop-i-test.true (omega arith) c.loop-i.t c.loop-i.invariant c.requires.0 c.requires.1)

pub loop-i-preserved : goal.loop-i-preserved
loop-i-preserved c =
    let l = c.args.list.now in
    let i = c.loop-i.i in
    let some : 0 < i = c.loop-i-test.true in
    let rest : length l - 1 - (i - 1) ≡ length l - i = omega arith in
    c.with_one-t.ensures
    ∙ ap (λ (z : ℤ). with_one z (length l - 1 - (i - 1)) c.loop-i.t) (told _ c.d-1.given)
    ∙ ap (λ (n : ℕ). with_one (get_or l (i - 1) (pos 0)) n c.loop-i.t) rest
    ∙ more l i some (omega arith) c.loop-i.t c.loop-i.invariant

pub returns : goal.returns
returns c =
    let z : c.loop-i.i ≡ 0 = omega arith in
    c.loop-i.invariant ∙ whole c.args.list.now c.loop-i.i z
