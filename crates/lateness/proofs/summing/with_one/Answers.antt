-- `summing::with_one` meets its contract.
use mathlib.Core.Path.{◌≡◌, sym, ap, ◌∙◌, subst}
use mathlib.Core.Bool.{Bool, true, false}
use Prim.Native.Nat.{ℕ, ◌+◌, ◌≤◌, ◌<◌}
use native.Mathlib.Omega.{arith}
use lib.IntN.{ℤ, ◌+ℤ◌}
use lib.Signed.{mag}
use mir.Syntax.{w32, w64}
use mir.Val.{Fits, SFits, to_z, of_z}
use borrow.Author.Rules.{rules}
use Rattle.lateness.specs.declared.Report.{Report}
use Rattle.bits.specs.Bits.{one}
use Rattle.lateness.specs.Totals.{is_early, is_on_time, is_late, lower_of, higher_of, longest_list}
use Rattle.lateness.specs.inner.Steps.{pick_with, Room}
use Rattle.lateness.proofs.Ints.{fits_abs, nat_abs_sum, read, told}
use Rattle.lateness.proofs.summing.with_one.Goals as goal

at_most_lem : (b : Bool) → one b ≤ 1
at_most_lem true = omega arith
at_most_lem false = omega arith

-- a count and one more
counted : (n m : ℕ) (b : Bool) → n ≡ one b → m < longest_list → Fits w32 (n + m)
counted n m b e h = record { fits = omega (arith, at_most_lem b) }

module _ (d : ℤ) (t : Report) (r : Room d t) (f : SFits w64 d) where
  sum_fits : SFits w64 (d +ℤ t.sum)
  sum_fits = fits_abs (d +ℤ t.sum) (omega (arith, nat_abs_sum d t.sum, r.sum))

  sum_read : to_z w64 (of_z w64 d) +ℤ to_z w64 (of_z w64 t.sum) ≡ d +ℤ t.sum
  sum_read = λ i. read d f i +ℤ read t.sum (fits_abs t.sum (omega (arith, r.sum))) i

  sum_asked : SFits w64 (to_z w64 (of_z w64 d) +ℤ to_z w64 (of_z w64 t.sum))
  sum_asked = subst (SFits w64) (sym sum_read) sum_fits

pub returns : goal.returns
returns c =
    let s = c in
    let d = s.args.d in
    let t = s.args.t in
    let e = c.early_one.ensures ∙ ap (λ (z : ℤ). one (is_early z)) (read d s.ranges.d) in
    let o = c.on_time_one.ensures ∙ ap (λ (z : ℤ). one (is_on_time z)) (read d s.ranges.d) in
    let l = c.late_one.ensures ∙ ap (λ (z : ℤ). one (is_late z)) (read d s.ranges.d) in
    let tl : mag t.least < 9223372036854775808 = search rules in
    let tg : mag t.greatest < 9223372036854775808 = search rules in
    let low = c.least_with-least in
    let high = c.greatest_with-greatest in
    let m = told low.result low.type_inv ∙ low.ensures ∙ (λ i. pick_with lower_of (read d s.ranges.d i) s.args.rest (told t.least tl i)) in
    let g = told high.result high.type_inv ∙ high.ensures ∙ (λ i. pick_with higher_of (read d s.ranges.d i) s.args.rest (told t.greatest tg i)) in
    let sm = told _ (sum_asked d t s.requires s.ranges.d).sfits ∙ sum_read d t s.requires s.ranges.d in
    λ i. record { number = 0; early = e i + t.early; on_time = o i + t.on_time; late = l i + t.late; least = m i; greatest = g i; sum = sm i }
