-- `score::choosing::total` meets its contract.
use mathlib.Core.Path.{◌≡◌, sym, ap, ◌∙◌}
use Prim.Native.Nat.{ℕ, ◌-◌, min}
use native.Mathlib.Omega.{arith}
use mathlib.Core.Bool.{Bool, true, false, cond}
use mathlib.Core.List.{List}
use lib.ListN.{length, take}
use lib.IntN.{ℤ}
use Rattle.lateness.specs.Totals.{refused, report}
use Rattle.score.specs.Scores.{total_of}
use Rattle.score.proofs.choosing.total.Goals as goal

less_none : (n : ℕ) → n - 0 ≡ n
less_none n = omega arith

module _ (o : Bool) (n : ℕ) (v : List ℤ) where
  refuses : o ≡ true → total_of o n v ≡ refused 34
  unfolding total_of
  refuses e = ap (λ (b : Bool). cond b (refused 34) (report (take (min n (length v)) v))) e

  gives : o ≡ false → total_of o n v ≡ report (take (min n (length v)) v)
  unfolding total_of
  gives e = ap (λ (b : Bool). cond b (refused 34) (report (take (min n (length v)) v))) e

pub returns-then-c : goal.returns-then-c
returns-then-c c = let a = c.args in c.refusal.ensures ∙ sym (refuses a.c.outside a.c.count a.values.now c.if-c.true)

pub returns : goal.returns
returns c = let a = c.args in c.totals.ensures ∙ ap (λ (n : ℕ). report (take n a.values.now)) (less_none _ ∙ c.min-n.ensures) ∙ sym (gives a.c.outside a.c.count a.values.now c.if-c.false)
