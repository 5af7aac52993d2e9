-- `settle::starting::reset_statuses` meets its contract: the first i slots are Down.
use Prim.Native.Nat.{ℕ}
use native.Mathlib.Omega.{arith}
use mathlib.Core.Path.{◌≡◌, sym, ap, ◌∙◌}
use mathlib.Core.List.{List}
use lib.ListN.{set}
use Rattle.readiness.specs.declared.Status.{Status}
use Rattle.readiness.specs.Status.{down, each_from}
use Rattle.settle.proofs.Statuses.{each_none, each_more, each-held}
use borrow.Author.Rules.{rules}
use Rattle.settle.proofs.starting.reset_statuses.Goals as goal

pub loop-i-init : goal.loop-i-init
loop-i-init c = (search rules, sym (each_none _ 0 0 _ (omega arith)))

pub loop-i-preserved : goal.loop-i-preserved
loop-i-preserved c =
    let l = c.loop-i in
    (l.invariant.0, ap (λ (o : List Status). set o l.i down) l.invariant.1 ∙ each_more (λ slot. down) l.i c.args.statuses (omega arith))

pub returns : goal.returns
returns c =
    let l = c.loop-i in
    let a = c.args in
    let e : l.i ≡ c.min-i-end.result = omega arith in
    l.invariant.1 ∙ ap (λ (n : ℕ). each_from 0 n (λ slot. down) a.statuses) (e ∙ c.min-i-end.ensures) ∙ each-held (λ slot. down) a.setup.slots a.statuses l.invariant.0
