-- `settle::phases::in_numbers` meets its contract: the first i slots are in.
use Prim.Native.Nat.{◌+◌}
use native.Mathlib.Omega.{arith}
use mathlib.Core.Path.{◌≡◌, refl, ap, ◌∙◌}
use lib.ListN.{length, take}
use Rattle.readiness.specs.Status.{down}
use Rattle.readiness.specs.inner.Phases.{statuses_in}
use Rattle.settle.proofs.Statuses.{take_put, take_both}
use Rattle.readiness.proofs.PhaseNumbers.{statuses_length}
use borrow.Author.Rules.{rules}
use Rattle.settle.proofs.phases.in_numbers.Goals as goal

pub loop-i-init : goal.loop-i-init
loop-i-init c = (refl, refl)

pub put_status-requires : goal.put_status-requires
put_status-requires c = omega (arith, statuses_length c.loop-i.phases)

pub loop-i-preserved : goal.loop-i-preserved
loop-i-preserved c =
    let l = c in
    let n : length l.args.statuses ≡ 32 = search rules in (
      omega (arith, c.put_status.auto),
      ap (take (l.loop-i.i + 1)) c.put_status.ensures.phases_after ∙ take_put (statuses_in l.loop-i.phases) l.args.statuses down _ l.loop-i.i (omega (arith, statuses_length l.loop-i.phases)) (omega arith) l.loop-i.invariant.1 refl,
    )

pub returns : goal.returns
returns c =
    let l = c in
    let n : length l.args.statuses ≡ 32 = search rules in
    take_both (statuses_in l.loop-i.phases) l.args.statuses l.loop-i.i (omega (arith, statuses_length l.loop-i.phases)) (omega arith) l.loop-i.invariant.1
