-- `settle::moments::forget` meets its contract: the first i slots have none.
use Prim.Native.Nat.{ℕ}
use native.Mathlib.Omega.{arith}
use mathlib.Core.Path.{◌≡◌, sym, ap, ◌∙◌}
use lib.ListN.{length, replicate}
use lib.Seq.{take_all}
use Rattle.times.specs.Moments.{greatest_nanos}
use Rattle.readiness.specs.inner.Phases.{statuses_in, moments_in}
use Rattle.readiness.proofs.PhaseNumbers.{statuses_length, moments_length}
use Rattle.settle.proofs.Gathering.{forgets}
use Rattle.settle.proofs.moments.forget.Goals as goal

pub put_moment-requires : goal.put_moment-requires
put_moment-requires c = omega (arith, statuses_length c.loop-i.phases, c.loop-i.invariant.0)

pub loop-i-preserved : goal.loop-i-preserved
loop-i-preserved c =
    let put = c.put_moment in
    let l = c.loop-i in (
      omega (arith, put.auto, l.invariant.0),
      put.ensures.phases_unchanged ∙ l.invariant.1,
      forgets (moments_in l.phases) _ l.i greatest_nanos (omega (arith, moments_length l.phases, statuses_length l.phases, l.invariant.0)) put.ensures.phases_after l.invariant.2,
    )

pub returns-clause-phases_after : goal.returns-clause-phases_after
returns-clause-phases_after c =
    let l = c.loop-i in
    let n : l.i ≡ length (statuses_in c.args.phases.now) = omega (arith, statuses_length c.args.phases.now) in
    sym (take_all l.i (moments_in l.phases) (omega (arith, l.invariant.0, moments_length l.phases, statuses_length l.phases)))
    ∙ l.invariant.2
    ∙ ap (λ (k : ℕ). replicate k greatest_nanos) n
