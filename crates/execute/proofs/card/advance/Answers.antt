-- `execute::card::advance` meets its contract.
use native.Mathlib.Omega.{arith}
use mathlib.Core.Path.{◌≡◌, ap, sym, ◌∙◌}
use Prim.Native.Nat.{◌≤◌, ◌<◌}
use lib.Dec.{leb}
use borrow.Author.Tests.{le-leb, lt-leb}
use Rattle.times.specs.declared.Nanos.{Nanos}
use Rattle.times.specs.Moments.{sum_of, clock_end}
use Rattle.frs_queue.specs.Queue.{no_tally}
use Rattle.records.specs.State.{state}
use Rattle.records.specs.Answer.{does}
use Rattle.readiness.specs.Fields.{with_clock}
use Rattle.records.specs.CardRecords.{advance_effect}
use Rattle.bits.proofs.Choices.{when_true, when_false}
use Rattle.execute.proofs.card.advance.Goals as goal

pub returns-then-nanos_number-le-CLOCK_END : goal.returns-then-nanos_number-le-CLOCK_END
unfolding advance_effect
returns-then-nanos_number-le-CLOCK_END c =
    let a = c.args in
    let t = sum_of a.dev.clock a.by in
    let e : t.0 ≡ c.nanos_number.result = sym (c.nanos_number.ensures ∙ ap (λ (n : Nanos). n.0) c.sum-clock.ensures) in
    let h : t.0 ≤ clock_end = omega arith in record {
      by_index = λ statuses live cells.
          ap (λ (n : Nanos). does (state (with_clock a.dev n) statuses live cells) no_tally 0) c.sum-clock.ensures
          ∙ sym (when_true (leb t.0 clock_end) _ _ (le-leb _ _ h));
      moved = ap (with_clock a.dev) c.sum-clock.ensures;
    }

pub returns-else-nanos_number-le-CLOCK_END : goal.returns-else-nanos_number-le-CLOCK_END
unfolding advance_effect
returns-else-nanos_number-le-CLOCK_END c =
    let a = c.args in
    let t = sum_of a.dev.clock a.by in
    let e : t.0 ≡ c.nanos_number.result = sym (c.nanos_number.ensures ∙ ap (λ (n : Nanos). n.0) c.sum-clock.ensures) in
    let h : clock_end < t.0 = omega arith in
    record { by_index = λ statuses live cells. sym (when_false (leb t.0 clock_end) _ _ (lt-leb _ _ h)); moved = tt }
