use Rattle.times.specs.Moments.{sum_of, clock_end}
use Rattle.readiness.specs.inner.Phases.{statuses_in}
use Rattle.readiness.specs.Fields.{with_clock}
use Rattle.times.specs.declared.Nanos.{Nanos}
use native.Mathlib.Omega.{arith}
use mathlib.Core.List.{List}
use Rattle.left_to_happen.proofs.Laws.{left-nothing, left-settling, advance-done, advance_not}
use Rattle.left_to_happen.specs.declared.LeftToHappen.{LeftToHappen}
use Rattle.readiness.specs.declared.Status.{Status}
use lib.ListN.{take}
use borrow.Author.Tests.{le-leb, lt-leb}
use mathlib.Core.Path.{sym, ap, ◌∙◌}
use Rattle.left_to_happen.proofs.by_advance.Goals as goal

pub returns-then-nanos_number-le-CLOCK_END : goal.returns-then-nanos_number-le-CLOCK_END
returns-then-nanos_number-le-CLOCK_END c =
    let a = c.args in
    let made = c.settling.ensures in
    let clock = c.sum-clock.ensures in record {
      note_value = ap (λ (x : LeftToHappen). x.note) made;
      by_value = λ setup defaults live cells.
          advance-done setup defaults a.dev (take setup.slots a.statuses) live cells a.by
          (le-leb (sum_of a.dev.clock a.by).0 clock_end (omega (arith, c.if-nanos_number-le-CLOCK_END.true, c.nanos_number.ensures, ap (λ (t : Nanos). t.0) clock)))
          ∙ sym (left-settling setup cells c.settling.result (with_clock a.dev (sum_of a.dev.clock a.by)) (take setup.slots a.statuses) (ap (λ (x : LeftToHappen). x.left) made)
          (ap (λ (x : LeftToHappen). x.dev) made ∙ ap (λ (t : Nanos). with_clock a.dev t) clock)
          (ap (λ (l : List Status). take setup.slots l) (ap (λ (x : LeftToHappen). statuses_in x.phases) made ∙ c.in_numbers.ensures)));
    }

pub returns : goal.returns
returns c =
    let a = c.args in
    let clock = c.sum-clock.ensures in record {
      note_value = c.nothing.ensures.note_value;
      by_value = λ setup defaults live cells.
          advance_not setup defaults a.dev (take setup.slots a.statuses) live cells a.by
          (lt-leb (sum_of a.dev.clock a.by).0 clock_end (omega (arith, c.if-nanos_number-le-CLOCK_END.false, c.nanos_number.ensures, ap (λ (t : Nanos). t.0) clock)))
          ∙ sym (left-nothing setup cells c.nothing.result c.nothing.ensures.left_value);
    }
