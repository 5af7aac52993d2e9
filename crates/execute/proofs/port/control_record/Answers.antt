-- `execute::port::control_record` meets its contract.
use mathlib.Core.Path.{ap, ◌∙◌}
use borrow.Author.Tests.{lt-ltb, le-ltb, eq-eqb, ne_eqb}
use Rattle.readiness.specs.declared.Dev.{Dev}
use Rattle.records.specs.declared.PortDone.{PortDone}
use Rattle.records.specs.declared.Completion.TheVariants as completion
use Rattle.records.specs.Answer.{reply}
use Rattle.frs_queue.specs.Queue.{no_tally}
use Rattle.readiness.specs.Fields.{with_control}
use Rattle.records.specs.PortRecords.{control_effect}
use Rattle.records.specs.inner.Parts.{port_answered, port_ran}
use Rattle.readiness.specs.declared.Control.{Control}
use Rattle.execute.proofs.port.control_record.Goals as goal
use Rattle.execute.proofs.port.control_record.Goals.{then-b-gt15-via-then-b-gt15, then-b-gt15-via-else-b-gt15+then-b-eq3}

abbrev ended : Dev → PortDone
ended d = record { dev = d; reply = reply completion.Done no_tally 0 }

pub returns-then-b-gt15 : goal.returns-then-b-gt15
unfolding control_effect port_answered
returns-then-b-gt15 c =
    λ cells.
    let told = ap (λ (x : PortDone). port_ran x cells) c.done.ensures in
    elim c.then-b-gt15.branch [
      | then-b-gt15-via-then-b-gt15 w ↦ simp (lt-ltb _ _ w.if-b-gt15.true) told
      | then-b-gt15-via-else-b-gt15+then-b-eq3 w ↦ simp (le-ltb _ _ w.if-b-gt15.false, eq-eqb _ _ w.if-b-eq3.true) told
    ]

pub returns : goal.returns
unfolding control_effect port_answered
returns c = λ cells. simp (le-ltb _ _ c.if-b-gt15.false, ne_eqb _ _ c.if-b-eq3.false) (ap (λ (x : PortDone). port_ran x cells) (c.done-2.ensures ∙ ap (λ (b : Control). ended (with_control c.args.dev b)) c.control_of-control.ensures))
