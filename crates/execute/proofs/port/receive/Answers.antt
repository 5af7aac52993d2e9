-- `execute::port::receive` meets its contract.
use mathlib.Core.Path.{ap, sym, ◌∙◌}
use Rattle.std.specs.Prelude.{Option, Some}
use Rattle.messages.specs.declared.Message.{Message}
use Rattle.readiness.specs.Root.{Root}
use Rattle.records.specs.declared.PortDone.{PortDone}
use Rattle.records.specs.PortRecords.{front, received, message_done}
use Rattle.records.specs.inner.Parts.{port_answered, port_ran}
use Rattle.execute.proofs.port.receive.Goals as goal

pub returns-in-Some-Drs : goal.returns-in-Some-Drs
unfolding message_done port_answered
returns-in-Some-Drs c =
    let a = c.args in
    let p = front a.dev a.cells.now in
    ap (λ (x : PortDone). port_ran x c.drs_arrives.new.cells) c.received.ensures
    ∙ ap (λ (x : Root). port_answered p (received x)) (rw c.root_port.ensures at c.drs_arrives.ensures)
    ∙ sym (ap (λ (m : Option Message). port_answered p (message_done a.port_id m p)) (c.in-Some-Drs.is ∙ ap Some (rw c.in-Some-Drs.is at c.in-Some-Drs.field-0-is)))

pub returns-in-Some-Frs : goal.returns-in-Some-Frs
unfolding message_done port_answered
returns-in-Some-Frs c =
    let a = c.args in
    let p = front a.dev a.cells.now in
    ap (λ (x : PortDone). port_ran x c.frs_arrives.new.cells) c.received-in-Some-Frs.ensures
    ∙ ap (λ (x : Root). port_answered p (received x)) (rw c.root_port-in-Some-Frs.ensures at c.frs_arrives.ensures)
    ∙ sym (ap (λ (m : Option Message). port_answered p (message_done a.port_id m p)) (c.in-Some-Frs.is ∙ ap Some (rw c.in-Some-Frs.is at c.in-Some-Frs.field-0-is)))

pub returns-in-None : goal.returns-in-None
unfolding message_done port_answered
returns-in-None c = rw c.in-None.is (ap (λ (x : PortDone). port_ran x c.args.cells.now) c.done.ensures)
