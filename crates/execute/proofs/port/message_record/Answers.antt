-- `execute::port::message_record` meets its contract.
use mathlib.Core.Path.{ap, sym, ◌∙◌}
use Rattle.records.specs.declared.PortDone.{PortDone}
use Rattle.records.specs.PortRecords.{front, message_effect}
use Rattle.records.specs.inner.Parts.{port_answered, port_ran}
use Rattle.bits.proofs.Choices.{when_true, when_false}
use Rattle.execute.proofs.port.message_record.Goals as goal

pub returns-then-dev : goal.returns-then-dev
unfolding message_effect
returns-then-dev c =
    let a = c.args in
    c.receive.ensures ∙ ap (port_answered (front a.dev a.cells.now)) (sym (when_true a.dev.link _ _ c.if-dev.true))

pub returns-else-dev : goal.returns-else-dev
unfolding message_effect port_answered
returns-else-dev c =
    let a = c.args in
    let p = front a.dev a.cells.now in
    ap (λ (x : PortDone). port_ran x p.cells) c.done.ensures ∙ ap (port_answered p) (sym (when_false a.dev.link _ _ c.if-dev.false))
