-- `execute::port::receive_frs` meets its contract.
use mathlib.Core.Path.{ap, sym, ◌∙◌}
use Rattle.frs_queue.specs.Queue.{Ring, arrive_all}
use Rattle.readiness.specs.Root.{with_ring, frs_arrive}
use Rattle.records.specs.PortRecords.{front, front_root, received, message_done, message_effect}
use Rattle.records.specs.inner.Parts.{port_run, port_effect, port_answered}
use Rattle.bits.proofs.Choices.{when_true}
use Rattle.execute.proofs.port.receive_frs.Goals as goal

pub returns : goal.returns
unfolding port_run port_effect port_answered message_effect message_done frs_arrive arrive_all
returns c =
    let a = c.args in
    let p = front a.dev a.cells.now in
    λ id up. ap (port_answered p) (when_true a.dev.link _ _ up) ∙ ap (λ (g : Ring). port_answered p (received (with_ring g (front_root p)))) (sym (rw c.no_tally.ensures at c.arrive.ensures))
