-- `settle::settle_slot` meets its contract.
use mathlib.Core.Path.{sym, ap, ◌∙◌}
use Rattle.readiness.specs.Status.{ready}
use Rattle.readiness.specs.Root.{Root}
use Rattle.settle.proofs.Scan.{slot_stays, slot_readies}
use Rattle.settle.proofs.settle_slot.Goals as goal

pub returns-in-None-clause-result_after : goal.returns-in-None-clause-result_after
returns-in-None-clause-result_after c = sym (slot_stays _ _ c.args.slot _ (sym (c.due_of.ensures c.args.slot) ∙ c.in-None.is))

pub returns-in-Some-clause-result_after : goal.returns-in-Some-clause-result_after
returns-in-Some-clause-result_after c =
    ap (λ (y : Root). record { status = ready; root = y }) c.slot_frs_arrives.ensures
    ∙ sym (slot_readies _ _ c.args.slot _ _ _ (sym (c.due_of.ensures c.args.slot) ∙ c.in-Some.is))
