-- `feed::turning::hardware_turn` meets its contract.
use mathlib.Core.Path.{refl, sym, ◌∙◌}
use Rattle.readiness.specs.inner.Phases.{statuses_in}
use Rattle.records.specs.declared.Record.TheVariants as variants
use Rattle.feed.proofs.Direct.{at_slot, as_told, still_runs}
use Rattle.readiness.specs.Status.{entry_of}
use Rattle.feed.proofs.turning.hardware_turn.Goals as goal

pub returns : goal.returns
returns c =
    λ defaults dev cells h sound fits.
    let a = c.args in
    let k = a.setup.now in
    let s = statuses_in a.phases.now in
    let i = a.slot in
    let r = variants.HardwareSet i a.word a.mask in
    still_runs k defaults dev s a.live.now cells r sound fits i (at_slot k i h) c.run_hardware.result _
    (rw (sym c.status_at.ensures)
    (as_told k defaults dev s a.live.now cells r i _ c.kind_of_entry-kind.ensures _ ∙ c.run_hardware.ensures dev k.bus (entry_of k i) defaults i cells))
