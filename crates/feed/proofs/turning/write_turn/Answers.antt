-- `feed::turning::write_turn` meets its contract.
use mathlib.Core.Path.{sym, ap, ◌∙◌}
use mathlib.Core.List.{List}
use lib.ListN.{set}
use Rattle.readiness.specs.declared.Status.{Status}
use Rattle.readiness.specs.inner.Phases.{statuses_in, moments_in}
use Rattle.records.specs.declared.Record.TheVariants as variants
use Rattle.feed.proofs.Parts.{slot_runs}
use Rattle.feed.proofs.Direct.{at_slot, as_told, slot_notes}
use Rattle.feed.proofs.turning.write_turn.Goals as goal

pub returns : goal.returns
returns c =
    let a = c.args in
    let k = a.setup.now in
    let d = a.defaults.now in
    let s = statuses_in a.phases.now in
    let i = a.q.slot in
    let r = variants.Write a.q a.value in
    let x = c.run_write-x in
    let is = c.status_at-status.ensures in
    let kind = c.kind_of_entry-kind.ensures in
    let noted = c.note.ensures in
    let put = c.put_status.ensures.phases_after ∙ ap (λ (l : List Status). set l i x.result.status) noted.phases_unchanged in record {
      takes_turn = λ h sound fits.
          rw put
          (slot_runs k d a.dev s a.live.now a.cells.now r sound fits i (at_slot k i h) x.result _ _
          (rw (sym is) (x.ensures.cells_after ∙ sym (as_told k d a.dev s a.live.now a.cells.now r i _ kind _))));
      ready_from = λ h. rw put (c.lowered.ensures s i h);
      notes_turn = λ h sound fits.
          c.put_status.ensures.phases_unchanged ∙ noted.phases_after
          ∙ slot_notes k d a.dev s a.live.now a.cells.now r sound fits i (at_slot k i h) _ kind _ is _ x.ensures.made_value (moments_in a.phases.now);
    }
