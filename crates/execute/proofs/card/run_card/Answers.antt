-- `execute::card::run_card` meets its contract.
use borrow.Author.Rules.{rules}
use mathlib.Core.Path.{◌≡◌, ap, ap₂, sym, ◌∙◌}
use lib.ListN.{length}
use Rattle.readiness.specs.inner.Phases.{statuses_in, moments_in, notes}
use Rattle.readiness.proofs.PhaseNumbers.{statuses_same, notes_none}
use Rattle.records.specs.State.{state}
use Rattle.records.specs.Answer.{answered}
use Rattle.records.specs.MadeReady.{readied_by}
use Rattle.records.specs.inner.Parts.{card_run}
use Rattle.execute.proofs.card.run_card.Goals as goal

pub settled-requires : goal.settled-requires
settled-requires c =
    let h : length c.start.new.phases ≡ length c.args.phases.now = search rules in
    (search rules, statuses_same c.start.new.phases c.args.phases.now h ∙ search rules)

pub returns-in-Ok : goal.returns-in-Ok
unfolding card_run
returns-in-Ok c =
    let a = c.args in
    let s = state a.dev (statuses_in a.phases.now) a.live.now a.cells.now in
    let started = c.in-Ok.ensures in record {
      cells_after = c.settled.ensures.cells_after s _ ∙ ap (answered a.setup s) (started.by_index a.cells.now);
      phases_after = c.settled.ensures.phases_after ∙ ap₂ notes (ap readied_by (started.by_index a.cells.now)) started.phases_unchanged_2;
    }

pub returns-in-Err : goal.returns-in-Err
unfolding card_run answered
returns-in-Err c =
    let a = c.args in
    let s = state a.dev (statuses_in a.phases.now) a.live.now a.cells.now in
    let started = c.in-Err.ensures in
    let same = started.phases_unchanged in record {
      cells_after = (λ i. record { after = state a.dev (statuses_in (same.0 i)) (same.1 i) a.cells.now; reply = c.plain_reply.ensures i })
          ∙ ap (answered a.setup s) (started.by_index a.cells.now);
      phases_after = ap moments_in same.0 ∙ notes_none _ _ (ap readied_by (sym (started.by_index a.cells.now)));
    }
