-- `feed::turning::card_turn` meets its contract.
use borrow.Author.Rules.{rules}
use lib.ListN.{length}
use mathlib.Core.Path.{◌≡◌, sym, ap, ◌∙◌}
use mathlib.Core.List.{List}
use Rattle.readiness.specs.inner.Phases.{statuses_in, moments_in, notes}
use Rattle.readiness.specs.Events.{Event}
use Rattle.readiness.proofs.Bounds.{bound_earliest}
use Rattle.readiness.proofs.PhaseNumbers.{statuses_same}
use Rattle.records.specs.State.{state}
use Rattle.records.proofs.Readying.{readied-card}
use Rattle.feed.proofs.Parts.{card-runs}
use Rattle.feed.proofs.turning.card_turn.Goals as goal

pub earliest_ready-requires : goal.earliest_ready-requires
earliest_ready-requires c =
    let h : length c.run_card.new.phases ≡ length c.args.phases.now = search rules in
    statuses_same c.run_card.new.phases c.args.phases.now h ∙ c.requires.1

pub returns : goal.returns
returns c =
    let a = c.args in
    let k = a.setup.now in
    let x = c.run_card in
    let s = statuses_in a.phases.now in record {
      takes_turn = λ q sound fits.
          card-runs k a.defaults.now a.dev s a.live.now a.cells.now a.record q x.result _ _ _ x.ensures.cells_after;
      ready_from = rw c.earliest_ready.ensures (bound_earliest (statuses_in x.new.phases));
      notes_turn = λ q sound fits.
          x.ensures.phases_after
          ∙ ap (λ (es : List Event). notes es (moments_in a.phases.now)) (sym (readied-card k a.defaults.now (state a.dev s a.live.now a.cells.now) a.record q));
    }
