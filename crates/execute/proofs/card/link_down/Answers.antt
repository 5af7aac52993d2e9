-- `execute::card::link_down` meets its contract.
use mathlib.Core.Path.{refl, sym, ◌∙◌}
use Rattle.records.specs.CardRecords.{link_down_effect}
use Rattle.std.proofs.lemmas.Bool.{not-true, not-false}
use Rattle.bits.proofs.Choices.{when_true, when_false}
use Rattle.execute.proofs.Answers.{alike}
use Rattle.execute.proofs.card.link_down.Goals as goal

pub returns-then-not-dev : goal.returns-then-not-dev
unfolding link_down_effect
returns-then-not-dev c =
    record { by_index = λ cells. sym (when_false c.args.dev.link _ _ (not-true _ c.if-not-dev.true)); phases_unchanged = (refl, refl); phases_unchanged_2 = refl }

pub returns : goal.returns
unfolding link_down_effect
returns c =
    record {
      by_index = λ cells.
          alike cells c.after_link_down.ensures c.stop_all.ensures.phases_after c.reset_links.ensures ∙ sym (when_true c.args.dev.link _ _ (not-false _ c.if-not-dev.false));
      phases_unchanged = tt;
      phases_unchanged_2 = c.stop_all.ensures.phases_unchanged;
    }
