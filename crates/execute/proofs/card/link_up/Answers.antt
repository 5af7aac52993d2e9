-- `execute::card::link_up` meets its contract.
use mathlib.Core.Path.{refl, sym, ◌∙◌}
use Rattle.records.specs.CardRecords.{link_up_effect}
use Rattle.bits.proofs.Choices.{when_true, when_false}
use Rattle.execute.proofs.Answers.{alike}
use Rattle.execute.proofs.card.link_up.Goals as goal

pub returns-then-dev : goal.returns-then-dev
unfolding link_up_effect
returns-then-dev c =
    record { by_index = λ live cells. sym (when_true c.args.dev.link _ _ c.if-dev.true); phases_unchanged = refl; phases_unchanged_2 = refl }

pub returns : goal.returns
unfolding link_up_effect
returns c =
    let a = c.args in
    record { by_index = λ live cells. alike cells c.after_link_up.ensures c.start_all.ensures.phases_after refl ∙ sym (when_false a.dev.link _ _ c.if-dev.false); phases_unchanged = tt; phases_unchanged_2 = c.start_all.ensures.phases_unchanged }
