-- `execute::card::start` meets its contract.
use mathlib.Core.Path.{refl, sym}
use Rattle.records.specs.inner.Parts.{card_effect}
use Rattle.execute.proofs.Answers.{on_err, none_err, both_err, card_other}
use Rattle.execute.proofs.card.start.Goals as goal

pub returns-in-Advance : goal.returns-in-Advance
unfolding card_effect
returns-in-Advance c = rw c.in-Advance.is (record { by_index = λ cells. c.advance.ensures.by_index _ _ cells; phases_unchanged = on_err _ c.advance.result (refl, refl); phases_unchanged_2 = refl })

pub returns-in-LinkUp : goal.returns-in-LinkUp
unfolding card_effect
returns-in-LinkUp c =
    rw c.in-LinkUp.is (record { by_index = λ cells. c.link_up.ensures.by_index _ cells; phases_unchanged = both_err _ _ c.link_up.result c.link_up.ensures.phases_unchanged refl; phases_unchanged_2 = c.link_up.ensures.phases_unchanged_2 })

pub returns-in-LinkDown : goal.returns-in-LinkDown
unfolding card_effect
returns-in-LinkDown c = rw c.in-LinkDown.is c.link_down.ensures

pub returns-in-ColdReset : goal.returns-in-ColdReset
unfolding card_effect
returns-in-ColdReset c =
    rw c.in-ColdReset.is (record { by_index = c.cold_reset.ensures.by_index; phases_unchanged = none_err _ c.cold_reset.result c.cold_reset.ensures.result_value; phases_unchanged_2 = c.cold_reset.ensures.phases_unchanged })

pub returns-in_default : goal.returns-in_default
unfolding card_effect
returns-in_default c =
    let n = c.in_default in
    record { by_index = λ cells. sym (card_other _ _ _ _ n.not-Advance n.not-LinkUp n.not-LinkDown n.not-ColdReset); phases_unchanged = (refl, refl); phases_unchanged_2 = refl }
