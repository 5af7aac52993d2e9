-- `execute::card::advance_alone` meets its contract.
use mathlib.Core.Path.{ap, sym, ◌∙◌}
use mathlib.Core.Bool.{◌&&◌}
use Rattle.readiness.specs.declared.Dev.{Dev}
use Rattle.readiness.specs.Status.{all_ready}
use Rattle.readiness.specs.Events.{due}
use Rattle.records.specs.State.{state}
use Rattle.records.specs.Answer.{answered}
use Rattle.records.specs.inner.Parts.{card_effect, card_run}
use Rattle.execute.proofs.Resting.{rest_answered}
use Rattle.execute.proofs.card.advance_alone.Goals as goal

pub returns-in-Ok : goal.returns-in-Ok
unfolding card_run card_effect
returns-in-Ok c =
    λ setup defaults statuses live cells none drs.
    let s = state c.args.dev statuses live cells in
    let moved = c.in-Ok.ensures.moved in
    ap (answered setup s) (sym (c.in-Ok.ensures.by_index statuses live cells))
    ∙ rest_answered setup s c.in-Ok.after statuses live cells (ap (λ (d : Dev). due d.clock statuses) moved ∙ none) (ap (λ (d : Dev). d.owed && all_ready setup statuses) moved ∙ drs)
    ∙ sym (λ i. record { after = state c.in-Ok.after statuses live cells; reply = c.plain_reply.ensures i })

pub returns-in-Err : goal.returns-in-Err
unfolding card_run card_effect answered
returns-in-Err c =
    λ setup defaults statuses live cells none drs.
    let s = state c.args.dev statuses live cells in
    ap (answered setup s) (sym (c.in-Err.ensures.by_index statuses live cells)) ∙ sym (λ i. record { after = s; reply = c.plain_reply-in-Err.ensures i })
