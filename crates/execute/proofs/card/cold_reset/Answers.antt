-- `execute::card::cold_reset` meets its contract.
use mathlib.Core.Path.{refl}
use Rattle.records.specs.CardRecords.{cold_reset_effect}
use Rattle.execute.proofs.Answers.{alike}
use Rattle.execute.proofs.card.cold_reset.Goals as goal

pub returns : goal.returns
unfolding cold_reset_effect
returns c =
    let stopped = c in
    record { by_index = λ cells. alike cells c.after_cold_reset.ensures stopped.stop_all.ensures.phases_after stopped.cold_reset.ensures; result_value = refl; phases_unchanged = stopped.stop_all.ensures.phases_unchanged }
