-- `score::choosing::total_of_capture` meets its contract.
use mathlib.Core.Path.{ap, ◌∙◌}
use lib.ListN.{replicate}
use lib.IntN.{pos}
use Rattle.lateness.specs.declared.Report.{Report}
use Rattle.score.specs.declared.Collected.{Collected}
use Rattle.score.specs.Scores.{Lists, lists, collected, total_of, capture_total}
use Rattle.score.proofs.choosing.total_of_capture.Goals as goal

pub returns : goal.returns
unfolding capture_total
returns c =
    let a = c.args in
    let tot : Lists → Report = λ (l : Lists). total_of l.outside l.count l.values in
    c.total.ensures ∙ ap tot c.collect-c.ensures
    ∙ ap (λ (n : Collected). tot (collected a.slots a.bench a.seen 32 (lists n (replicate 32 (pos 0)) (replicate 32 0)))) c.nothing_collected.ensures
