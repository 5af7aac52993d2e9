-- `score::collecting::difference_at` meets its contract.
use Rattle.times.specs.declared.Nanos.{Nanos}
use Rattle.std.specs.Prelude.{Option}
use mathlib.Core.Path.{ap, ◌∙◌}
use Rattle.lateness.specs.Lateness.{bench_time, lateness_of}
use Rattle.score.specs.Scores.{difference_at}
use Rattle.score.proofs.collecting.difference_at.Goals as goal

pub returns : goal.returns
unfolding difference_at
returns c = let a = c.args in c.of_slot.ensures ∙ ap (λ (m : Option Nanos). lateness_of (bench_time a.slots a.bench a.slot) m) c.bench_time.ensures
