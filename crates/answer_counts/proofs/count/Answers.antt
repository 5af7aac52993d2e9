-- `answer_counts::count` meets its contract.
use Rattle.std.proofs.Common.{ℕ, List, ap}
use Rattle.answer_counts.specs.declared.Counts.{Counts}
use Rattle.answer_counts.proofs.count.Goals as goal

pub returns : goal.returns
returns c = let counts : List ℕ → Counts = λ l. record { by = l } in ap counts c.count_each.ensures
