-- `seen::reading::is_too_long` meets its contract.
use mathlib.Core.Path.{ap, ◌∙◌}
use lib.Dec.{ltb}
use Rattle.times.specs.declared.Nanos.{Nanos}
use Rattle.seen_grammar.specs.Reading.{longest_seen, is_too_long}
use Rattle.seen.proofs.reading.is_too_long.Goals as goal

pub returns : goal.returns
unfolding is_too_long
returns c = ap (ltb longest_seen) (c.nanos_number.ensures ∙ ap (λ (t : Nanos). t.0) c.claimed_nanos.ensures)
