-- `sheet::reading::is_too_long` meets its contract.
use mathlib.Core.Path.{ap, ◌∙◌}
use lib.Dec.{ltb}
use Rattle.times.specs.declared.Nanos.{Nanos}
use Rattle.times.specs.Codes.{greatest_time}
use Rattle.sheet_grammar.specs.Reading.{is_too_long}
use Rattle.sheet.proofs.reading.is_too_long.Goals as goal

pub returns : goal.returns
unfolding is_too_long
returns c = ap (ltb greatest_time) (c.nanos_number.ensures ∙ ap (λ (t : Nanos). t.0) c.claimed_nanos.ensures)
