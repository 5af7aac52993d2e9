-- `sheet::reading::with_line` meets its contract.
use Rattle.sheet_grammar.specs.Reading.{with_line}
use Rattle.sheet.proofs.reading.with_line.Goals as goal

pub returns : goal.returns
unfolding with_line
returns c = simp c.with_times-entry.ensures
