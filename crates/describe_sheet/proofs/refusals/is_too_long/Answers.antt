-- `describe_sheet::refusals::is_too_long` meets its contract.
use Rattle.sheet_grammar.specs.Reading.{is_too_long}
use Rattle.describe_sheet.proofs.refusals.is_too_long.Goals as goal

pub returns : goal.returns
unfolding is_too_long
returns c = simp (c.nanos_number.ensures, c.claimed_nanos.ensures)
