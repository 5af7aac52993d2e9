-- `sheet::layout::unit_in` meets its contract.
use Rattle.sheet_grammar.specs.Layout.{unit_in}
use Rattle.sheet.proofs.layout.unit_in.Goals as goal

pub returns : goal.returns
unfolding unit_in
returns c =
    simp (c.unit_of.ensures, c.is_unit_letter.ensures, c.byte_at-first.ensures, c.byte_at.ensures)
