-- `text_fields::no_field` meets its contract.
use mathlib.Core.Path.{ap₂}
use lib.Dec.{eqb}
use Rattle.text_fields.specs.Text.{no_field}
use Rattle.text_fields.proofs.Runs.{its_end}
use Rattle.text_fields.proofs.no_field.Goals as goal

pub returns : goal.returns
unfolding no_field
returns c =
    let args = c.args in
    ap₂ eqb c.field_start-from.ensures (its_end args.k args.line.now c.field_start-from.ensures c.field_end.ensures)
