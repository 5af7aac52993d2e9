-- `text_fields::number_at` meets its contract: the part of the line between start and end is the field.
use mathlib.Core.Path.{ap, ◌∙◌}
use Rattle.text_fields.specs.Text.{number_of}
use Rattle.text_fields.proofs.Runs.{its_end_most, its_field}
use Rattle.text_fields.proofs.number_at.Goals as goal

pub slice_bounds-number_of-end : goal.slice_bounds-number_of-end
slice_bounds-number_of-end c = its_end_most c.args.k c.args.line.now c.field_start-from.ensures c.field_end-to.ensures

pub returns : goal.returns
returns c =
    let ended = c in
    let args = ended.args in
    c.number_of.ensures ∙ ap (number_of args.form) (its_field args.k args.line.now ended.field_start-from.ensures ended.field_end-to.ensures)
