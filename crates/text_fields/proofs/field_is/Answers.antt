-- `text_fields::field_is` meets its contract: the part of the line between start and end is the field.
use mathlib.Core.Path.{ap, ◌∙◌}
use mathlib.Core.List.{List}
use Prim.Native.Nat.{ℕ}
use Rattle.text_fields.specs.Text.{same}
use Rattle.text_fields.proofs.Runs.{its_end_most, its_field}
use Rattle.text_fields.proofs.field_is.Goals as goal

pub slice_bounds-eq-end : goal.slice_bounds-eq-end
slice_bounds-eq-end c = its_end_most c.args.k c.args.line.now c.field_start-from.ensures c.field_end-to.ensures

pub returns : goal.returns
returns c =
    let args = c.args in
    c.eq.ensures ∙ ap (λ (s : List ℕ). same s args.word.now) (its_field args.k args.line.now c.field_start-from.ensures c.field_end-to.ensures)
