-- `text_fields::field_start` meets its contract. The loop's invariant: after so many turns `at` is where that field starts.
use mathlib.Core.Path.{◌≡◌}
use Rattle.text_fields.specs.Text.{field_start}
use Rattle.text_fields.proofs.field_start.Given as goal

abbrev pub invariant-loop : goal.invariant-loop
invariant-loop l = l.at ≡ field_start l.counter l.line
