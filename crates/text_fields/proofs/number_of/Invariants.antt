-- `text_fields::number_of` meets its contract. The loop's invariant: the digits left, read on, give the number; i digits are below 16^i.
use mathlib.Core.Path.{◌≡◌}
use Prim.Native.Nat.{◌^◌, ◌≤◌, ◌<◌}
use lib.ListN.{length, drop}
use Rattle.text_fields.specs.Text.{base_of, value_from, number_of}
use Rattle.text_fields.proofs.number_of.Given as goal

abbrev pub invariant-loop-b : goal.invariant-loop-b
invariant-loop-b l = record {
  wide : length l.s ≤ 8;
  base_is : l.base ≡ base_of l.form.base;
  small : l.value < 16 ^ l.b-index;
  rest : value_from l.form.base l.value (drop l.b-index l.s) ≡ number_of l.form l.s;
}
