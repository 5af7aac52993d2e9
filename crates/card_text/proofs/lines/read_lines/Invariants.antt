-- `card_text::lines::read_lines` meets its contract. The loop's invariant: the lines left, read on, give what all lines give.
use mathlib.Core.Path.{◌≡◌}
use Prim.Native.Nat.{◌-◌, ◌≤◌}
use lib.ListN.{length, drop}
use Rattle.text_fields.specs.Text.{lines_of}
use Rattle.card_grammar.specs.Grammar.{read_lines, named_until}
use Rattle.card_text.proofs.lines.read_lines.Given as goal

abbrev pub invariant-loop-at : goal.invariant-loop-at
invariant-loop-at l = record {
  within : l.at ≤ length l.text;
  short : l.count ≤ l.at;
  so_far : named_until (lines_of (drop l.at l.text)) l.named ≡ named_until (lines_of l.text) l.initial.named;
  rest : read_lines l.count (lines_of (drop l.at l.text)) l.named ≡ read_lines 0 (lines_of l.text) l.initial.named;
}

abbrev pub decreases-loop-at : goal.decreases-loop-at
decreases-loop-at l = length l.text - l.at
