-- `sheet::reading::read` meets its contract. The loop's invariant: the lines left, read on, give what all lines give.
use mathlib.Core.Path.{◌≡◌}
use Prim.Native.Nat.{◌-◌, ◌≤◌}
use lib.ListN.{length, drop}
use Rattle.sheet_grammar.specs.Reading.{lines_of, read_lines, sheet_of}
use Rattle.sheet.proofs.reading.read.Given as goal

abbrev pub invariant-loop-at : goal.invariant-loop-at
invariant-loop-at l =
    (l.at ≤ length l.text) × (l.count ≤ l.at) × (read_lines l.count (lines_of (drop l.at l.text)) l.named l.setup l.changed ≡ sheet_of l.text l.setup)

abbrev pub decreases-loop-at : goal.decreases-loop-at
decreases-loop-at l = length l.text - l.at
