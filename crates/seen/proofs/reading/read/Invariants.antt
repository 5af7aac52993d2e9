-- `seen::reading::read` meets its contract. The loop's invariant: the lines left, read on, give what all lines give.
use mathlib.Core.Path.{◌≡◌}
use Prim.Native.Nat.{◌-◌, ◌≤◌}
use lib.ListN.{length, drop}
use Rattle.sheet_grammar.specs.Reading.{lines_of}
use Rattle.seen_grammar.specs.Reading.{read_lines, seen_of}
use Rattle.seen.proofs.reading.read.Given as goal

abbrev pub invariant-loop-at : goal.invariant-loop-at
invariant-loop-at l =
    (l.at ≤ length l.text) × (l.count ≤ l.at) × (read_lines l.slots l.count (lines_of (drop l.at l.text)) l.named l.times ≡ seen_of l.text l.slots)

abbrev pub decreases-loop-at : goal.decreases-loop-at
decreases-loop-at l = length l.text - l.at
