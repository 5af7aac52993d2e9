-- `sheet::reading::place_after` meets its contract. The loop's invariant: the lines left, counted on, end at the place.
use mathlib.Core.Path.{◌≡◌}
use Prim.Native.Nat.{◌+◌, ◌-◌, ◌≤◌}
use lib.ListN.{length, drop}
use Rattle.sheet_grammar.specs.Reading.{lines_of, place_after}
use Rattle.sheet.proofs.reading.place_after.Given as goal

abbrev pub invariant-loop-at : goal.invariant-loop-at
invariant-loop-at l = (l.at ≤ length l.text) × (l.at + place_after l.left (lines_of (drop l.at l.text)) ≡ place_after l.lines (lines_of l.text))

abbrev pub decreases-loop-at : goal.decreases-loop-at
decreases-loop-at l = length l.text - l.at
