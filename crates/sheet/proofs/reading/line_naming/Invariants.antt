-- `sheet::reading::line_naming` meets its contract. The loop's invariant: the lines left name the slot where all lines do.
use mathlib.Core.Path.{◌≡◌}
use Prim.Native.Nat.{◌-◌, ◌≤◌}
use lib.ListN.{length, drop}
use Rattle.sheet_grammar.specs.Reading.{lines_of, line_naming}
use Rattle.sheet.proofs.reading.line_naming.Given as goal

abbrev pub invariant-loop-at : goal.invariant-loop-at
invariant-loop-at l = (l.at ≤ length l.text) × (line_naming l.slot (lines_of (drop l.at l.text)) ≡ line_naming l.slot (lines_of l.text))

abbrev pub decreases-loop-at : goal.decreases-loop-at
decreases-loop-at l = length l.text - l.at
