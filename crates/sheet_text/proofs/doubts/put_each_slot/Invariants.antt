-- `sheet_text::doubts::put_each_slot` meets its contract.
use Rattle.sheet_text.specs.Doubts.{doubts_from}
use Rattle.sheet_text.proofs.Loops.{Left}
use Rattle.sheet_grammar.specs.Reading.{lines_of}
use lib.ListN.{length, drop}
use mathlib.Core.Path.{◌≡◌}
use Rattle.sheet_text.proofs.doubts.put_each_slot.Given as goal

abbrev pub invariant-loop-i : goal.invariant-loop-i
invariant-loop-i l =
    (length l.before ≡ 32)
    × (length l.after ≡ 32)
    × Left (doubts_from l.name 0 (lines_of l.text) l.before l.after) l.initial.page (doubts_from l.name l.i (lines_of l.text) (drop l.i l.before) (drop l.i l.after)) l.page
