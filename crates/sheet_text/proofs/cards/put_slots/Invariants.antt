-- `sheet_text::cards::put_slots` meets its contract.
use mathlib.Core.Path.{◌≡◌}
use lib.ListN.{length, drop}
use Rattle.sheet_grammar.specs.Reading.{lines_of}
use Rattle.sheet_text.specs.Cards.{slots_from}
use Rattle.sheet_text.proofs.Loops.{Left}
use Rattle.sheet_text.proofs.cards.put_slots.Given as goal

abbrev pub invariant-loop-i : goal.invariant-loop-i
invariant-loop-i l =
    (length l.entry-items ≡ 32)
    × Left (slots_from 0 l.slots (lines_of l.text) l.entry-items) l.initial.page (slots_from l.i l.slots (lines_of l.text) (drop l.i l.entry-items)) l.page
