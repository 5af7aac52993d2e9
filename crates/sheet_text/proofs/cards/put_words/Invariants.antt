-- `sheet_text::cards::put_words` meets its contract.
use Rattle.sheet_text.specs.Cards.{words_from}
use Rattle.sheet_text.proofs.Loops.{Left}
use lib.ListN.{drop}
use Rattle.sheet_text.proofs.cards.put_words.Given as goal

abbrev pub invariant-loop-i : goal.invariant-loop-i
invariant-loop-i l = Left (words_from 0 l.words) l.initial.page (words_from l.i (drop l.i l.words)) l.page
