-- `sheet_text::cards::put_words` meets its contract.
use Rattle.sheet_text.proofs.Loops.{starts, turns, ends, words_more, words_none}
use Rattle.sheet_text.proofs.cards.put_words.Goals as goal

pub loop-i-init : goal.loop-i-init
loop-i-init c = starts

pub loop-i-preserved : goal.loop-i-preserved
loop-i-preserved c = turns _ _ c.loop-i.invariant (words_more _ _ c.loop-i-test.true) c.put_word.ensures

pub returns : goal.returns
returns c = ends c.loop-i.invariant (words_none _ _ c.loop-i-test.false)
