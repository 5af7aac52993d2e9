-- `card_text::put_words` meets its contract: the words so far are those named.
use Rattle.std.proofs.Common.{◌≡◌, take}
use Rattle.card_grammar.specs.Card.{words_from}
use Rattle.card_text.proofs.put_words.Given as goal

abbrev pub invariant-loop-i : goal.invariant-loop-i
invariant-loop-i l = take l.i l.words ≡ take l.i (words_from l.named)
