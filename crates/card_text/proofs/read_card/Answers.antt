-- `card_text::read_card` meets its contract: where there is a card, 2,048 words are lent.
use Rattle.std.proofs.Common.{◌≡◌, ℕ, length, sym, ◌∙◌}
use Rattle.card_grammar.proofs.Kept.{if_ok}
use Rattle.card_grammar.proofs.Laws.{Parts, parts}
use Rattle.card_text.proofs.read_card.Goals as goal

pub put_words-requires : goal.put_words-requires
put_words-requires c =
    let lent : ℕ = length c.args.words.now in
    let room : lent ≡ 2048 = (if_ok (Parts c.in_ok-lines.lines c.read_lines.new.named lent) (sym c.card_from.ensures ∙ c.in-Ok.is) (parts c.in_ok-lines.lines c.read_lines.new.named lent)).room in
    room
