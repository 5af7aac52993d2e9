-- `library_code::run_text` meets its contract.
use mathlib.Core.Path.{ap, sym, ◌∙◌}
use Rattle.std.specs.Prelude.{Result}
use Rattle.card_grammar.specs.declared.Card.{Card}
use Rattle.card_grammar.specs.declared.CardError.{CardError}
use Rattle.card_grammar.specs.Card.{Outcome}
use Rattle.library_run.specs.Run.{run_on_read, run_on_text}
use Rattle.library_code.specs.Ways.{captured, piece_of}
use Rattle.library_code.proofs.run_text.Goals as goal

pub returns-in-Ok : goal.returns-in-Ok
unfolding run_on_text
returns-in-Ok c =
    let a = c.args in
    c.run_card.ensures
    ∙ sym (ap (λ (r : Result Card CardError). run_on_read (captured a.way) (piece_of a.way) r c.read_card.new.words a.input.now a.answers.now a.image.now) c.in-Ok.is)
    ∙ ap (λ (o : Outcome). run_on_read (captured a.way) (piece_of a.way) o.read o.words a.input.now a.answers.now a.image.now) c.read_card.ensures

pub returns-in-Err : goal.returns-in-Err
unfolding run_on_text
returns-in-Err c =
    let a = c.args in
    sym (ap (λ (r : Result Card CardError). run_on_read (captured a.way) (piece_of a.way) r c.read_card.new.words a.input.now a.answers.now a.image.now) c.in-Err.is)
    ∙ ap (λ (o : Outcome). run_on_read (captured a.way) (piece_of a.way) o.read o.words a.input.now a.answers.now a.image.now) c.read_card.ensures
