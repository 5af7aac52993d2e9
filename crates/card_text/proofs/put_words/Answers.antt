-- `card_text::put_words` meets its contract: the words so far are those named.
use Rattle.std.proofs.Common.{ℕ, ◌≡◌, arith, List, [], ◌∷◌, ◌++◌, length, take, get_or, sym, ap, ◌∙◌}
use Rattle.std.specs.Prelude.{Option, None, unwrap_or}
use Rattle.std.proofs.lemmas.List.{take_more, take_more_set, take_all}
use lib.ListN.{length-map, get_or-map}
use Rattle.card_grammar.specs.Card.{words_from}
use Rattle.card_text.proofs.put_words.Goals as goal

long : (named : List (Option ℕ)) → length (words_from named) ≡ length named
unfolding words_from
long named = length-map named (λ (w : Option ℕ). unwrap_or w 0)

at : (named : List (Option ℕ)) (i : ℕ) → get_or (words_from named) i 0 ≡ unwrap_or (get_or named i None) 0
unfolding words_from
at named i = get_or-map (λ (w : Option ℕ). unwrap_or w 0) named i None

pub loop-i-preserved : goal.loop-i-preserved
loop-i-preserved c =
    let l = c.loop-i in
    let w : List ℕ = words_from c.args.named.now in
    take_more_set l.words l.i c.unwrap_or.result (omega (arith, c.requires))
    ∙ ap (λ (x : ℕ). take l.i l.words ++ x ∷ []) (c.unwrap_or.ensures ∙ sym (at c.args.named.now l.i))
    ∙ ap (λ (t : List ℕ). t ++ get_or w l.i 0 ∷ []) l.invariant
    ∙ sym (take_more w l.i 0 (omega (arith, long c.args.named.now)))

pub returns : goal.returns
returns c =
    let l = c.loop-i in
    sym (take_all l.i l.words (omega (arith, c.requires)))
    ∙ l.invariant
    ∙ take_all l.i (words_from c.args.named.now) (omega (arith, long c.args.named.now))
