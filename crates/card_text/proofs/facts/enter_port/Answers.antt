-- `card_text::facts::enter_port` meets its contract: the number fits its type.
use Rattle.std.proofs.Common.{arith, sym}
use Rattle.card_grammar.specs.Grammar.{port_fact}
use Rattle.card_grammar.proofs.Kept.{if_ok, Within, fact_within}
use Rattle.card_text.proofs.facts.enter_port.Goals as goal

pub overflow_cast-named : goal.overflow_cast-named
overflow_cast-named c =
    let within : Within port_fact c.in_ok-number_fact.field-0 =
    if_ok (Within port_fact) (sym c.in_ok-number_fact.ensures) (fact_within port_fact c.is_some.result c.args.line.now) in
    omega arith
