-- `card_text::facts::enter_bus` meets its contract: the number fits its type.
use Rattle.std.proofs.Common.{arith, sym}
use Rattle.card_grammar.specs.Grammar.{bus_fact}
use Rattle.card_grammar.proofs.Kept.{if_ok, Within, fact_within}
use Rattle.card_text.proofs.facts.enter_bus.Goals as goal

pub overflow_cast-named : goal.overflow_cast-named
overflow_cast-named c =
    let within : Within bus_fact c.in_ok-number_fact.field-0 =
    if_ok (Within bus_fact) (sym c.in_ok-number_fact.ensures) (fact_within bus_fact c.is_some.result c.args.line.now) in
    omega arith
