-- `card_text::wanted::code_wanted` meets its contract: three digits fit.
use Rattle.std.proofs.Common.{◌+◌, ◌<◌, arith, sym, ◌∙◌}
use Rattle.card_grammar.proofs.Kept.{code_fits}
use Rattle.card_text.proofs.wanted.code_wanted.Goals as goal

pub overflow_cast-n : goal.overflow_cast-n
overflow_cast-n c =
    let fits : c.in_ok-n.n < 4096 = code_fits (c.args.k + 1) c.args.line.now (sym c.number_wanted.ensures ∙ c.in_ok-n.was) in
    omega arith
