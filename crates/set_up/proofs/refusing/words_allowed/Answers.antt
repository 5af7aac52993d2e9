-- `set_up::refusing::words_allowed` meets its contract.
use mathlib.Core.Path.{sym, ◌∙◌}
use mathlib.Core.Bool.{and-true}
use Rattle.demand3.proofs.Refusals.{words_checked}
use Rattle.set_up.proofs.refusing.words_allowed.Goals as goal

pub returns-then-default_allowed : goal.returns-then-default_allowed
returns-then-default_allowed c =
    let a = c.args in
    rw (words_checked a.kind a.defaults.now a.slot _ c.checked_words.ensures.value, sym c.default_allowed.ensures ∙ c.if-default_allowed.true, and-true) c.default_allowed-then-default_allowed.ensures

pub returns-else-default_allowed : goal.returns-else-default_allowed
returns-else-default_allowed c =
    let a = c.args in
    rw (words_checked a.kind a.defaults.now a.slot _ c.checked_words.ensures.value, sym c.default_allowed.ensures ∙ c.if-default_allowed.false) c.if-default_allowed.false
