use borrow.Author.Rules.{rules}
use Rattle.happenings.specs.inner.Started.{is_start}
use Rattle.left_to_happen.proofs.writes.is_start.Goals as goal

pub returns-in-FlrStarted : goal.returns-in-FlrStarted
unfolding is_start
returns-in-FlrStarted c = search rules

pub returns-in-WakesReset : goal.returns-in-WakesReset
unfolding is_start
returns-in-WakesReset c = search rules

pub returns-in-WakesKept : goal.returns-in-WakesKept
unfolding is_start
returns-in-WakesKept c = search rules

pub returns-in-NoFlr : goal.returns-in-NoFlr
unfolding is_start
returns-in-NoFlr c = search rules

pub returns-in-EntersD3hot : goal.returns-in-EntersD3hot
unfolding is_start
returns-in-EntersD3hot c = search rules

pub returns-in-Plain : goal.returns-in-Plain
unfolding is_start
returns-in-Plain c = search rules
