use borrow.Author.Rules.{rules}
use Rattle.happenings.specs.inner.Started.{started_by}
use Rattle.left_to_happen.proofs.writes.status_by.Goals as goal

pub returns-in-FlrStarted : goal.returns-in-FlrStarted
unfolding started_by
returns-in-FlrStarted c = simp c.in-FlrStarted.is c.flr_status.ensures

pub returns-in-WakesReset : goal.returns-in-WakesReset
unfolding started_by
returns-in-WakesReset c = simp c.in-WakesReset.is c.d3hot_status.ensures

pub returns-in-WakesKept : goal.returns-in-WakesKept
unfolding started_by
returns-in-WakesKept c = simp c.in-WakesKept.is c.d3hot_status-in-WakesKept.ensures

pub returns-in-NoFlr : goal.returns-in-NoFlr
unfolding started_by
returns-in-NoFlr c = search rules

pub returns-in-EntersD3hot : goal.returns-in-EntersD3hot
unfolding started_by
returns-in-EntersD3hot c = search rules

pub returns-in-Plain : goal.returns-in-Plain
unfolding started_by
returns-in-Plain c = search rules
