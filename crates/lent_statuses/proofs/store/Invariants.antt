use Rattle.std.proofs.Common.{◌≡◌}
use Rattle.lent_statuses.proofs.Copies.{write_to}
use Rattle.lent_statuses.proofs.store.Given as goal

abbrev pub invariant-loop-i : goal.invariant-loop-i
invariant-loop-i l = l.statuses ≡ write_to l.initial.statuses l.array l.i
