use Rattle.std.proofs.Common.{◌≡◌}
use Rattle.lent_statuses.proofs.Copies.{pad_to}
use Rattle.lent_statuses.proofs.load.Given as goal

abbrev pub invariant-loop-i : goal.invariant-loop-i
invariant-loop-i l = l.array ≡ pad_to l.statuses l.i
