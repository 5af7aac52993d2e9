-- `set_up::refusing::all_codes_allowed` meets its contract: the codes of the first i slots are allowed.
use mathlib.Core.Path.{◌≡◌}
use mathlib.Core.Bool.{true}
use Rattle.readiness.specs.Status.{entry_of}
use Rattle.bits.specs.Every.{every}
use Rattle.demand3.specs.Refusals.{codes_allowed}
use Rattle.set_up.proofs.refusing.all_codes_allowed.Given as goal

abbrev pub invariant-loop-i : goal.invariant-loop-i
invariant-loop-i l = every l.i (λ k. codes_allowed (entry_of l.setup k)) ≡ true
