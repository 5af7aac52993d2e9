-- The rows go where they went.
use Rattle.std.proofs.Common.{◌≡◌}
use Rattle.cli_lateness.proofs.rows.Outputs.put_capture.Given as goal

abbrev pub invariant-loop-slot : goal.invariant-loop-slot
invariant-loop-slot l = l.self.rows.writer.to ≡ l.initial.self.rows.writer.to
