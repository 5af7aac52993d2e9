-- What was read is within the room.
use Rattle.std.proofs.Common.{◌≤◌, length}
use Rattle.cli_io.proofs.text_file.fill.Given as goal

abbrev pub invariant-loop : goal.invariant-loop
invariant-loop l = l.at ≤ length l.room
