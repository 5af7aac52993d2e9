-- `replay::writing::write_entries` meets its contract: OneMore has an entry, Pasting its bytes.
use Prim.Native.Nat.{◌-◌, ◌≤◌}
use mathlib.Core.Path.{◌≡◌}
use lib.ListN.{length, take}
use Rattle.capture.specs.Replay.{after_entry}
use Rattle.replay.specs.inner.Stretches.{WrittenOut}
use Rattle.replay.proofs.writing.write_entries.Given as goal

abbrev pub invariant-loop-e : goal.invariant-loop-e
invariant-loop-e l =
    WrittenOut (after_entry l.initial.before) l.space l.from l.input (after_entry l.before) l.at (l.space - l.left) (take l.len l.trace)
    × (l.left ≤ l.space) × (l.len ≤ length l.trace) × (length l.trace ≡ length l.initial.trace)

abbrev pub decreases-loop-e : goal.decreases-loop-e
decreases-loop-e l = length l.input - l.at
