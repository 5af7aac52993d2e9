-- `state_image::state::statuses_in` meets its contract.
use Prim.Native.Nat.{◌+◌, ◌*◌, ◌-◌, ◌≤◌}
use mathlib.Core.Path.{◌≡◌}
use lib.Seq.{sets}
use lib.ListN.{length, drop}
use Rattle.state_layout.specs.Reading.{statuses_in_bytes}
use Rattle.state_image.proofs.state.statuses_in.Given as goal

abbrev pub invariant-loop-i : goal.invariant-loop-i
invariant-loop-i l = (length l.statuses ≡ 32) × (sets l.statuses l.i (statuses_in_bytes (32 - l.i) (drop (46 + 27 * l.i) l.bytes)) ≡ statuses_in_bytes 32 (drop 46 l.bytes))
