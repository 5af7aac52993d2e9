-- `state_image::state::put_statuses` meets its contract.
use Prim.Native.Nat.{◌+◌, ◌*◌, ◌-◌, ◌≤◌}
use Prim.Native.Nat.{◌+◌, ◌*◌, ◌-◌, ◌≤◌}
use mathlib.Core.Path.{◌≡◌}
use mathlib.Core.Path.{◌≡◌}
use lib.Seq.{sets}
use lib.ListN.{length, take, drop}
use lib.Seq.{sets}
use lib.ListN.{length, take, drop}
use Rattle.state_layout.specs.Image.{statuses_bytes}
use Rattle.state_layout.specs.Image.{statuses_bytes}
use Rattle.state_image.proofs.state.put_statuses.Given as goal

abbrev pub invariant-loop-i : goal.invariant-loop-i
invariant-loop-i l = (l.lent ≤ 32) × (length l.bytes ≡ length l.initial.bytes) × (sets l.bytes (46 + 27 * l.i) (statuses_bytes (drop l.i (take l.lent l.statuses))) ≡ sets l.initial.bytes 46 (statuses_bytes (take l.lent l.statuses)))
