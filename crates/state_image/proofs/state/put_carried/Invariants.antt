-- `state_image::state::put_carried` meets its contract.
use Prim.Native.Nat.{◌+◌, ◌-◌, ◌≤◌}
use mathlib.Core.Path.{◌≡◌}
use lib.Seq.{sets}
use lib.ListN.{length, drop}
use Rattle.state_layout.specs.Image.{up_to}
use Rattle.state_image.proofs.state.put_carried.Given as goal

abbrev pub invariant-loop-i : goal.invariant-loop-i
invariant-loop-i l = (length l.bytes ≡ length l.initial.bytes) × (sets l.bytes (29 + l.i) (drop l.i (up_to l.count l.carried)) ≡ sets l.initial.bytes 29 (up_to l.count l.carried))
