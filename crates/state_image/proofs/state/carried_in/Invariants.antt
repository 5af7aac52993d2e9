-- `state_image::state::carried_in` meets its contract.
use Prim.Native.Nat.{◌+◌, ◌-◌, ◌≤◌}
use mathlib.Core.Path.{◌≡◌}
use lib.ListN.{replicate}
use Rattle.bits.specs.Bytes.{byte_at}
use Rattle.bits.proofs.Lists.{done}
use Rattle.state_image.proofs.state.carried_in.Given as goal

abbrev pub invariant-loop-i : goal.invariant-loop-i
invariant-loop-i l = l.carried ≡ done l.i (λ k. byte_at l.bytes (29 + k)) (replicate 16 0)
