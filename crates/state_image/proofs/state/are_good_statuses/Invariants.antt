-- `state_image::state::are_good_statuses` meets its contract: what is left to look at decides.
use Prim.Native.Nat.{◌+◌, ◌*◌, ◌-◌}
use mathlib.Core.Path.{◌≡◌}
use lib.ListN.{drop}
use Rattle.state_layout.specs.Reading.{good_statuses}
use Rattle.state_image.proofs.state.are_good_statuses.Given as goal

abbrev pub invariant-loop-i : goal.invariant-loop-i
invariant-loop-i l = good_statuses (32 - l.i) (drop (46 + 27 * l.i) l.bytes) ≡ good_statuses 32 (drop 46 l.bytes)
