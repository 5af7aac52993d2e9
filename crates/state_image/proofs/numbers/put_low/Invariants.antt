-- `state_image::numbers::put_low` meets its contract.
use Prim.Native.Nat.{◌+◌, ◌-◌, ◌≤◌}
use mathlib.Core.Path.{◌≡◌}
use lib.Seq.{sets}
use lib.ListN.{length}
use Rattle.state_layout.specs.Numbers.{low_first}
use Rattle.state_image.proofs.numbers.put_low.Given as goal

abbrev pub invariant-loop-i : goal.invariant-loop-i
invariant-loop-i l = (length l.bytes ≡ length l.initial.bytes) × (sets l.bytes (l.at + l.i) (low_first (l.n - l.i) l.rest) ≡ sets l.initial.bytes l.at (low_first l.n l.x))
