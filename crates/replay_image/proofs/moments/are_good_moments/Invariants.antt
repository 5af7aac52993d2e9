-- `replay_image::moments::are_good_moments` meets its contract: the first i slots say yes or no.
use Prim.Native.Nat.{◌*◌}
use mathlib.Core.Path.{◌≡◌}
use mathlib.Core.Bool.{true}
use Rattle.bits.specs.Every.{every}
use Rattle.state_layout.specs.Reading.{yes_or_no}
use Rattle.replay_image.proofs.moments.are_good_moments.Given as goal

abbrev pub invariant-loop-i : goal.invariant-loop-i
invariant-loop-i l = every l.i (λ k. yes_or_no (9 * k) l.bytes) ≡ true
