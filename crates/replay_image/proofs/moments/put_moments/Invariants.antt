-- `replay_image::moments::put_moments` meets its contract.
use Prim.Native.Nat.{◌*◌}
use mathlib.Core.Path.{◌≡◌}
use lib.ListN.{length, drop}
use lib.Seq.{sets}
use Rattle.readiness.specs.MadeReady.{moments_of}
use Rattle.replay_image.specs.Moments.{moments_bytes}
use Rattle.replay_image.proofs.moments.put_moments.Given as goal

abbrev pub invariant-loop-i : goal.invariant-loop-i
invariant-loop-i l = (length l.bytes ≡ length l.initial.bytes) × (sets l.bytes (9 * l.i) (moments_bytes (drop l.i (moments_of l.m))) ≡ sets l.initial.bytes 0 (moments_bytes (moments_of l.m)))
