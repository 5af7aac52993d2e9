-- `replay_image::moments::moments_in` meets its contract: the first slots are read.
use Rattle.replay_image.proofs.MomentStores.{ReadTo}
use Rattle.replay_image.proofs.moments.moments_in.Given as goal

abbrev pub invariant-loop-slot : goal.invariant-loop-slot
invariant-loop-slot l = ReadTo l.slot l.bytes l.m
