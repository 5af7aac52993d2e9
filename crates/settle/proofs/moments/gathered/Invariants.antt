-- `settle::moments::gathered` meets its contract: the numbers of the first i slots are read.
use mathlib.Core.Path.{◌≡◌}
use lib.ListN.{length, take}
use Rattle.readiness.specs.MadeReady.{moments_of}
use Rattle.readiness.specs.inner.Phases.{moments_in, moments_with}
use Rattle.settle.proofs.moments.gathered.Given as goal

abbrev pub invariant-loop-i : goal.invariant-loop-i
invariant-loop-i l = (length l.m.at_ns ≡ 32) × (moments_of l.m ≡ moments_with (moments_of l.initial.m) (take l.i (moments_in l.phases)))
