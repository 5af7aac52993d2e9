-- `settle::starting::start_all` meets its contract: the first i slots are started.
use Prim.Native.Nat.{ℕ}
use mathlib.Core.Path.{◌≡◌}
use lib.ListN.{length}
use Rattle.times.specs.declared.Nanos.{Nanos}
use Rattle.times.specs.Codes.{nanos_of}
use Rattle.times.specs.Moments.{sum_of}
use Rattle.readiness.specs.declared.Cause.TheVariants.{LinkUp}
use Rattle.readiness.specs.declared.Status.{Status}
use Rattle.readiness.specs.declared.Setup.{Setup}
use Rattle.readiness.specs.Status.{pending, entry_of, each_from}
use Rattle.readiness.specs.inner.Phases.{statuses_in, moments_in}
use Rattle.settle.proofs.starting.start_all.Given as goal

abbrev started : Setup → Nanos → ℕ → Status
started setup clock slot = pending LinkUp (sum_of clock (nanos_of (entry_of setup slot).dl_up))

abbrev pub invariant-loop-i : goal.invariant-loop-i
invariant-loop-i l = (length l.phases ≡ length l.initial.phases) × (statuses_in l.phases ≡ each_from 0 l.i (started l.setup l.dev.clock) (statuses_in l.initial.phases)) × (moments_in l.phases ≡ moments_in l.initial.phases)
