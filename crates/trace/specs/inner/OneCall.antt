-- One call that isn't refused, broken or not.
use Rattle.std.specs.Prelude.{ℕ, List}
use Rattle.trace.specs.Format.{when◌then◌else◌}
use Rattle.trace.specs.Bench.{Device, Bench}
use Rattle.trace.specs.Feed.{Fed, stopped, feed_open}

-- a broken trace stays broken, and nothing is consumed
unfoldable pub feed : {S : Type 0} → Device S → Bench S → ℕ → List ℕ → Fed S
feed D p room input = when p.broken then stopped 31 p else feed_open D p room input
