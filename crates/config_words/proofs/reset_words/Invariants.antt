-- `config_words::reset_words` meets its contract. The loop's invariant: the words from `from` up to n are reset, and the rest are as
-- they were.
use mathlib.Core.Path.{◌≡◌}
use Prim.Native.Nat.{◌≤◌, max}
use Rattle.config_space.specs.Functions.{reset_where}
use Rattle.config_words.specs.inner.Resetting.{between, by_mask}
use Rattle.config_words.proofs.reset_words.Given as goal

abbrev pub invariant-loop-n : goal.invariant-loop-n
invariant-loop-n l = (l.n ≤ max l.from l.end) × (l.live ≡ reset_where (between l.from l.n) (by_mask l.reset) l.initial.live l.defaults)
