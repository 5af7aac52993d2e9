-- `config_words::cold_reset` meets its contract. The loop's invariant: the words up to n are reset, and the rest are as they were.
use Rattle.std.proofs.Common.{◌≡◌, length}
use Rattle.config_space.specs.Functions.{reset_where, cold_word}
use Rattle.config_words.specs.inner.Resetting.{between}
use Rattle.config_words.proofs.cold_reset.Given as goal

abbrev pub invariant-loop-n : goal.invariant-loop-n
invariant-loop-n l = (length l.live ≡ length l.initial.live) × (l.live ≡ reset_where (between 0 l.n) cold_word l.initial.live l.defaults)
