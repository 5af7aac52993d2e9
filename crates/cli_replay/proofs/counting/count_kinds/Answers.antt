-- From turn to turn a kind byte more was passed; at the end none is left.
use Rattle.std.proofs.Common.{ℕ, ◌+◌, ◌%◌, ◌^◌, ap}
use Rattle.cli_replay.proofs.KindBytes.{turns, counted, left}
use Rattle.cli_replay.proofs.counting.count_kinds.Goals as goal

pub loop-ahead-preserved : goal.loop-ahead-preserved
loop-ahead-preserved c = turns _ _ _ _ _ c.loop-ahead.invariant c.loop-ahead-test.true _ c.to_next-ahead.ensures

pub returns-clause-begun_value : goal.returns-clause-begun_value
returns-clause-begun_value c = ap (λ (i : ℕ). (c.args.kinds.begun + i) % 2 ^ 64) (counted _ _ _ _ _ c.loop-ahead.invariant c.loop-ahead-test.false)

pub returns-clause-ahead_value : goal.returns-clause-ahead_value
returns-clause-ahead_value c = left _ _ _ _ _ c.loop-ahead.invariant c.loop-ahead-test.false
