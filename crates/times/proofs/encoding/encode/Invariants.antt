-- `times::encode` meets its contract. The loop's invariant: the claim's code is the first from this scale on.
use mathlib.Core.Path.{◌≡◌}
use Prim.Native.Nat.{◌-◌}
use Rattle.times.specs.Encoder.{first_from}
use Rattle.times.proofs.encoding.encode.Given as goal

abbrev pub invariant-loop-scale : goal.invariant-loop-scale
invariant-loop-scale l = first_from 6 0 l.n ≡ first_from (6 - l.scale) l.scale l.n
