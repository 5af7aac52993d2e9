-- `times::factor` meets its contract: a test over the six entries.
use mathlib.Core.List.{List, [], ◌∷◌}
use mathlib.Core.Bool.{Bool}
use Prim.Native.Nat.{ℕ}
use lib.Dec.{eqb, eqb→eq}
use lib.ListN.{get_or}
use borrow.Author.Rules.{rules}
use Rattle.bits.proofs.Tests.{all_at}
use Rattle.times.specs.Codes.{power_of}
use Rattle.times.proofs.factor.Goals as goal

factors : List ℕ
factors = 1 ∷ 32 ∷ 1024 ∷ 32768 ∷ 1048576 ∷ 33554432 ∷ []

right : ℕ → Bool
right k = eqb (get_or factors k 0) (power_of k)

pub returns : goal.returns
unfolding factors right power_of
returns c = eqb→eq (get_or factors c.args.scale 0) (power_of c.args.scale) (all_at 6 right tt c.args.scale (search rules))
