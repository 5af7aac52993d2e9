-- `times::power` meets its contract: six arms are factors, and the others the powers of 6 and of 7, the one scale left.
use mathlib.Core.Path.{◌≡◌, sym, ap, ◌∙◌}
use Prim.Native.Nat.{ℕ, ◌<◌}
use native.Mathlib.Omega.{arith}
use borrow.Author.Rules.{rules}
use Rattle.times.specs.Codes.{power_of}
use Rattle.times.proofs.power.Goals as goal

pub returns-in-6 : goal.returns-in-6
unfolding power_of
returns-in-6 c = rw c.in-6.is

pub returns-in_default : goal.returns-in_default
unfolding power_of
returns-in_default c =
    let seven : c.args.scale ≡ 7 = omega arith in
    rw seven
