-- `times::in_nanos` meets its contract: 511 times the greatest power fits.
use mathlib.Core.Path.{◌≡◌, ap}
use Prim.Native.Nat.{ℕ, ◌*◌}
use native.Mathlib.Omega.{arith}
use Rattle.times.specs.declared.Code.{Code}
use Rattle.times.specs.Codes.{power_of, nanos_of, value_of, scale_of}
use Rattle.times.proofs.Laws.{code_most}
use Rattle.times.proofs.in_nanos.Goals as goal

-- the product that the code computes is the code's time
is_time : (k : Code) (p : ℕ) → p ≡ power_of (scale_of k) → value_of k * p ≡ (nanos_of k).0
unfolding nanos_of
is_time k p e = ap (λ (x : ℕ). value_of k * x) e

pub overflow_mul-result : goal.overflow_mul-result
overflow_mul-result c =
    let k : Code = c.args.c in
    record { fits = omega (arith, is_time k c.power.result c.power.ensures, code_most k) }

pub returns : goal.returns
returns c =
    let k : Code = c.args.c in
    ap (λ (x : ℕ). record { 0 = x }) (is_time k c.power.result c.power.ensures)
