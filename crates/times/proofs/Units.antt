-- The units relate as they should, and a claim of ten digits has room: `units`.
use mathlib.Core.Path.{◌≡◌}
use Prim.Native.Nat.{ℕ, ◌*◌, ◌≤◌, ◌<◌}
use native.Mathlib.Omega.{arith}
use Rattle.times.specs.declared.Nanos.{Nanos}
use Rattle.times.specs.declared.Unit.{Unit}
use Rattle.times.specs.declared.Unit.TheVariants.{Ns, Us, Ms}
use Rattle.times.specs.Claims.{nanos_in, claimed_nanos}
use Rattle.times.specs.Encodes.{nanos_for, Units}

pub nanos_pos : (unit : Unit) → 0 < nanos_in unit
unfolding nanos_in
nanos_pos Ns = omega arith
nanos_pos Us = omega arith
nanos_pos Ms = omega arith

in_ns : (n : ℕ) → n ≤ 9999999999 → nanos_for n Ns ≡ n
unfolding claimed_nanos nanos_in
in_ns n h = omega arith

in_us : (n : ℕ) → n ≤ 9999999999 → nanos_for n Us ≡ 1000 * n
unfolding claimed_nanos nanos_in
in_us n h = omega arith

in_ms : (n : ℕ) → n ≤ 9999999999 → nanos_for n Ms ≡ 1000000 * n
unfolding claimed_nanos nanos_in
in_ms n h = omega arith

same : (s t : Nanos) → s.0 ≡ t.0 → s ≡ t
same s t e = λ i. record { 0 = e i }

pub units : Units
units =
    record {
      ns = in_ns;
      us = in_us;
      ms = in_ms;
      ns_in_us = λ n h. same _ _ (omega (arith, in_ns (1000 * n) h, in_us n (omega arith)));
      us_in_ms = λ n h. same _ _ (omega (arith, in_us (1000 * n) h, in_ms n (omega arith)));
    }
