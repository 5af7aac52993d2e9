-- `times::encode` meets its contract. The loop's invariant: the claim's code is the first from this scale on.
use mathlib.Core.Path.{◌≡◌, refl, sym, ap, ◌∙◌}
use mathlib.Core.Bool.{cond}
use Prim.Native.Nat.{ℕ, suc, ◌+◌, ◌-◌, ◌≤◌, ◌<◌}
use native.Mathlib.Numerals.{add-one}
use native.Mathlib.Omega.{arith}
use lib.Dec.{leb}
use borrow.Author.Tests.{le-leb, lt-leb}
use Rattle.times.specs.Codes.{power_of}
use Rattle.std.specs.Prelude.{Some, None}
use Rattle.times.specs.Encoder.{rounded_up, greatest_value, fits_at, code_of, first_from, encoded}
use Rattle.times.proofs.Scales.{power_pos, power_low, value_most}
use Rattle.times.proofs.Encodes.{none}
use Rattle.times.proofs.encoding.encode.Goals as goal

-- one scale, by the value that the code computes
module _ (t s by value most : ℕ) (l : s < 6) (is_by : by ≡ power_of s) (is_value : value ≡ rounded_up t by) (is_most : most ≡ greatest_value s) where
  open_up : first_from (6 - s) s t ≡ cond (leb value most) (Some (code_of value s)) (first_from (6 - (s + 1)) (s + 1) t)
  unfolding first_from fits_at
  open_up =
      let n : 6 - s ≡ suc (6 - (s + 1)) = omega arith in
      rw (n, is_most, is_value, is_by, add-one s) refl

  pub found : value ≤ most → first_from (6 - s) s t ≡ Some (code_of value s)
  found h = open_up ∙ rw (le-leb value most h) refl

  pub passed : most < value → first_from (6 - s) s t ≡ first_from (6 - (s + 1)) (s + 1) t
  passed h = open_up ∙ rw (lt-leb value most h) refl

ended : (t s : ℕ) → 6 - s ≡ 0 → first_from (6 - s) s t ≡ None
unfolding first_from
ended t s e = rw e refl

pub returns-then-n-gt-GREATEST_TIME : goal.returns-then-n-gt-GREATEST_TIME
returns-then-n-gt-GREATEST_TIME c = sym (none c.args.t c.if-n-gt-GREATEST_TIME.true)

pub rounded_up-value-requires : goal.rounded_up-value-requires
rounded_up-value-requires c =
    let s = c.loop-scale.scale in
    let low : c.factor.result ≤ 33554432 = omega (arith, c.factor.ensures, power_low s c.loop-scale-test.true) in
    (omega (arith, c.factor.ensures, power_pos s), omega arith)

pub code_at-requires : goal.code_at-requires
code_at-requires c =
    let s = c.loop-scale.scale in
    (omega (arith, c.greatest_value-most.ensures, value_most s c.loop-scale-test.true), omega arith)

pub returns-then-value-most : goal.returns-then-value-most
unfolding encoded
returns-then-value-most c =
    let b = c in
    ap Some c.code_at.ensures
    ∙ sym
    (b.loop-scale.invariant
    ∙ found _ _ _ _ _ b.loop-scale-test.true b.factor.ensures b.rounded_up-value.ensures b.greatest_value-most.ensures b.if-value-most.true)

pub loop-scale-preserved : goal.loop-scale-preserved
loop-scale-preserved c =
    c.loop-scale.invariant
    ∙ passed _ _ _ _ _ c.loop-scale-test.true c.factor.ensures c.rounded_up-value.ensures c.greatest_value-most.ensures c.if-value-most.false

pub returns : goal.returns
unfolding encoded
returns c = sym (c.loop-scale.invariant ∙ ended _ _ (omega (arith, c.loop-scale-test.false)))
