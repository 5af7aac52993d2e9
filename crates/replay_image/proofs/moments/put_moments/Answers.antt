-- `replay_image::moments::put_moments` meets its contract.
use Rattle.std.specs.Prelude.{Option, None}
use Prim.Native.Nat.{ℕ, ◌+◌, ◌*◌}
use native.Mathlib.Omega.{arith}
use mathlib.Core.Path.{◌≡◌, refl, ap, ◌∙◌}
use mathlib.Core.List.{List}
use lib.ListN.{length, get_or, drop}
use lib.Seq.{sets}
use Rattle.times.specs.declared.Nanos.{Nanos}
use Rattle.readiness.specs.MadeReady.{moments_of}
use Rattle.readiness.proofs.SlotMoments.{length_moments}
use Rattle.state_layout.proofs.Stores.{store_many, store_none}
use Rattle.replay_image.specs.Moments.{moment_bytes, moments_bytes}
use Rattle.replay_image.proofs.MomentStores.{length_moment, moments_more, moments_none}
use borrow.Author.Rules.{rules}
use Rattle.replay_image.proofs.moments.put_moments.Goals as goal

pub loop-i-init : goal.loop-i-init
loop-i-init c = (refl, refl)

pub loop-i-preserved : goal.loop-i-preserved
loop-i-preserved c =
    let l = c.loop-i in
    let m = c.args.m in
    let all = moments_of m in
    let long : length m.at_ns ≡ 32 = search rules in
    let n : length all ≡ 32 = length_moments m ∙ long in
    let v = get_or all l.i None in
    let rest = moments_bytes (drop (l.i + 1) all) in
    let k : 9 * (l.i + 1) ≡ 9 * l.i + length (moment_bytes v) = omega (arith, length_moment v) in (
      omega (arith, c.put_moment.auto, l.invariant.0),
      ap (λ (x : List ℕ). sets x (9 * (l.i + 1)) rest) (c.put_moment.ensures ∙ ap (λ (v : Option Nanos). sets l.bytes (9 * l.i) (moment_bytes v)) c.moment.ensures)
          ∙ store_many l.bytes (moments_bytes (drop l.i all)) (moment_bytes v) rest (9 * l.i) (9 * (l.i + 1)) (moments_more l.i all (omega (arith, n))) k
          ∙ l.invariant.1,
    )

pub returns : goal.returns
returns c =
    let l = c.loop-i in
    let m = c.args.m in
    let all = moments_of m in
    let long : length m.at_ns ≡ 32 = search rules in
    let n : length all ≡ 32 = length_moments m ∙ long in
    store_none l.bytes (moments_bytes (drop l.i all)) (9 * l.i) (moments_none l.i all (omega (arith, n))) ∙ l.invariant.1
