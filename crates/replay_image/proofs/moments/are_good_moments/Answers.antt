-- `replay_image::moments::are_good_moments` meets its contract: the first i slots say yes or no.
use Prim.Native.Nat.{ℕ, ◌*◌}
use native.Mathlib.Omega.{arith}
use mathlib.Core.Path.{◌≡◌, sym, ap, ◌∙◌}
use Rattle.bits.specs.Every.{every}
use Rattle.bits.proofs.Every.{every_none, every_more, every_not}
use Rattle.state_layout.specs.Reading.{yes_or_no}
use Rattle.replay_image.specs.Moments.{good_moments}
use Rattle.replay_image.proofs.moments.are_good_moments.Goals as goal

pub loop-i-init : goal.loop-i-init
loop-i-init c = every_none _

pub returns-then-not-is_yes_or_no : goal.returns-then-not-is_yes_or_no
unfolding good_moments
returns-then-not-is_yes_or_no c = sym (every_not 32 _ c.loop-i.i c.loop-i-test.true (sym c.is_yes_or_no.ensures ∙ c.if-not-is_yes_or_no.true))

pub loop-i-preserved : goal.loop-i-preserved
loop-i-preserved c = every_more c.loop-i.i _ c.loop-i.invariant (sym c.is_yes_or_no.ensures ∙ c.if-not-is_yes_or_no.false)

pub returns : goal.returns
unfolding good_moments
returns c =
    let e : c.loop-i.i ≡ 32 = omega arith in
    sym (ap (λ (n : ℕ). every n (λ k. yes_or_no (9 * k) c.args.bytes.now)) (sym e) ∙ c.loop-i.invariant)
