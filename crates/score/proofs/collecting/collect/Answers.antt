-- `score::collecting::collect` meets its contract.
use mathlib.Core.Path.{◌≡◌, refl, ap, ◌∙◌}
use Prim.Native.Nat.{ℕ, suc, ◌+◌}
use Rattle.readiness.specs.declared.Moments.{Moments}
use native.Mathlib.Omega.{arith}
use Rattle.score.specs.Scores.{Lists, lists, difference_at, with_difference, collected}
use borrow.Author.Rules.{rules}
use Rattle.score.proofs.collecting.collect.Goals as goal

module _ (slots : ℕ) (bench seen : Moments) where
  none : (l : Lists) → l ≡ collected slots bench seen 0 l
  unfolding collected
  none l = refl

  next : (i : ℕ) (l : Lists) → with_difference i (difference_at slots bench seen i) (collected slots bench seen i l) ≡ collected slots bench seen (i + 1) l
  unfolding collected
  next i l = let e : suc i ≡ i + 1 = omega arith in ap (λ (n : ℕ). collected slots bench seen n l) e

pub loop-i-init : goal.loop-i-init
loop-i-init c =
    let a = c.args in
    (refl, refl, none a.slots a.bench a.seen (lists a.before a.values.now a.of.now))

pub loop-i-preserved : goal.loop-i-preserved
loop-i-preserved c =
    let a = c.args in
    let l = c.loop-i in
    let first = lists a.before a.values.now a.of.now in (
      search rules,
      search rules,
      c.with_difference-c.ensures ∙ (λ i. with_difference l.i (c.difference_at-d.ensures i) (l.invariant.2 i))
          ∙ next a.slots a.bench a.seen l.i first,
    )

pub returns : goal.returns
returns c =
    let a = c.args in
    let l = c.loop-i in
    let z : l.i ≡ 32 = omega arith in
    l.invariant.2 ∙ ap (λ (n : ℕ). collected a.slots a.bench a.seen n (lists a.before a.values.now a.of.now)) z
