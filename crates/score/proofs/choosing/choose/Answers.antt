-- `score::choosing::choose` meets its contract.
use mathlib.Core.Path.{◌≡◌, refl, ap, ◌∙◌}
use mathlib.Core.List.{List}
use Prim.Native.Nat.{ℕ, suc, ◌+◌}
use Rattle.lateness.proofs.Ints.{told}
use native.Mathlib.Omega.{arith}
use lib.ListN.{length, get_or}
use lib.IntN.{ℤ, pos}
use Rattle.score.specs.Scores.{Picked, is_of, pick, chosen}
use borrow.Author.Rules.{rules}
use Rattle.score.proofs.choosing.choose.Goals as goal

none : (v : List ℤ) (s : List ℕ) (k : ℕ) (p : Picked) → p ≡ chosen v s k 0 p
unfolding chosen
none v s k p = refl

next : (v : List ℤ) (s : List ℕ) (k i : ℕ) (p : Picked) → pick (is_of s i k) (get_or v i (pos 0)) (chosen v s k i p) ≡ chosen v s k (i + 1) p
unfolding chosen
next v s k i p = let e : suc i ≡ i + 1 = omega arith in ap (λ (n : ℕ). chosen v s k n p) e

pub loop-i-init : goal.loop-i-init
loop-i-init c = (refl, none c.args.values.now c.args.of.now c.args.slot (record { count = 0; list = c.args.list.now }))

pub loop-i-preserved : goal.loop-i-preserved
loop-i-preserved c =
    let a = c.args in
    let l = c.loop-i in
    let first : Picked = record { count = 0; list = a.list.now } in (
      search rules,
      c.pick_if-count.ensures ∙ (λ i. pick (c.is_of.ensures i) (told (get_or a.values.now l.i (pos 0)) c.d-1.given i) (l.invariant.1 i))
          ∙ next a.values.now a.of.now a.slot l.i first,
    )

pub returns : goal.returns
returns c =
    let a = c.args in
    let l = c.loop-i in
    let z : l.i ≡ length a.values.now = omega arith in
    l.invariant.1 ∙ ap (λ (n : ℕ). chosen a.values.now a.of.now a.slot n (record { count = 0; list = a.list.now })) z
