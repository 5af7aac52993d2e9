-- `state_image::numbers::put_low` meets its contract.
use Prim.Native.Nat.{ℕ, suc, ◌+◌, ◌-◌, ◌%◌, ◌/◌}
use mathlib.Core.List.{List}
use mathlib.Core.Path.{◌≡◌, refl, ap, ◌∙◌}
use native.Mathlib.Nat.{add-zero, sub-zero}
use native.Mathlib.Omega.{arith}
use lib.Seq.{sets}
use borrow.Author.Rules.{rules}
use Rattle.state_layout.proofs.Steps.{low_more, low_none}
use Rattle.state_layout.proofs.Stores.{store_one, store_none}
use Rattle.state_layout.specs.Numbers.{low_first}
use Rattle.state_image.proofs.numbers.put_low.Goals as goal

pub loop-i-init : goal.loop-i-init
loop-i-init c = let a = c.args in (refl, λ i. sets a.bytes.now (add-zero a.at i) (low_first (sub-zero a.n i) a.x))

pub loop-i-preserved : goal.loop-i-preserved
loop-i-preserved c = let l = c in
    let a = l.args in
    let i = l.loop-i.i in
    let x = l.loop-i.rest in
    let k : a.at + (i + 1) ≡ suc (a.at + i) = omega arith in (
      search rules,
      ap (λ (b : List ℕ). sets b (a.at + (i + 1)) (low_first (a.n - (i + 1)) (x / 256))) c.put.ensures
          ∙ store_one l.loop-i.bytes (low_first (a.n - i) x) (low_first (a.n - (i + 1)) (x / 256)) (a.at + i) (a.at + (i + 1)) (x % 256) (low_more a.n i x c.loop-i-test.true) k
          ∙ l.loop-i.invariant.1,
    )

pub returns : goal.returns
returns c = let l = c in
    let a = l.args in
    store_none l.loop-i.bytes (low_first (a.n - l.loop-i.i) l.loop-i.rest) (a.at + l.loop-i.i) (low_none a.n l.loop-i.i l.loop-i.rest c.loop-i-test.false) ∙ l.loop-i.invariant.1
