-- `state_image::state::put_carried` meets its contract.
use Prim.Native.Nat.{ℕ, suc, ◌+◌, ◌<◌}
use mathlib.Core.Bool.{cond}
use mathlib.Core.List.{List}
use mathlib.Core.Path.{◌≡◌, refl, ap, ◌∙◌}
use native.Mathlib.Omega.{arith}
use lib.Seq.{sets}
use lib.ListN.{length, drop, get_or, set}
use lib.Dec.{ltb}
use borrow.Author.Rules.{rules}
use Rattle.state_layout.proofs.Steps.{up_to_more, up_to_none}
use Rattle.state_layout.proofs.Stores.{store_one, store_none}
use Rattle.state_layout.specs.Image.{up_to}
use Rattle.state_image.proofs.state.put_carried.Goals as goal

pub loop-i-init : goal.loop-i-init
loop-i-init c = (refl, refl)

pub loop-i-preserved : goal.loop-i-preserved
loop-i-preserved c = let l = c in
    let a = l.args in
    let i = l.loop-i.i in
    let long : length a.carried ≡ 16 = search rules in
    let h : i < length a.carried = omega (arith, long, c.loop-i-test.true) in
    let k : 29 + (i + 1) ≡ suc (29 + i) = omega arith in
    let v = cond (ltb i a.count) (get_or a.carried i 0) 0 in
    let rest = drop (i + 1) (up_to a.count a.carried) in (
      search rules,
      ap (λ (x : List ℕ). sets x (29 + (i + 1)) rest) (c.put.ensures ∙ ap (λ (x : ℕ). set l.loop-i.bytes (29 + i) x) c.shown.ensures)
          ∙ store_one l.loop-i.bytes (drop i (up_to a.count a.carried)) rest (29 + i) (29 + (i + 1)) v (up_to_more a.count i a.carried h) k
          ∙ l.loop-i.invariant.1,
    )

pub returns : goal.returns
returns c = let l = c in
    let a = l.args in
    let i = l.loop-i.i in
    let long : length a.carried ≡ 16 = search rules in
    store_none l.loop-i.bytes (drop i (up_to a.count a.carried)) (29 + i) (up_to_none a.count i a.carried (omega (arith, long, c.loop-i-test.false))) ∙ l.loop-i.invariant.1
