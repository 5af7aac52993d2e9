-- `state_image::state::carried_in` meets its contract.
use Prim.Native.Nat.{ℕ, ◌+◌}
use mathlib.Core.Path.{◌≡◌, refl, ap, ◌∙◌}
use native.Mathlib.Omega.{arith}
use lib.ListN.{replicate, set}
use Rattle.bits.specs.Bytes.{byte_at}
use Rattle.state_layout.specs.Reading.{bytes_from}
use Rattle.bits.proofs.Lists.{done, done_none, done_more, done_all}
use Rattle.state_image.proofs.state.carried_in.Goals as goal

pub loop-i-init : goal.loop-i-init
loop-i-init c = done_none _ _

pub loop-i-preserved : goal.loop-i-preserved
loop-i-preserved c = let l = c in
    let a = l.args in
    let i = l.loop-i.i in
    let f : ℕ → ℕ = λ k. byte_at a.bytes.now (29 + k) in
    (λ t. set (l.loop-i.invariant t) i (c.byte_at.ensures t)) ∙ done_more i f (replicate 16 0) c.loop-i-test.true

pub returns : goal.returns
unfolding bytes_from
returns c = let l = c in
    let a = l.args in
    let f : ℕ → ℕ = λ k. byte_at a.bytes.now (29 + k) in
    let e : l.loop-i.i ≡ 16 = omega arith in
    l.loop-i.invariant ∙ ap (λ (k : ℕ). done k f (replicate 16 0)) e ∙ done_all 16 f (replicate 16 0) refl
