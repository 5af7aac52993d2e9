-- `state_image::state::state_bytes` meets its contract.
use Prim.Native.Nat.{◌+◌, ◌*◌, ◌≤◌}
use mathlib.Core.List.{List}
use mathlib.Core.Path.{◌≡◌, ap, ◌∙◌}
use native.Mathlib.Omega.{arith}
use lib.Seq.{sets, take_all}
use lib.ListN.{length, replicate}
use borrow.Author.Rules.{rules}
use Rattle.state_layout.proofs.Steps.{length-state}
use Rattle.state_layout.proofs.Stores.{sets-whole}
use Rattle.state_layout.specs.Image.{state_bytes}
use Rattle.readiness.specs.declared.Status.{Status}
use Rattle.state_image.proofs.state.state_bytes.Goals as goal

pub returns : goal.returns
returns c =
    let a = c.args in
    let long : length a.port.carried ≡ 16 = search rules in
    let lent : length a.statuses ≡ 32 = search rules in
    let all : length a.statuses ≤ 32 = omega (arith, lent) in
    let e : 46 + 27 * length a.statuses ≡ 910 = omega (arith, lent) in
    c.put_state.ensures
    ∙ ap (λ (s : List Status). sets (replicate 910 0) 0 (state_bytes a.port s)) (take_all 32 a.statuses all)
    ∙ sets-whole (state_bytes a.port a.statuses) (replicate 910 0) (length-state a.port a.statuses long ∙ e)
