-- `state_image::state::put_state` meets its contract.
use Prim.Native.Nat.{ℕ}
use mathlib.Core.List.{List}
use mathlib.Core.Path.{◌≡◌, ap, ◌∙◌}
use lib.Seq.{sets}
use lib.ListN.{length, take}
use borrow.Author.Rules.{rules}
use Rattle.state_layout.proofs.Steps.{state_stores}
use Rattle.state_layout.specs.Image.{statuses_bytes}
use Rattle.state_image.proofs.state.put_state.Goals as goal

pub returns : goal.returns
returns c =
    let a = c.args in
    let long : length a.port.carried ≡ 16 = search rules in
    c.put_statuses.ensures ∙ ap (λ (l : List ℕ). sets l 46 (statuses_bytes (take a.lent a.statuses))) c.put_port.ensures ∙ state_stores a.bytes.now a.port (take a.lent a.statuses) long
