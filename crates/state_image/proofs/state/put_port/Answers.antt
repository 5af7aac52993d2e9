-- `state_image::state::put_port` meets its contract.
use Prim.Native.Nat.{ℕ, ◌%◌}
use mathlib.Core.List.{List}
use mathlib.Core.Path.{◌≡◌, ap, ◌∙◌}
use lib.Seq.{sets}
use lib.ListN.{length, set}
use borrow.Author.Rules.{rules}
use Rattle.state_layout.proofs.Steps.{port_stores}
use Rattle.state_layout.specs.Image.{up_to}
use Rattle.bits.specs.Bits.{one}
use Rattle.state_image.proofs.state.put_port.Goals as goal

pub returns : goal.returns
returns c =
    let a = c.args in
    let long : length a.port.carried ≡ 16 = search rules in
    let p = a.port in
    let n = p.carried_len in
    c.put_bool.ensures
    ∙ ap (λ (l : List ℕ). set l 45 (one p.broken))
    (c.put_carried.ensures ∙ ap (λ (l : List ℕ). sets l 29 (up_to n p.carried)) (c.put.ensures ∙ ap (λ (l : List ℕ). set l 28 (n % 256)) c.put_dev.ensures))
    ∙ port_stores a.bytes.now p long
