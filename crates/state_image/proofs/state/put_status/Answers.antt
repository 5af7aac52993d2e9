-- `state_image::state::put_status` meets its contract.
use Prim.Native.Nat.{ℕ, ◌+◌}
use mathlib.Core.List.{List}
use mathlib.Core.Path.{◌≡◌, ap, ◌∙◌}
use lib.Seq.{sets}
use lib.ListN.{set}
use Rattle.state_layout.proofs.Steps.{status_stores}
use Rattle.state_layout.specs.Image.{phase_byte, cause_byte}
use Rattle.state_layout.specs.Numbers.{low_first}
use Rattle.state_image.proofs.state.put_status.Goals as goal

pub returns : goal.returns
returns c = let a = c.args in
    let at = a.at in
    let p = a.status.phase in
    let l₁ : c.put.new.bytes ≡ set a.bytes.now at (phase_byte p) = c.put.ensures ∙ (λ t. set a.bytes.now at (c.phase_byte.ensures t)) in
    let l₂ : c.put-2.new.bytes ≡ set (set a.bytes.now at (phase_byte p)) (at + 1) (cause_byte p) = c.put-2.ensures ∙ (λ t. set (l₁ t) (at + 1) (c.cause_byte.ensures t)) in
    c.put_eight-3.ensures
    ∙ ap (λ (l : List ℕ). sets l (at + 19) (low_first 8 0))
    (c.put-3.ensures
    ∙ ap (λ (l : List ℕ). set l (at + 18) 0)
    (c.put_eight-2.ensures
    ∙ (λ t. sets ((c.put_eight.ensures ∙ (λ u. sets (l₂ u) (at + 2) (low_first 8 (c.ready_time.ensures u)))) t) (at + 10) (low_first 8 (c.flr_end.ensures t)))))
    ∙ status_stores a.bytes.now at a.status
