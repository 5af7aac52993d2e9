-- `state_image::state::put_dev` meets its contract.
use Prim.Native.Nat.{ℕ}
use mathlib.Core.List.{List}
use mathlib.Core.Path.{ap, ◌∙◌}
use lib.Seq.{sets}
use Rattle.state_layout.specs.Image.{single_bytes, dev_bytes}
use Rattle.state_layout.specs.Numbers.{low_first}
use Rattle.state_image.proofs.state.put_dev.Goals as goal

pub returns : goal.returns
unfolding dev_bytes single_bytes low_first
returns c = let a = c.args in
    let d = a.dev in
    c.put_two-2.ensures
    ∙ ap (λ (l : List ℕ). sets l 26 (low_first 2 d.queue.depth))
    (c.put_two.ensures
    ∙ ap (λ (l : List ℕ). sets l 24 (low_first 2 d.queue.start))
    (c.put_singles.ensures
    ∙ ap (λ (l : List ℕ). sets l 16 (single_bytes d))
    (c.put_eight-2.ensures
    ∙ ap (λ (l : List ℕ). sets l 8 (low_first 8 0))
    (c.put_eight.ensures ∙ ap (λ (x : ℕ). sets a.bytes.now 0 (low_first 8 x)) c.nanos_number.ensures))))
