-- `state_image::state::put_singles` meets its contract.
use Prim.Native.Nat.{ℕ}
use mathlib.Core.List.{List}
use mathlib.Core.Path.{ap, ◌∙◌}
use lib.ListN.{set}
use Rattle.state_layout.specs.Image.{single_bytes}
use Rattle.bits.specs.Bits.{one}
use Rattle.state_image.proofs.state.put_singles.Goals as goal

pub returns : goal.returns
unfolding single_bytes
returns c = let d = c.args.dev in
    c.put.ensures
    ∙ ap (λ (l : List ℕ). set l 23 d.control.signalling)
    (c.put_bool-7.ensures
    ∙ ap (λ (l : List ℕ). set l 22 (one d.control.frs_interrupt))
    (c.put_bool-6.ensures
    ∙ ap (λ (l : List ℕ). set l 21 (one d.control.visibility))
    (c.put_bool-5.ensures
    ∙ ap (λ (l : List ℕ). set l 20 (one d.drs_received))
    (c.put_bool-4.ensures
    ∙ ap (λ (l : List ℕ). set l 19 (one d.queue.overflow))
    (c.put_bool-3.ensures
    ∙ ap (λ (l : List ℕ). set l 18 (one d.queue.received))
    (c.put_bool-2.ensures
    ∙ ap (λ (l : List ℕ). set l 17 (one d.owed))
    c.put_bool.ensures))))))
