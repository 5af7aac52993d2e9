-- `replay::writing::put_bytes` meets its contract.
use Prim.Native.Nat.{ℕ, ◌+◌, ◌-◌}
use native.Mathlib.Omega.{arith}
use mathlib.Core.Path.{◌≡◌, ap, ◌∙◌}
use lib.ListN.{take, drop}
use Rattle.replay.proofs.Pasting.{put_pasted}
use Rattle.replay.proofs.writing.put_bytes.Goals as goal

pub returns : goal.returns
returns c =
    let a = c.args in
    let many : a.from + a.size - a.from ≡ a.size = omega arith in
    put_pasted a.trace.now a.at (drop a.from a.input.now) _ a.size _
    (c.copy_from_slice.ensures.after ∙ ap (λ (n : ℕ). take n (drop a.from a.input.now)) many)
    (omega arith)
