-- `library_code::put_state_behind` meets its contract.
use Prim.Native.Nat.{◌+◌, ◌≤◌}
use native.Mathlib.Omega.{arith}
use mathlib.Core.Path.{◌≡◌}
use lib.ListN.{length, take, length-take}
use borrow.Author.Rules.{rules}
use Rattle.library_code.proofs.Showing.{tail_stores}
use Rattle.state_layout.proofs.Steps.{length-state}
use Rattle.state_layout.specs.Image.{state_bytes}
use Rattle.library_code.proofs.put_state_behind.Goals as goal

pub returns : goal.returns
returns c =
    let long : length c.args.port.carried ≡ 16 = search rules in
    let lent : length c.args.statuses ≡ 32 = search rules in
    let s = c in
    let a = s.args in
    let v = state_bytes a.port (take a.slots a.statuses) in
    let room : 16 + length v ≤ length a.image.now = omega (arith, length-state a.port (take a.slots a.statuses) (long), length-take a.slots a.statuses, lent, s.requires.0, s.requires.1) in
    record { image_after = tail_stores v a.image.now c.put_state.new.bytes 16 room c.put_state.ensures; statuses_len = lent }
