-- `feed::opens` meets its contract.
use Prim.Native.Nat.{ℕ, ◌≤◌}
use native.Mathlib.Omega.{arith}
use mathlib.Core.Path.{◌≡◌, sym, ◌∙◌}
use mathlib.Core.List.{List}
use lib.ListN.{length, replicate, length-replicate}
use borrow.Author.Rules.{rules}
use Rattle.set_up.specs.Lent.{held_in}
use Rattle.feed.proofs.Accepting.{accepted}
use Rattle.feed.proofs.opens.Goals as goal

-- a call that isn't refused carries at most 16 bytes
pub whole_size-requires : goal.whole_size-requires
whole_size-requires c =
    let a = c.args in
    let live : List ℕ = replicate a.words 0 in
    let short : a.port.carried_len ≤ 16 =
    (accepted a.setup a.defaults.now (held_in a.port a.phases.now live a.cells.now)
    (sym (c.refusal-no.ensures live (length-replicate a.words 0)) ∙ c.if-no-ne0.false) (search rules) (search rules)).short in
    let sixteen : length a.port.carried ≡ 16 = search rules in
    omega (arith, short, sixteen)
