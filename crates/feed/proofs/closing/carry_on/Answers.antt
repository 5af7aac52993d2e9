-- `feed::closing::carry_on` meets its contract.
use borrow.Author.Rules.{rules}
use mathlib.Core.Path.{◌≡◌, ap}
use mathlib.Core.List.{◌++◌}
use native.Mathlib.Omega.{arith}
use lib.ListN.{length}
use Rattle.trace.proofs.Lists.{length_joined}
use Rattle.trace.proofs.Loop.{end_few}
use Rattle.decode.specs.declared.Ending.{Ending}
use Rattle.demand3.specs.Held.{carried_of}
use Rattle.feed.proofs.closing.carry_on.Goals as goal

pub first_bytes-requires : goal.first_bytes-requires
first_bytes-requires c =
    let s = c in
    let n : length s.args.port.carried ≡ 16 = search rules in
    let t = carried_of s.args.port ++ s.args.input.now in
    let e = ap (λ (x : Ending). x.count) c.ending-end.ensures in
    let f = end_few t in
    (omega arith, (omega (arith, n, s.requires), omega (arith, e, f.0), omega (arith, e, f.1, length_joined s.args.port.carried s.args.input.now s.args.port.carried_len (omega (arith, n, s.requires)))))
