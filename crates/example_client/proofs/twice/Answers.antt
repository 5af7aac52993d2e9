-- What `feed_twice` says by lists of calls, said by the plain bench.
use Rattle.std.proofs.Common.{List, [], ◌∷◌, arith}
use Rattle.trace.specs.Format.{Bytes}
use Rattle.trace.specs.Calls.{Call}
use Rattle.bits.proofs.Bytes.{bytes_of}
use Rattle.demand3.specs.Held.{held}
use Rattle.demand3.specs.Compared.{Typed}
use Rattle.bench.proofs.Typed.{carried_bytes_lem}
use Rattle.two_calls.specs.Twice.{lend}
use Rattle.two_calls.proofs.Laws.{by_plain_bench}
use Rattle.example_client.proofs.twice.Goals as goal

pub returns : goal.returns
returns c =
    let a = c.args in
    let h = held a.port a.statuses a.live a.cells in
    let b₁ : Bytes a.first.now = bytes_of a.first.now (λ i l. omega (arith, c.type_inv.first i)) in
    let b₂ : Bytes a.second.now = bytes_of a.second.now (λ i l. omega (arith, c.type_inv.second i)) in
    let t : Typed a.setup h = record { bus = omega arith; port_id = omega arith; carried = carried_bytes_lem a.port _ c.well_formed.1.0 } in
    let cs : List Call = lend a.first.now a.first_answers.now ∷ lend a.second.now a.second_answers.now ∷ [] in
    by_plain_bench a.setup a.defaults.now h t cs (b₁, (b₂, tt)) _ c.feed_twice.ensures
