use borrow.Author.Rules.{rules}
use mathlib.Core.Path.{◌≡◌}
use Prim.Native.Nat.{◌-◌, ◌*◌}
use Rattle.left_to_happen.proofs.Laws.{first-length, started_first}
use lib.ListN.{length}
use native.Mathlib.Omega.{arith}
use Rattle.left_to_happen.proofs.started.Goals as goal

pub start_all-requires : goal.start_all-requires
start_all-requires c =
    let a = c.args in
    let n : length c.in_numbers-phases.result ≡ 128 = search rules in
    (omega arith, first-length a.setup.slots (4 * a.setup.slots - 0) c.in_numbers-phases.result (omega arith) (omega (arith, n)))

pub returns : goal.returns
returns c =
    let a = c.args in
    started_first a.setup a.dev c.in_numbers-phases.result c.start_all.new.phases _ (4 * a.setup.slots - 0) a.statuses
    (omega arith) (omega (arith, c.phases-2-1.given, c.phases-1.given.2)) c.in_numbers-phases.ensures c.start_all.ensures.phases_after
