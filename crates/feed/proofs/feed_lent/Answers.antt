-- `feed::feed_lent` meets its contract.
use native.Mathlib.Omega.{arith}
use mathlib.Core.Path.{refl, ap, ◌∙◌}
use borrow.Author.Rules.{rules}
use Rattle.bits.proofs.Bytes.{bytes_of}
use Rattle.set_up.specs.Lent.{held_in}
use Rattle.feed.specs.declared.FedPort.{FedPort}
use Rattle.feed.specs.Left.{left_in_place}
use Rattle.feed.proofs.NoRecord.{Typed, typed, completes_none, refused_feeds, carries_few}
use Rattle.feed.proofs.feed_lent.Goals as goal

pub carry_on-requires : goal.carry_on-requires
carry_on-requires c =
    let a = c.args in
    let h = held_in a.port a.phases.now a.live.now a.cells.now in
    let t : Typed a.setup h a.input.now = typed a.setup h a.input.now (search rules) (search rules) (search rules) (λ i. search rules) (bytes_of a.input.now (λ i l. omega (arith, c.type_inv.input i))) in
    let o = rw c.in-Ok-None.field-0-is at c.in-Ok-None.ensures in
    carries_few a.setup a.defaults.now h a.input.now a.answers.now t (o a.live.now refl).0

pub returns-in-Ok-None : goal.returns-in-Ok-None
returns-in-Ok-None c =
    let a = c.args in
    let h = held_in a.port a.phases.now a.live.now a.cells.now in
    let t : Typed a.setup h a.input.now = typed a.setup h a.input.now (search rules) (search rules) (search rules) (λ i. search rules) (bytes_of a.input.now (λ i l. omega (arith, c.type_inv.input i))) in
    let o = rw c.in-Ok-None.field-0-is at c.in-Ok-None.ensures in
    let none = o a.live.now refl in
    ap (λ (x : FedPort). left_in_place x a.phases.now a.live.now a.cells.now a.answers.now) c.carry_on.ensures
    ∙ completes_none a.setup a.defaults.now h a.input.now a.answers.now t none.0 none.1

pub returns-in-Err : goal.returns-in-Err
returns-in-Err c =
    let a = c.args in
    let h = held_in a.port a.phases.now a.live.now a.cells.now in
    ap (λ (x : FedPort). left_in_place x a.phases.now a.live.now a.cells.now a.answers.now) c.refused.ensures
    ∙ refused_feeds a.setup a.defaults.now h a.input.now a.answers.now c.in-Err.number (c.in-Err.ensures a.live.now refl)
