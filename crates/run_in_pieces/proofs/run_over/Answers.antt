-- `run_in_pieces::run_over` meets its contract.
use Prim.Native.Nat.{ℕ}
use mathlib.Core.Path.{◌≡◌, sym, ap, ◌∙◌}
use Rattle.demand3.specs.Held.{Held}
use Rattle.demand3.specs.SettingUp.{Prepared, sets_up}
use Rattle.set_up.specs.Prepared.{prepared}
use Rattle.demand3.proofs.Numbers.{set_up_facts}
use Rattle.demand3.proofs.Prepared.{set_up_number}
use Rattle.trace_in_pieces.specs.Pieces.{blank_held, in_pieces}
use Rattle.trace_in_pieces.proofs.Pieces.{stop, set_up_ran}
use Rattle.run_in_pieces.proofs.run_over.Goals as goal

pub returns-then-made-ne0 : goal.returns-then-made-ne0
returns-then-made-ne0 c =
    let lent : Held = let a = c.args in blank_held a.setup a.live.now a.cells.now in
    let leaves : Prepared = prepared c.args.setup.slots c.set_up_blank-made.result c.set_up_blank-made.new.live c.set_up_blank-made.new.cells in
    let made : leaves ≡ sets_up c.args.setup c.args.defaults.now (lent) = c.set_up_blank-made.ensures in
    let s = c in
    let a = s.args in
    rw c.all_fed.ensures
    (sym (stop a.setup a.defaults.now a.size s.set_up_blank-made.result.number (leaves).held a.trace.now a.answers.now (λ q. absurd (c.if-made-ne0.true q)))
    ∙ set_up_ran a.setup a.defaults.now a.size (lent) (leaves) a.trace.now a.answers.now (made))

pub feed_pieces-requires : goal.feed_pieces-requires
feed_pieces-requires c =
    let lent : Held = let a = c.args in blank_held a.setup a.live.now a.cells.now in
    let leaves : Prepared = prepared c.args.setup.slots c.set_up_blank-made.result c.set_up_blank-made.new.live c.set_up_blank-made.new.cells in
    let made : leaves ≡ sets_up c.args.setup c.args.defaults.now (lent) = c.set_up_blank-made.ensures in
    let s = c in
    let a = s.args in
    (set_up_facts a.setup a.defaults.now (lent) (sym (set_up_number a.setup a.defaults.now (lent)) ∙ ap (λ (p : Prepared). p.number) (sym (made)) ∙ c.if-made-ne0.false)).lengths.most

pub returns : goal.returns
returns c =
    let lent : Held = let a = c.args in blank_held a.setup a.live.now a.cells.now in
    let leaves : Prepared = prepared c.args.setup.slots c.set_up_blank-made.result c.set_up_blank-made.new.live c.set_up_blank-made.new.cells in
    let made : leaves ≡ sets_up c.args.setup c.args.defaults.now (lent) = c.set_up_blank-made.ensures in
    let s = c in
    let a = s.args in
    c.feed_pieces.ensures
    ∙ ap (λ (n : ℕ). in_pieces a.setup a.defaults.now a.size n (leaves).held a.trace.now a.answers.now) (sym c.if-made-ne0.false)
    ∙ set_up_ran a.setup a.defaults.now a.size (lent) (leaves) a.trace.now a.answers.now (made)
