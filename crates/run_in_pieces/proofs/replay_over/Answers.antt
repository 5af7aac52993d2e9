-- `run_in_pieces::replay_over` meets its contract.
use mathlib.Core.Path.{◌≡◌, ap, ◌∙◌}
use Rattle.capture.specs.declared.Replay.{Replay}
use Rattle.demand3.specs.Held.{Held}
use Rattle.demand3.specs.SettingUp.{Prepared, sets_up}
use Rattle.set_up.specs.Prepared.{prepared}
use Rattle.replay_rules.specs.Replaying.{held_with, replays}
use Rattle.trace_in_pieces.specs.Pieces.{blank_held}
use Rattle.trace_in_pieces.specs.Captures.{at_port}
use Rattle.trace_in_pieces.proofs.Captures.{refused, accepted}
use Rattle.run_in_pieces.proofs.replay_over.Goals as goal

pub returns-then-made-ne0 : goal.returns-then-made-ne0
returns-then-made-ne0 c =
    let lent : Held = let a = c.args in blank_held a.setup a.live.now a.cells.now in
    let leaves : Prepared = prepared c.args.setup.slots c.set_up_blank-made.result c.set_up_blank-made.new.live c.set_up_blank-made.new.cells in
    let made : leaves ≡ sets_up c.args.setup c.args.defaults.now (lent) = c.set_up_blank-made.ensures in
    let s = c in
    let a = s.args in
    rw c.all_fed.ensures
    (refused a.setup a.defaults.now (lent) (leaves) a.capture.now a.answers.now (made) c.if-made-ne0.true)

pub returns : goal.returns
returns c =
    let lent : Held = let a = c.args in blank_held a.setup a.live.now a.cells.now in
    let leaves : Prepared = prepared c.args.setup.slots c.set_up_blank-made.result c.set_up_blank-made.new.live c.set_up_blank-made.new.cells in
    let made : leaves ≡ sets_up c.args.setup c.args.defaults.now (lent) = c.set_up_blank-made.ensures in
    let s = c in
    let a = s.args in
    rw c.all_fed-2.ensures
    (ap at_port
    (c.replay-x.ensures.answers_after
    ∙ ap (λ (m : Replay). replays a.setup a.defaults.now (held_with (leaves).held m) a.capture.now a.answers.now) c.fresh.ensures)
    ∙ accepted a.setup a.defaults.now (lent) (leaves) a.capture.now a.answers.now (made) c.if-made-ne0.false)
