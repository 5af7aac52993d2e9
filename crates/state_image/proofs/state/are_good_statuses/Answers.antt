-- `state_image::state::are_good_statuses` meets its contract: what is left to look at decides.
use Prim.Native.Nat.{◌+◌, ◌*◌, ◌-◌}
use mathlib.Core.Bool.{Bool, ◌&&◌}
use mathlib.Core.Path.{refl, ap, sym, ◌∙◌}
use lib.ListN.{drop}
use Rattle.state_layout.proofs.Steps.{good_more, good_none}
use Rattle.state_layout.specs.Reading.{good_statuses}
use Rattle.state_image.proofs.state.are_good_statuses.Goals as goal

pub loop-i-init : goal.loop-i-init
loop-i-init c = refl

pub returns-then-not-is_good_status : goal.returns-then-not-is_good_status
returns-then-not-is_good_status c =
    let b = c.args.bytes.now in
    let i = c.loop-i.i in
    ap (λ (r : Bool). r && good_statuses (32 - (i + 1)) (drop (46 + 27 * (i + 1)) b)) (sym c.if-not-is_good_status.true ∙ c.is_good_status.ensures)
    ∙ sym (good_more 32 i b c.loop-i-test.true)
    ∙ c.loop-i.invariant

pub loop-i-preserved : goal.loop-i-preserved
loop-i-preserved c =
    let b = c.args.bytes.now in
    let i = c.loop-i.i in
    ap (λ (r : Bool). r && good_statuses (32 - (i + 1)) (drop (46 + 27 * (i + 1)) b)) (sym c.if-not-is_good_status.false ∙ c.is_good_status.ensures)
    ∙ sym (good_more 32 i b c.loop-i-test.true)
    ∙ c.loop-i.invariant

pub returns : goal.returns
returns c =
    let i = c.loop-i.i in
    sym (good_none 32 i (drop (46 + 27 * i) c.args.bytes.now) c.loop-i-test.false) ∙ c.loop-i.invariant
