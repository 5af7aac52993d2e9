-- `config_words::flr_reset_slot` meets its contract.
use mathlib.Core.Path.{ap, ◌∙◌}
use Rattle.config_words.specs.declared.ResetMasks.{ResetMasks}
use Rattle.config_space.specs.Functions.{in_slot, reset_where, flr_reset_slot}
use Rattle.config_words.specs.inner.Resetting.{by_mask}
use Rattle.config_words.proofs.Changing.{flr_by_masks}
use Rattle.config_words.proofs.flr_reset_slot.Goals as goal

pub returns : goal.returns
unfolding flr_reset_slot
returns c =
    let b = c in
    let t = b in
    let a = t.args in
    let live = a.live.now in
    let defaults = a.defaults.now in
    b.reset_slot.ensures
    ∙ ap (λ (t : ResetMasks). reset_where (in_slot a.slot) (by_mask t) live defaults) t.flr_masks-reset.ensures
    ∙ flr_by_masks a.kind (in_slot a.slot) live defaults
