-- `config_words::link_reset_next` meets its contract: the masks are those of the slot's kind.
use mathlib.Core.Path.{ap, ◌∙◌}
use Rattle.config_words.specs.declared.ResetMasks.{ResetMasks}
use Rattle.config_space.specs.Functions.{in_slot, reset_where, link_reset_slot}
use Rattle.config_words.specs.inner.Resetting.{by_mask, link_masks}
use Rattle.config_words.proofs.Changing.{link_by_masks}
use Rattle.config_words.proofs.link_reset_next.Goals as goal

pub returns-clause-live_after : goal.returns-clause-live_after
unfolding link_reset_slot
returns-clause-live_after c =
    let a = c.args in
    let live = a.live.now in
    let defaults = a.defaults.now in
    c.reset_slot.ensures
    ∙ ap (λ (m : ResetMasks). reset_where (in_slot a.slot) (by_mask m) live defaults) (c.next_masks-next.result.given ∙ ap link_masks c.next_masks-next.ensures)
    ∙ link_by_masks a.kind (in_slot a.slot) live defaults
