-- `replay_image::stamp_bytes_in` meets its contract.
use mathlib.Core.List.{[], ◌∷◌}
use mathlib.Core.Path.{◌∙◌}
use Rattle.bits.specs.Lists.{listed}
use Rattle.state_layout.specs.Image.{up_to}
use Rattle.state_layout.specs.Reading.{bytes_from}
use Rattle.replay_image.proofs.stamp_bytes_in.Goals as goal

pub returns : goal.returns
unfolding bytes_from listed
returns c =
    c.up_to.ensures
    ∙ λ i. up_to ((c.from.ensures ∙ c.byte_at-5.ensures) i)
    (c.byte_at.ensures i ∷ c.byte_at-2.ensures i ∷ c.byte_at-3.ensures i ∷ c.byte_at-4.ensures i ∷ [])
