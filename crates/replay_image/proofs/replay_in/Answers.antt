-- `replay_image::replay_in` meets its contract.
use mathlib.Core.Path.{◌≡◌, refl, ap, ◌∙◌}
use Rattle.std.specs.Prelude.{Option, None, Some, is_some, unwrap_or}
use Rattle.ticks.specs.declared.Stamp.{Stamp}
use Rattle.capture.specs.Lent.{stamp_or0}
use Rattle.replay_image.specs.Image.{earlier_in, replay_in}
use Rattle.replay_image.proofs.replay_in.Goals as goal

or_0 : (e : Option Stamp) → unwrap_or e (record { 0 = 0 }) ≡ stamp_or0 e
or_0 None = refl
or_0 (Some stamp) = refl

pub returns : goal.returns
unfolding replay_in
returns c =
    λ i.
    record {
      begun = (c.is_some.ensures ∙ ap is_some c.earlier_in-earlier.ensures) i;
      earlier = (c.unwrap_or.ensures ∙ (λ j. unwrap_or (c.earlier_in-earlier.ensures j) (c.stamp_of.ensures j)) ∙ or_0 (earlier_in c.args.bytes.now)) i;
      stamp_len = (c.from.ensures ∙ c.byte_at.ensures) i;
      stamp = c.stamp_bytes_in.ensures i;
      answered = c.byte_at-2.ensures i;
      ended = c.byte_at-3.ensures i;
    }
