-- `describe_capture::capture_words::put_replay_end` meets its contract.
use Rattle.text_line.proofs.Putting.{then}
use Rattle.capture_lines.specs.Captures.{replay_end_text}
use Rattle.describe_capture.proofs.capture_words.put_replay_end.Goals as goal

pub returns : goal.returns
unfolding replay_end_text
returns c = then _ _ _ (then _ _ _ (then _ _ _ (then _ _ _ c.put_number.ensures c.put_named.ensures) c.put_named-2.ensures) c.put_named-3.ensures) c.put_in_hand.ensures
