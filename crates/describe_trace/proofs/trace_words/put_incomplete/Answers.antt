-- `describe_trace::trace_words::put_incomplete` meets its contract.
use Rattle.text_line.proofs.Putting.{then}
use Rattle.describe_trace.specs.Traces.{incomplete_text}
use Rattle.describe_trace.proofs.trace_words.put_incomplete.Goals as goal

pub returns : goal.returns
unfolding incomplete_text
returns c = then _ _ _ (then _ _ _ (then _ _ _ (then _ _ _ (then _ _ _ c.put_column.ensures c.put_text.ensures) c.put_hex.ensures) c.put_named.ensures) c.put_named-2.ensures) c.put_text-2.ensures
