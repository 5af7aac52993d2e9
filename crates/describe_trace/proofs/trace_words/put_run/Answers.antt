-- `describe_trace::trace_words::put_run` meets its contract.
use Rattle.text_line.proofs.Putting.{then}
use Rattle.describe_trace.specs.Traces.{run_text}
use Rattle.describe_trace.proofs.trace_words.put_run.Goals as goal

pub returns : goal.returns
unfolding run_text
returns c = simp c.nanos_number.ensures at (then _ _ _ (then _ _ _ (then _ _ _ (then _ _ _ (then _ _ _ c.put_column.ensures c.put_text.ensures) c.put_column-2.ensures) c.put_text-2.ensures) c.put_record.ensures) c.put_answer.ensures)
