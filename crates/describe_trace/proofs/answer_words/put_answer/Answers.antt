-- `describe_trace::answer_words::put_answer` meets its contract.
use Rattle.text_line.proofs.Putting.{then}
use Rattle.describe_trace.specs.Answers.{answer_text}
use Rattle.describe_trace.proofs.answer_words.put_answer.Goals as goal

pub returns : goal.returns
unfolding answer_text
returns c = simp (c.kind_of-kind.ensures, c.byte_at-status.ensures, c.data_of-data.ensures, c.byte_at.ensures, c.byte_at-2.ensures, c.byte_at-3.ensures, c.reads.ensures) at (then _ _ _ (then _ _ _ (then _ _ _ (then _ _ _ (then _ _ _ c.put_named.ensures c.put_status.ensures) c.put_interrupts.ensures) c.put_count.ensures) c.put_count-2.ensures) c.put_data.ensures)
