-- `execute::answering::answer_bytes` meets its contract.
use Rattle.records.specs.Answer.{answer_bytes}
use Rattle.execute.proofs.answering.answer_bytes.Goals as goal

pub returns : goal.returns
unfolding answer_bytes
returns c = rw (c.to_le_bytes.ensures, c.completion_number.ensures, c.interrupt_bits.ensures)
