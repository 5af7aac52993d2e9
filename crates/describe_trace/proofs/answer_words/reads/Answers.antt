-- `describe_trace::answer_words::reads` meets its contract.
use borrow.Author.Rules.{rules}
use Rattle.describe_trace.specs.Answers.{reads_of}
use Rattle.describe_trace.proofs.answer_words.reads.Goals as goal

pub returns : goal.returns
unfolding reads_of
returns c = search rules
