-- `describe_trace::answer_words::data_of` meets its contract.
use Rattle.describe_trace.specs.Answers.{data_of}
use Rattle.describe_trace.proofs.answer_words.data_of.Goals as goal

pub returns : goal.returns
unfolding data_of
returns c = cc
