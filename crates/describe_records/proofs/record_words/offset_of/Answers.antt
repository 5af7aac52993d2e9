-- `describe_records::record_words::offset_of` meets its contract.
use borrow.Author.Tests.{le-ltb, lt-ltb}
use Rattle.describe_records.specs.Records.{offset_of}
use Rattle.describe_records.proofs.record_words.offset_of.Goals as goal

pub returns-then-word-lt256 : goal.returns-then-word-lt256
unfolding offset_of
returns-then-word-lt256 c = simp (lt-ltb _ _ c.if-word-lt256.true)

pub returns-else-word-lt256 : goal.returns-else-word-lt256
unfolding offset_of
returns-else-word-lt256 c = simp (le-ltb _ _ c.if-word-lt256.false)
