-- `describe_records::record_words::put_clear` meets its contract.
use Rattle.text_line.proofs.Putting.{then}
use Rattle.describe_records.specs.Records.{clear_text}
use Rattle.describe_records.proofs.record_words.put_clear.Goals as goal

pub returns : goal.returns
unfolding clear_text
returns c = then _ _ _ c.put_text.ensures c.put_bits.ensures
