-- `describe_records::record_words::put_advance` meets its contract.
use Rattle.text_line.proofs.Putting.{then}
use Rattle.describe_records.specs.Records.{advance_text}
use Rattle.describe_records.proofs.record_words.put_advance.Goals as goal

pub returns : goal.returns
unfolding advance_text
returns c = then _ _ _ c.put_named.ensures c.put_text.ensures
