-- `describe_records::record_words::put_signalling` meets its contract.
use Rattle.text_line.proofs.Putting.{then}
use Rattle.describe_records.specs.Records.{signalling_text}
use Rattle.describe_records.proofs.record_words.put_signalling.Goals as goal

pub returns : goal.returns
unfolding signalling_text
returns c = then _ _ _ c.put_named.ensures c.put_signalling_meaning.ensures
