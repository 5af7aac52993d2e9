-- `execute::port::status_bits` meets its contract.
use Rattle.records.specs.PortRecords.{status_bits}
use Rattle.execute.proofs.port.status_bits.Goals as goal

pub returns : goal.returns
unfolding status_bits
returns c = cc
