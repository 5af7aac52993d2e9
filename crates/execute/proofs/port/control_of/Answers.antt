-- `execute::port::control_of` meets its contract.
use Rattle.bits.proofs.Bits.{bit_test_set}
use Rattle.records.specs.PortRecords.{control_of}
use Rattle.execute.proofs.port.control_of.Goals as goal

pub returns : goal.returns
unfolding control_of
returns c = let b = c.args.b in rw (bit_test_set b 0, bit_test_set b 1)
