-- `execute::port::clear_bits` meets its contract.
use Rattle.bits.proofs.Bits.{bit_test}
use Rattle.records.specs.PortRecords.{cleared_dev}
use Rattle.execute.proofs.port.clear_bits.Goals as goal

pub returns : goal.returns
unfolding cleared_dev
returns c = let m = c.args.mask in rw (bit_test m 2, bit_test m 0, bit_test m 1)
