-- `decode::decoding::four_in` meets its contract.
use native.Mathlib.Omega.{arith}
use Rattle.records.specs.Decode.{four}
use Rattle.decode.proofs.decoding.four_in.Goals as goal

pub returns : goal.returns
unfolding four
returns c = omega (arith, c.from_le_bytes.ensures)
