-- `state_image::numbers::four_at` meets its contract.
use native.Mathlib.Omega.{arith}
use Rattle.state_layout.proofs.Steps.{four_at}
use Rattle.state_image.proofs.numbers.four_at.Goals as goal

pub returns : goal.returns
returns c = omega (arith, four_at c.args.at c.args.bytes.now, c.from_le_bytes.ensures, c.byte_at.ensures, c.byte_at-2.ensures, c.byte_at-3.ensures, c.byte_at-4.ensures)
