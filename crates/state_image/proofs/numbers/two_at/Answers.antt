-- `state_image::numbers::two_at` meets its contract.
use native.Mathlib.Omega.{arith}
use Rattle.state_layout.proofs.Steps.{two_at}
use Rattle.state_image.proofs.numbers.two_at.Goals as goal

pub returns : goal.returns
returns c = omega (arith, two_at c.args.at c.args.bytes.now, c.byte_at.ensures, c.byte_at-2.ensures, c.from_le_bytes.ensures)
