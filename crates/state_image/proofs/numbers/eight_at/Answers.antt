-- `state_image::numbers::eight_at` meets its contract.
use native.Mathlib.Omega.{arith}
use Rattle.state_layout.proofs.Steps.{eight_at}
use Rattle.state_image.proofs.numbers.eight_at.Goals as goal

pub returns : goal.returns
returns c = omega (arith, eight_at c.args.at c.args.bytes.now, c.four_at.ensures, c.four_at-2.ensures)
