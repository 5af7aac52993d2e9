-- `registers::lane_mask` meets its contract.
use Rattle.bits.proofs.Lanes.{spread_is}
use Rattle.registers.specs.Words.{lane_mask}
use borrow.Author.Rules.{rules}
use Rattle.registers.proofs.lane_mask.Goals as goal

pub returns : goal.returns
unfolding lane_mask
returns c = spread_is c.args.enables (search rules)
