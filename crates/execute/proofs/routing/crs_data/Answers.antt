-- `execute::routing::crs_data` meets its contract.
use mathlib.Core.Path.{◌≡◌, refl, ap}
use mathlib.Core.Bool.{Bool, ◌&&◌, ◌||◌, beq}
use Prim.Native.Nat.{ℕ, ◌<◌}
use lib.Dec.{eqb, ltb, lit<}
use Rattle.bits.specs.Bits.{bit, enabled}
use Rattle.bits.proofs.Bits.{is_word, is_of_lem, is_and, is_the}
use Rattle.bits.proofs.Tests.{all_at, truth}
use Rattle.registers.specs.Words.{lane_mask}
use Rattle.records.specs.Route.{crs_data}
use Rattle.execute.proofs.routing.crs_data.Goals as goal

-- the bits of FFFF0001h
vendor : (k : ℕ) → k < 32 → bit 0xFFFF0001 k ≡ (eqb k 0 || ltb 15 k)
unfolding bit
vendor k h = truth 0 (bit 0xFFFF0001 k) (eqb k 0 || ltb 15 k) (all_at 32 (λ k. beq (bit 0xFFFF0001 k) (eqb k 0 || ltb 15 k)) tt k h)

pub returns : goal.returns
unfolding crs_data lane_mask
returns c = is_the (is_and (is_word c.lane_mask.ensures) (is_of_lem refl (lit< tt))) (λ k l. ap (λ (b : Bool). enabled c.args.enables k && b) (vendor k l))
