-- Examples of the rules, which antt computes.
use mathlib.Core.Path.{◌≡◌, refl}
use mathlib.Core.List.{[], ◌∷◌}
use Prim.Native.Nat.{◌+◌}
use lib.ListN.{get_or, replicate}
use Rattle.bits.specs.Bits.{bit, number, word}
use Rattle.bits.specs.Lists.{listed, replaced}
use Rattle.registers.specs.declared.Kind.TheVariants.{Endpoint}
use Rattle.registers.specs.Rows.{endpoint_row, row_of}
use Rattle.registers.specs.Words.{reset_bit, link_reset, flr_reset}
use Rattle.config_space.specs.Functions.{reset_where, link_reset_slot, flr_reset_slot, link_reset_all, cold_reset}

-- an FLR of slot 1 resets its cache line and not that of slot 0
pub flr_slot_own : get_or (flr_reset_slot Endpoint 1 (replicate 128 0xFFFFFFFF) (replicate 128 0)) (64 + 3) 0 ≡ 0xFFFFFF00
unfolding flr_reset_slot reset_where replaced listed flr_reset reset_bit word number row_of endpoint_row bit
flr_slot_own = refl

pub flr_slot_other : get_or (flr_reset_slot Endpoint 1 (replicate 128 0xFFFFFFFF) (replicate 128 0)) 3 0 ≡ 0xFFFFFFFF
unfolding flr_reset_slot reset_where replaced listed flr_reset reset_bit word number row_of endpoint_row bit
flr_slot_other = refl

-- link down resets both
pub link_down_first : get_or (link_reset_all (λ slot. Endpoint) (replicate 128 0xFFFFFFFF) (replicate 128 0)) 3 0 ≡ 0xFFFFFF00
unfolding link_reset_all reset_where replaced listed link_reset reset_bit word number row_of endpoint_row bit
link_down_first = refl

pub link_down_second : get_or (link_reset_all (λ slot. Endpoint) (replicate 128 0xFFFFFFFF) (replicate 128 0)) (64 + 3) 0 ≡ 0xFFFFFF00
unfolding link_reset_all reset_where replaced listed link_reset reset_bit word number row_of endpoint_row bit
link_down_second = refl

-- words that only one of the lists has stay, and none are added
pub link_down_short : link_reset_all (λ slot. Endpoint) (7 ∷ 7 ∷ 7 ∷ []) (0 ∷ 0 ∷ []) ≡ 7 ∷ 0 ∷ 7 ∷ []
unfolding link_reset_all reset_where replaced listed link_reset reset_bit word number row_of endpoint_row bit
link_down_short = refl

-- a slot that isn't lent
pub link_down_no_slot : link_reset_slot Endpoint 1 (7 ∷ 7 ∷ []) (0 ∷ 0 ∷ []) ≡ 7 ∷ 7 ∷ []
unfolding link_reset_slot reset_where replaced listed
link_down_no_slot = refl

-- PME_Status does not survive a cold reset
pub pme_not_cold_reset : cold_reset (0x0000810B ∷ []) (0x00000008 ∷ []) ≡ 0x00000008 ∷ []
unfolding cold_reset reset_where replaced listed
pme_not_cold_reset = refl
