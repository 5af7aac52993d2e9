-- Examples of the rules, which antt computes.
use mathlib.Core.Path.{◌≡◌, refl}
use mathlib.Core.Bool.{true, false}
use mathlib.Core.List.{[], ◌∷◌}
use Rattle.bits.specs.Bits.{bit, number, word}
use Rattle.registers.specs.declared.Kind.TheVariants.{Endpoint}
use Rattle.registers.specs.Rows.{endpoint_row, row_of, reads_zero, default_must_be_zero, checked_words, default_allowed, flr_capability_word, starts_flr}
use Rattle.registers.specs.Words.{lane_mask, read_word, write_bit, write_word, starts_d3hot, reset_bit, link_reset, flr_reset, hardware_set}
use Rattle.registers.proofs.Rules.{no_bits}

-- ---- rows

-- 44h: PowerState and PME_En are written, PME_Status is cleared by writing 1, PME_En and PME_Status are sticky
pub pmcsr-row : row_of Endpoint 0x11 ≡ record { w = 0x00000103; c = 0x00008000; s = 0x00008100; k = 0 }
unfolding row_of endpoint_row
pmcsr-row = refl

-- a word that isn't listed, and a word above 63, have all four 0
pub unlisted_row : row_of Endpoint 2 ≡ no_bits
unfolding row_of endpoint_row
unlisted_row = refl

pub row_above : row_of Endpoint 64 ≡ no_bits
unfolding row_of endpoint_row
row_above = refl

-- ---- reads

-- FFh in the enabled bytes
pub lanes_low : lane_mask 3 ≡ 0x0000FFFF
unfolding lane_mask word number bit
lanes_low = refl

pub lanes_modulo : lane_mask 0xF8 ≡ 0xFF000000
unfolding lane_mask word number bit
lanes_modulo = refl

-- enabled bytes, 0 in the others
pub read_lanes : read_word Endpoint 0 0x56781234 5 ≡ 0x00780034
unfolding read_word reads_zero word number bit
read_lanes = refl

-- bits 15 and 21 of 78h read 0, whatever the live word holds
pub read_device_control : read_word Endpoint 0x1E 0xFFFFFFFF 15 ≡ 0xFFDF7FFF
unfolding read_word reads_zero word number bit
read_device_control = refl

-- ---- writes

-- command and status: W bits take the data, C bits are cleared where the data is 1
pub write_command : write_word Endpoint 1 0x28100001 0x08000FFE 15 ≡ 0x20100546
unfolding write_word write_bit word number row_of endpoint_row bit
write_command = refl

-- only the enabled byte
pub write_one_byte : write_word Endpoint 1 0x28100000 0xFFFFFFFF 1 ≡ 0x28100047
unfolding write_word write_bit word number row_of endpoint_row bit
write_one_byte = refl

-- a read-only word stays
pub write_read_only : write_word Endpoint 0 0x56781234 0xFFFFFFFF 15 ≡ 0x56781234
unfolding write_word write_bit word number row_of endpoint_row bit
write_read_only = refl

-- 44h: PowerState 3 is taken
pub write_d3hot : write_word Endpoint 0x11 0x00000008 0x00000003 15 ≡ 0x0000000B
unfolding write_word write_bit word number row_of endpoint_row bit
write_d3hot = refl

-- 2 leaves the two bits, and the rest of the write is done: PME_Status is cleared, PME_En is set
pub write_d2 : write_word Endpoint 0x11 0x00008003 0x00008102 15 ≡ 0x00000103
unfolding write_word write_bit word number row_of endpoint_row bit
write_d2 = refl

-- 1 likewise
pub write_d1 : write_word Endpoint 0x11 0x00000000 0x00000101 15 ≡ 0x00000100
unfolding write_word write_bit word number row_of endpoint_row bit
write_d1 = refl

-- the same data at another word is taken
pub write_one_elsewhere : write_word Endpoint 0x20 0x00000000 0x00000001 15 ≡ 0x00000001
unfolding write_word write_bit word number row_of endpoint_row bit
write_one_elsewhere = refl

-- ---- resets

-- FLR keeps Max_Payload_Size (bits 7:5 of 78h) written in the same write, and resets the rest
pub flr_keeps_max_payload : flr_reset Endpoint 0x1E (write_word Endpoint 0x1E 0x00002810 0x000080EF 15) 0x00002810 ≡ 0x000028F0
unfolding flr_reset reset_bit write_word write_bit word number row_of endpoint_row bit
flr_keeps_max_payload = refl

-- FLR resets the cache line
pub flr_resets_cache_line : flr_reset Endpoint 3 0x00000040 0x00000000 ≡ 0x00000000
unfolding flr_reset reset_bit word number row_of endpoint_row bit
flr_resets_cache_line = refl

-- and the interrupt line
pub flr_resets_interrupt_line : flr_reset Endpoint 0x0F 0x0000010B 0x000001FF ≡ 0x000001FF
unfolding flr_reset reset_bit word number row_of endpoint_row bit
flr_resets_interrupt_line = refl

-- and keeps link control, which link down resets
pub flr_keeps_link_control : flr_reset Endpoint 0x20 0x00000043 0x00000000 ≡ 0x00000043
unfolding flr_reset reset_bit word number row_of endpoint_row bit
flr_keeps_link_control = refl

pub link_down_resets_link_control : link_reset Endpoint 0x20 0x00000043 0x00000000 ≡ 0x00000000
unfolding link_reset reset_bit word number row_of endpoint_row bit
link_down_resets_link_control = refl

-- PME_Status survives link down, PowerState doesn't
pub pme_survives_link_down : link_reset Endpoint 0x11 0x0000810B 0x00000008 ≡ 0x00008108
unfolding link_reset reset_bit word number row_of endpoint_row bit
pme_survives_link_down = refl

-- and FLR
pub pme_survives_flr : flr_reset Endpoint 0x11 0x0000810B 0x00000008 ≡ 0x00008108
unfolding flr_reset reset_bit word number row_of endpoint_row bit
pme_survives_flr = refl

-- ---- hardware

-- mask bits in C are set, no others
pub hardware_status : hardware_set Endpoint 1 0x00100007 0xFFFFFFFF ≡ 0xF9100007
unfolding hardware_set word number row_of endpoint_row bit
hardware_status = refl

-- ---- the way from D3hot, the start of an FLR, and defaults

-- PowerState goes from 3 to 0, in 44h
pub d3hot_starts : starts_d3hot Endpoint 0x11 0x0000010B 0x00000108 ≡ true
unfolding starts_d3hot
d3hot_starts = refl

pub d3hot_other_word : starts_d3hot Endpoint 0x1E 0x0000010B 0x00000108 ≡ false
unfolding starts_d3hot
d3hot_other_word = refl

pub d3hot_not_from_0 : starts_d3hot Endpoint 0x11 0x00000108 0x00000108 ≡ false
unfolding starts_d3hot
d3hot_not_from_0 = refl

pub d3hot_not_to_3 : starts_d3hot Endpoint 0x11 0x0000010B 0x0000000B ≡ false
unfolding starts_d3hot
d3hot_not_to_3 = refl

-- 74h says FLR capable
pub flr_capability_word_lem : flr_capability_word Endpoint ≡ 0x1D
flr_capability_word_lem = refl

pub flr_starts : starts_flr Endpoint 0x1E 0x00008000 2 0x10000000 ≡ true
unfolding starts_flr bit
flr_starts = refl

pub flr_byte_off : starts_flr Endpoint 0x1E 0x00008000 13 0x10000000 ≡ false
unfolding starts_flr bit
flr_byte_off = refl

pub flr_not_capable : starts_flr Endpoint 0x1E 0x00008000 15 0xEFFFFFFF ≡ false
unfolding starts_flr bit
flr_not_capable = refl

pub flr_other_bit : starts_flr Endpoint 0x1E 0xFFFF7FFF 15 0x10000000 ≡ false
unfolding starts_flr bit
flr_other_bit = refl

-- the defaults of 44h and 78h are checked
pub words_checked : checked_words Endpoint ≡ 0x11 ∷ 0x1E ∷ []
words_checked = refl

pub default_device_control : default_allowed Endpoint 0x1E 0x00200000 ≡ false
unfolding default_allowed default_must_be_zero word number bit
default_device_control = refl

pub default_flr_bit : default_allowed Endpoint 0x1E 0x00008000 ≡ false
unfolding default_allowed default_must_be_zero word number bit
default_flr_bit = refl

pub default_power_state : default_allowed Endpoint 0x11 0x00000002 ≡ false
unfolding default_allowed default_must_be_zero word number bit
default_power_state = refl

pub default_others : default_allowed Endpoint 0x11 0xFFFFFFFC ≡ true
unfolding default_allowed default_must_be_zero word number bit
default_others = refl

pub default_any_word : default_allowed Endpoint 0x1D 0xFFFFFFFF ≡ true
unfolding default_allowed default_must_be_zero word number bit
default_any_word = refl
