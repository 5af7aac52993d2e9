-- What follows of the attributes and of the operations on one word, for every kind, word and value.
use mathlib.Core.Path.{◌≡◌, refl, sym, ap, ◌∙◌, subst}
use mathlib.Core.Bool.{Bool, true, false, not, ◌&&◌, ◌||◌, and-true, and-false}
use mathlib.Core.Logic.{◌⊎◌, ⊎_elim}
use Prim.Native.Nat.{ℕ, zero, suc, ◌/◌, ◌%◌, ◌<◌, ◌≤◌}
use native.Mathlib.Omega.{arith}
use lib.Dec.{T, eqb, ltb}
use lib.ListN.{get_or}
use borrow.Author.Tests.{eq-eqb, ne_eqb, eqb-true, ltb-true, ltb-false, le-ltb}
use Rattle.bits.specs.Bits.{bit, word, enabled}
use Rattle.bits.proofs.Bits.{bit_none, bit-low, bit_word, word_ext, word_none, low_ext}
use Rattle.bits.proofs.Tests.{all, all_at, truth, both_left, both_right}
use Rattle.registers.specs.declared.Row.{Row}
use Rattle.registers.specs.declared.Kind.{Kind}
use Rattle.registers.specs.declared.Kind.TheVariants.{Endpoint}
use Rattle.registers.specs.Rows.{row_of, endpoint_row, is_w, is_c, is_s, is_k, lawful, pmcsr, device_control, device_zeros, reads_zero, default_must_be_zero, checked_words, default_allowed, starts_flr}
use Rattle.registers.specs.Words.{power_state, stays, held_bit, read_word, write_bit, write_word, reset_bit, link_reset, flr_reset, hardware_set}
use Rattle.registers.proofs.Rules.{every_kind, no_bits, row-past}

-- ---- the rule of rows

lawful_at : Kind → ℕ → ℕ → Bool
lawful_at kind i k = lawful (is_w kind i k) (is_c kind i k) (is_s kind i k) (is_k kind i k)

-- the one test, over all rows of every kind
tested : (kind : Kind) → T (all 64 (λ i. all 32 (lawful_at kind i)))
unfolding lawful_at row_of endpoint_row bit
tested = every_kind (λ kind. all 64 (λ i. all 32 (lawful_at kind i))) tt

none_lawful : (k : ℕ) → T (lawful (bit no_bits.w k) (bit no_bits.c k) (bit no_bits.s k) (bit no_bits.k k))
none_lawful k = rw (bit_none k) tt

-- W and C share no bit, S and K lie within W or C, S and K share no bit: at every bit of every word of every kind
pub rule_of_rows : (kind : Kind) (i k : ℕ) → k < 32 → T (lawful (is_w kind i k) (is_c kind i k) (is_s kind i k) (is_k kind i k))
unfolding lawful_at
rule_of_rows kind i k h =
    let by : (b : Bool) → ltb i 64 ≡ b → T (lawful (is_w kind i k) (is_c kind i k) (is_s kind i k) (is_k kind i k)) =
    elim [
      | true ↦ λ e. all_at 32 (lawful_at kind i) (all_at 64 (λ i. all 32 (lawful_at kind i)) (tested kind) i (ltb-true i 64 e)) k h
      | false ↦ λ e. subst (λ (r : Row). T (lawful (bit r.w k) (bit r.c k) (bit r.s k) (bit r.k k))) (sym (row-past kind i (ltb-false i 64 e))) (none_lawful k)
    ] in
    by (ltb i 64) refl

apart : (w c s k : Bool) → T (lawful w c s k) → c ≡ true → w ≡ false
apart false c s k t e = refl
apart true true s k t e = absurd t
apart true false s k t e = sym e

-- a bit in C is not in W
pub c_not_w : (kind : Kind) (i k : ℕ) → k < 32 → is_c kind i k ≡ true → is_w kind i k ≡ false
c_not_w kind i k h c = apart (is_w kind i k) (is_c kind i k) (is_s kind i k) (is_k kind i k) (rule_of_rows kind i k h) c

-- ---- byte enables and reads

-- enables count modulo 16
pub enables_modulo : (enables k : ℕ) → k < 32 → enabled (enables % 16) k ≡ enabled enables k
enables_modulo enables k h = bit-low enables 4 (k / 8) (omega arith)

seen : (live : Bool) → (live && true && not false) ≡ live
seen = truth 1 _ _ tt

disabled : (live zero : Bool) → (live && false && not zero) ≡ false
disabled = truth 2 _ _ tt

masked : (live on : Bool) → (live && on && not true) ≡ false
masked = truth 2 _ _ tt

-- a read gives the enabled bytes, but for the bits that always read 0
pub read_gives : (kind : Kind) (i live enables k : ℕ) → k < 32 → enabled enables k ≡ true → bit (reads_zero kind i) k ≡ false
    → bit (read_word kind i live enables) k ≡ bit live k
unfolding read_word
read_gives kind i live enables k h e z = rw (bit_word, e, z) (seen (bit live k))

-- a byte that isn't enabled reads 0
pub read_lane_off : (kind : Kind) (i live enables k : ℕ) → k < 32 → enabled enables k ≡ false → bit (read_word kind i live enables) k ≡ false
unfolding read_word
read_lane_off kind i live enables k h e = rw (bit_word, e) (disabled (bit live k) (bit (reads_zero kind i) k))

-- what always reads 0 reads 0, whatever the live word holds
pub read_zero : (kind : Kind) (i live enables k : ℕ) → k < 32 → bit (reads_zero kind i) k ≡ true → bit (read_word kind i live enables) k ≡ false
unfolding read_word
read_zero kind i live enables k h z = rw (bit_word, z) (masked (bit live k) (enabled enables k))

-- ---- writes

outside : (on old value : Bool) → write_bit on false false old value ≡ old
unfolding write_bit
outside = truth 3 _ _ tt

cleared : (on value : Bool) → write_bit on false true false value ≡ false
unfolding write_bit
cleared = truth 2 _ _ tt

-- a bit outside W and C is never changed by a write
pub write_leaves : (kind : Kind) (i old value enables k : ℕ) → k < 32 → is_w kind i k ≡ false → is_c kind i k ≡ false
    → bit (write_word kind i old value enables) k ≡ bit old k
unfolding write_word
write_leaves kind i old value enables k h w c = rw (bit_word, w, c) (outside _ _ _)

-- software never sets a C bit: by the rule of rows such a bit isn't in W
pub write_never_sets_c : (kind : Kind) (i old value enables k : ℕ) → k < 32 → is_c kind i k ≡ true → bit old k ≡ false
    → bit (write_word kind i old value enables) k ≡ false
unfolding write_word
write_never_sets_c kind i old value enables k h c o = rw (bit_word, c_not_w kind i k h c, c, o) (cleared _ _)

-- a C bit in an enabled byte is cleared where the data is 1, and stays where it is 0
pub write_clears_c : (kind : Kind) (i old value enables k : ℕ) → k < 32 → enabled enables k ≡ true → held_bit i value k ≡ false → is_c kind i k ≡ true
    → bit (write_word kind i old value enables) k ≡ (bit old k && not (bit value k))
unfolding write_word write_bit
write_clears_c kind i old value enables k h e f c = rw (bit_word, e, f, c_not_w kind i k h c, c) refl

-- a W bit in an enabled byte takes the data
pub write_takes : (kind : Kind) (i old value enables k : ℕ) → k < 32 → enabled enables k ≡ true → held_bit i value k ≡ false → is_w kind i k ≡ true
    → bit (write_word kind i old value enables) k ≡ bit value k
unfolding write_word write_bit
write_takes kind i old value enables k h e f w = rw (bit_word, e, f, w) refl

-- a byte that isn't enabled stays
pub write_lane_off : (kind : Kind) (i old value enables k : ℕ) → k < 32 → enabled enables k ≡ false → bit (write_word kind i old value enables) k ≡ bit old k
unfolding write_word write_bit
write_lane_off kind i old value enables k h e = rw (bit_word, e) refl

-- no word above 63 is changed by a write
pub write_past : (kind : Kind) (i old value enables k : ℕ) → 64 ≤ i → k < 32 → bit (write_word kind i old value enables) k ≡ bit old k
write_past kind i old value enables k p h =
    let r : row_of kind i ≡ no_bits = row-past kind i p in
    write_leaves kind i old value enables k h (ap (λ (r : Row). bit r.w k) r ∙ bit_none k) (ap (λ (r : Row). bit r.c k) r ∙ bit_none k)

-- PowerState

unreached : (e w c old value : Bool) → write_bit (e && not true) w c old value ≡ old
unfolding write_bit
unreached = truth 5 _ _ tt

in_two : (P : ℕ → Type 0) → P 0 → P 1 → (k : ℕ) → k < 2 → P k
in_two P z o zero h = z
in_two P z o (suc zero) h = o
in_two P z o (suc (suc k)) h = absurd (omega arith)

-- both bits of PowerState are written
power_state_w : (kind : Kind) (k : ℕ) → k < 2 → is_w kind 17 k ≡ true
unfolding row_of endpoint_row bit
power_state_w Endpoint = in_two (λ k. is_w Endpoint 17 k ≡ true) refl refl

write_held : (kind : Kind) (i old value enables k : ℕ) → k < 32 → held_bit i value k ≡ true → bit (write_word kind i old value enables) k ≡ bit old k
unfolding write_word
write_held kind i old value enables k h s = rw (bit_word, s) (unreached (enabled enables k) (is_w kind i k) (is_c kind i k) (bit old k) (bit value k))

-- writing 1 or 2 to PowerState leaves those two bits as they were
pub power_state_left : (kind : Kind) (old value enables : ℕ) → (power_state value ≡ 1) ⊎ (power_state value ≡ 2)
    → power_state (write_word kind (0x44 / 4) old value enables) ≡ power_state old
power_state_left kind old value enables h =
    let s : stays 17 value ≡ true = ⊎_elim (λ e. rw e refl) (λ e. rw e refl) h in
    low_ext 2 (write_word kind 17 old value enables) old
    (in_two (λ k. bit (write_word kind 17 old value enables) k ≡ bit old k)
    (write_held kind 17 old value enables 0 (omega arith) s)
    (write_held kind 17 old value enables 1 (omega arith) s))

-- 0 and 3 are taken, where byte 0 is enabled
pub power_state_taken : (kind : Kind) (old value enables : ℕ) → (power_state value ≡ 0) ⊎ (power_state value ≡ 3) → bit enables 0 ≡ true
    → power_state (write_word kind (0x44 / 4) old value enables) ≡ power_state value
power_state_taken kind old value enables h e =
    let s : stays 17 value ≡ false = ⊎_elim (λ e. rw e refl) (λ e. rw e refl) h in
    low_ext 2 (write_word kind 17 old value enables) value
    (in_two (λ k. bit (write_word kind 17 old value enables) k ≡ bit value k)
    (write_takes kind 17 old value enables 0 (omega arith) e s (power_state_w kind 0 (omega arith)))
    (write_takes kind 17 old value enables 1 (omega arith) e s (power_state_w kind 1 (omega arith))))

-- the rest of the write is done: the two bits apart, the data doesn't decide which bits are written
pub rest_is_written : (i value k : ℕ) → 2 ≤ k → held_bit i value k ≡ false
rest_is_written i value k h = ap (λ (b : Bool). b && stays i value) (le-ltb k 2 h)

-- ---- resets

again : (takes live default : Bool) → reset_bit takes (reset_bit takes live default) default ≡ reset_bit takes live default
unfolding reset_bit
again = truth 3 _ _ tt

-- a link reset twice is a link reset once; an FLR likewise
pub link_reset_twice : (kind : Kind) (i live default : ℕ) → link_reset kind i (link_reset kind i live default) default ≡ link_reset kind i live default
unfolding link_reset
link_reset_twice kind i live default = word_ext λ k h. rw bit_word (again _ _ _)

kept : (a b live default : Bool) → reset_bit (a && not true && not b) live default ≡ live
unfolding reset_bit
kept = truth 4 _ _ tt

keeps : (a live default : Bool) → reset_bit (a && not true) live default ≡ live
unfolding reset_bit
keeps = truth 3 _ _ tt

-- link down keeps every S bit and every bit outside W and C, and gives every other bit its default
pub link_reset_keeps_s : (kind : Kind) (i live default k : ℕ) → k < 32 → is_s kind i k ≡ true → bit (link_reset kind i live default) k ≡ bit live k
unfolding link_reset
link_reset_keeps_s kind i live default k h s = rw (bit_word, s) (keeps (is_w kind i k || is_c kind i k) (bit live k) (bit default k))

pub link_reset_defaults : (kind : Kind) (i live default k : ℕ) → k < 32 → (is_w kind i k || is_c kind i k) ≡ true → is_s kind i k ≡ false
    → bit (link_reset kind i live default) k ≡ bit default k
unfolding link_reset reset_bit
link_reset_defaults kind i live default k h w s = rw (bit_word, w, s) refl

pub link_reset_leaves : (kind : Kind) (i live default k : ℕ) → k < 32 → (is_w kind i k || is_c kind i k) ≡ false
    → bit (link_reset kind i live default) k ≡ bit live k
unfolding link_reset reset_bit
link_reset_leaves kind i live default k h w = rw (bit_word, w) refl

-- FLR keeps every K and S bit, and every bit outside W and C, and gives every other bit its default
pub flr_reset_keeps_k : (kind : Kind) (i live default k : ℕ) → k < 32 → is_k kind i k ≡ true → bit (flr_reset kind i live default) k ≡ bit live k
unfolding flr_reset
flr_reset_keeps_k kind i live default k h s =
    rw (bit_word, s) (keeps ((is_w kind i k || is_c kind i k) && not (is_s kind i k)) (bit live k) (bit default k))

pub flr_reset_keeps_s : (kind : Kind) (i live default k : ℕ) → k < 32 → is_s kind i k ≡ true → bit (flr_reset kind i live default) k ≡ bit live k
unfolding flr_reset
flr_reset_keeps_s kind i live default k h s = rw (bit_word, s) (kept (is_w kind i k || is_c kind i k) (is_k kind i k) (bit live k) (bit default k))

pub flr_reset_defaults : (kind : Kind) (i live default k : ℕ) → k < 32 → (is_w kind i k || is_c kind i k) ≡ true → is_s kind i k ≡ false → is_k kind i k ≡ false
    → bit (flr_reset kind i live default) k ≡ bit default k
unfolding flr_reset reset_bit
flr_reset_defaults kind i live default k h w s n = rw (bit_word, w, s, n) refl

pub flr_reset_leaves : (kind : Kind) (i live default k : ℕ) → k < 32 → (is_w kind i k || is_c kind i k) ≡ false
    → bit (flr_reset kind i live default) k ≡ bit live k
unfolding flr_reset reset_bit
flr_reset_leaves kind i live default k h w = rw (bit_word, w) refl

-- ---- hardware

unset : (live mask : Bool) → (live || (false && mask)) ≡ live
unset = truth 2 _ _ tt

-- the hardware sets the mask bits in C, clears none, and leaves every bit outside C
pub hardware_sets_c : (kind : Kind) (i live mask k : ℕ) → k < 32 → is_c kind i k ≡ true → bit (hardware_set kind i live mask) k ≡ (bit live k || bit mask k)
unfolding hardware_set
hardware_sets_c kind i live mask k h c = rw (bit_word, c) refl

pub hardware_leaves : (kind : Kind) (i live mask k : ℕ) → k < 32 → is_c kind i k ≡ false → bit (hardware_set kind i live mask) k ≡ bit live k
unfolding hardware_set
hardware_leaves kind i live mask k h c = rw (bit_word, c) (unset (bit live k) (bit mask k))

-- ---- what always reads 0, defaults, and the start of an FLR

abbrev fixed : (zero w c default : Bool) → Bool
fixed z w c d = not z || (not w && not c && d)

fixed_at : Kind → ℕ → ℕ → Bool
fixed_at kind i k = fixed (bit (reads_zero kind i) k) (is_w kind i k) (is_c kind i k) (bit (default_must_be_zero kind i) k)

fixed_tested : (kind : Kind) → T (all 64 (λ i. all 32 (fixed_at kind i)))
unfolding fixed_at row_of endpoint_row reads_zero default_must_be_zero bit
fixed_tested = every_kind (λ kind. all 64 (λ i. all 32 (fixed_at kind i))) tt

zero-past : (kind : Kind) (i : ℕ) → 64 ≤ i → reads_zero kind i ≡ 0
unfolding reads_zero
zero-past Endpoint i h = rw (ne_eqb i 30 (λ e. omega arith)) refl

-- Word 1Eh reads 0 in bits 15 and 21, whatever the kind.
pub device_zeros_lem : (kind : Kind) (k : ℕ) → bit (reads_zero kind device_control) k ≡ bit device_zeros k
unfolding reads_zero
device_zeros_lem Endpoint k = refl

-- a bit that always reads 0 is neither in W nor in C, and no default may have it set
pub reads_zero_fixed : (kind : Kind) (i k : ℕ) → k < 32
    → T (not (bit (reads_zero kind i) k) || (not (is_w kind i k) && not (is_c kind i k) && bit (default_must_be_zero kind i) k))
unfolding fixed_at
reads_zero_fixed kind i k h =
    let by : (b : Bool) → ltb i 64 ≡ b → T (fixed (bit (reads_zero kind i) k) (is_w kind i k) (is_c kind i k) (bit (default_must_be_zero kind i) k)) =
    elim [
      | true ↦ λ e. all_at 32 (fixed_at kind i) (all_at 64 (λ i. all 32 (fixed_at kind i)) (fixed_tested kind) i (ltb-true i 64 e)) k h
      | false ↦ λ e. rw (zero-past kind i (ltb-false i 64 e), bit_none k) tt
    ] in
    by (ltb i 64) refl

-- a default of any word but those that are checked may have any bit
pub others_unchecked : (kind : Kind) (i : ℕ) → (i ≡ get_or (checked_words kind) 0 0 → ⊥) → (i ≡ get_or (checked_words kind) 1 0 → ⊥)
    → default_must_be_zero kind i ≡ 0
unfolding default_must_be_zero
others_unchecked Endpoint i p d = rw (ne_eqb i device_control d, ne_eqb i pmcsr p) refl

-- a default is allowed where it has none of the bits that must be 0, and only there
pub default_allowed_clear : (kind : Kind) (i default k : ℕ) → k < 32 → default_allowed kind i default ≡ true → bit (default_must_be_zero kind i) k ≡ true
    → bit default k ≡ false
unfolding default_allowed
default_allowed_clear kind i default k h e m =
    let w : word (λ k. bit default k && bit (default_must_be_zero kind i) k) ≡ 0 = eqb-true _ 0 e in
    sym (and-true (bit default k)) ∙ ap (λ (b : Bool). bit default k && b) (sym m) ∙ sym (bit_word (λ k. bit default k && bit (default_must_be_zero kind i) k) k h)
    ∙ ap (λ (n : ℕ). bit n k) w ∙ bit_none k

pub default_clear_allowed : (kind : Kind) (i default : ℕ)
    → ((k : ℕ) → k < 32 → bit (default_must_be_zero kind i) k ≡ true → bit default k ≡ false) → default_allowed kind i default ≡ true
unfolding default_allowed
default_clear_allowed kind i default f =
    let at : (k : ℕ) → k < 32 → (b : Bool) → bit (default_must_be_zero kind i) k ≡ b → (bit default k && b) ≡ false =
    λ k h. elim [
      | true ↦ λ e. and-true (bit default k) ∙ f k h e
      | false ↦ λ e. and-false (bit default k)
    ] in
    eq-eqb _ 0 (word_none (λ k h. at k h (bit (default_must_be_zero kind i) k) refl))

-- an FLR starts at no other word, with no other byte, data bit or capability bit
pub starts_flr_only : (kind : Kind) (i value enables default : ℕ) → starts_flr kind i value enables default ≡ true
    → (i ≡ 0x78 / 4) × (bit enables 1 ≡ true) × (bit value 15 ≡ true) × (bit default 28 ≡ true)
unfolding starts_flr
starts_flr_only Endpoint i value enables default e =
    let a = both_left ((eqb i 30 && bit enables 1) && bit value 15) (bit default 28) e in
    let b = both_left (eqb i 30 && bit enables 1) (bit value 15) a in (
      eqb-true i 30 (both_left (eqb i 30) (bit enables 1) b),
      both_right (eqb i 30) (bit enables 1) b,
      both_right (eqb i 30 && bit enables 1) (bit value 15) a,
      both_right ((eqb i 30 && bit enables 1) && bit value 15) (bit default 28) e,
    )
