-- Each definition by kind and word as the code computes it, and each operation's bit as the code computes it.
use mathlib.Core.Path.{◌≡◌, refl, ap, ◌∙◌}
use mathlib.Core.Bool.{Bool, true, false, not, ◌&&◌, ◌||◌, cond}
use mathlib.Core.List.{List, [], ◌∷◌}
use Prim.Native.Nat.{ℕ, ◌+◌, ◌*◌, ◌/◌, ◌%◌, ◌<◌, ◌≤◌}
use native.Mathlib.Omega.{arith}
use lib.Dec.{T, eqb, eqb→eq, ltb, ltb→lt}
use lib.Bits.{bit_and}
use lib.ListN.{get_or}
use borrow.Author.Tests.{ne_eqb}
use Rattle.bits.specs.Bits.{bit}
use Rattle.bits.proofs.Bits.{bit_word, word_ext, bit_test_set}
use Rattle.bits.proofs.Tests.{all, all_at, and_left, and_right, truth}
use Rattle.registers.specs.declared.Row.{Row}
use Rattle.registers.specs.declared.Kind.{Kind}
use Rattle.registers.specs.declared.Kind.TheVariants.{Endpoint}
use Rattle.registers.specs.Rows.{Line, line, endpoint_table, find, endpoint_row, row_of, masks, pmcsr, device_capabilities, device_control, device_zeros, power_state_bits, flr_byte, initiate_flr, flr_capable, reads_zero, default_must_be_zero, checked_words, flr_capability_word, starts_flr}
use Rattle.registers.specs.inner.Masks.{start_of, column, link_mask, flr_mask, with_defaults}
use Rattle.registers.specs.Words.{write_bit, reset_bit, link_reset, flr_reset}

-- ---- kinds

-- a test that every kind passes
pub every_kind : (test : Kind → Bool) → T (test Endpoint) → (kind : Kind) → T (test kind)
every_kind test t Endpoint = t

-- ---- rows

abbrev pub no_bits : Row
no_bits = record { w = 0; c = 0; s = 0; k = 0 }

-- every line of a table lies below an offset of 256
within : List Line → Bool
within [] = true
within (line o w c s k ∷ ls) = ltb o 256 && within ls

past : (ls : List Line) → T (within ls) → (offset : ℕ) → 256 ≤ offset → find ls offset ≡ no_bits
unfolding find within
past [] t offset h = refl
past (line o w c s k ∷ ls) t offset h =
    let b : o < 256 = ltb→lt o 256 (and_left (ltb o 256) (within ls) t) in
    let n : eqb o offset ≡ false = ne_eqb o offset (λ e. omega arith) in
    rw n (past ls (and_right (ltb o 256) (within ls) t) offset h)

-- no bit has an attribute above word 63
pub row-past : (kind : Kind) (i : ℕ) → 64 ≤ i → row_of kind i ≡ no_bits
unfolding row_of endpoint_row endpoint_table within
row-past Endpoint i h = past endpoint_table tt (i * 4) (omega arith)

-- ---- the full table has the rows of the definition

right : Kind → ℕ → Bool
right kind n = eqb (get_or masks (start_of kind + n) 0) (column (n % 4) (row_of kind (n / 4)))

-- one test of all masks
masks_tested : (kind : Kind) → T (all 256 (right kind))
unfolding right masks row_of endpoint_row
masks_tested = every_kind (λ kind. all 256 (right kind)) tt

mask_at : (kind : Kind) (i j m : ℕ) → i < 64 → j < 4 → m ≡ start_of kind + i * 4 + j → get_or masks m 0 ≡ column j (row_of kind i)
unfolding right
mask_at kind i j m hi hj e =
    let n : ℕ = i * 4 + j in
    let a : m ≡ start_of kind + n = omega arith in
    let b : n / 4 ≡ i = omega arith in
    let d : n % 4 ≡ j = omega arith in
    let t : get_or masks (start_of kind + n) 0 ≡ column (n % 4) (row_of kind (n / 4)) = eqb→eq _ _ (all_at 256 (right kind) (masks_tested kind) n (omega arith)) in
    ap (λ (m : ℕ). get_or masks m 0) a ∙ (rw (b, d) at t)

-- what four entries of a list say
abbrev pub row_from : List ℕ → ℕ → Row
row_from t j = record { w = get_or t j 0; c = get_or t (j + 1) 0; s = get_or t (j + 2) 0; k = get_or t (j + 3) 0 }

pub row_in : (t : List ℕ) (kind : Kind) (i j : ℕ) → t ≡ masks → j ≡ start_of kind → i < 64 → row_from t (j + i * 4) ≡ row_of kind i
row_in t kind i j e d h =
    let m : ℕ = start_of kind + i * 4 in
    rw (e, d)
    (λ x. record {
      w = mask_at kind i 0 m h (omega arith) (omega arith) x;
      c = mask_at kind i 1 (m + 1) h (omega arith) (omega arith) x;
      s = mask_at kind i 2 (m + 2) h (omega arith) (omega arith) x;
      k = mask_at kind i 3 (m + 3) h (omega arith) (omega arith) x;
    })

-- ---- what stands behind a name by kind and word

pub reads_zero_is : (kind : Kind) (i : ℕ) → reads_zero kind i ≡ cond (eqb i device_control) device_zeros 0
unfolding reads_zero
reads_zero_is Endpoint i = refl

pub must_be_zero_is : (kind : Kind) (i : ℕ) → default_must_be_zero kind i ≡ cond (eqb i device_control) device_zeros (cond (eqb i pmcsr) power_state_bits 0)
unfolding default_must_be_zero
must_be_zero_is Endpoint i = refl

pub starts_flr_is : (kind : Kind) (i value enables default : ℕ)
    → starts_flr kind i value enables default ≡ (eqb i device_control && bit enables flr_byte && bit value initiate_flr && bit default flr_capable)
unfolding starts_flr
starts_flr_is Endpoint i value enables default = refl

pub lane_set : (enables : ℕ) → not (eqb (bit_and enables 2) 0) ≡ bit enables flr_byte
lane_set enables = bit_test_set enables flr_byte

pub initiate_set : (value : ℕ) → not (eqb (bit_and value 32768) 0) ≡ bit value initiate_flr
initiate_set value = bit_test_set value initiate_flr

pub capable_set : (default : ℕ) → not (eqb (bit_and default 268435456) 0) ≡ bit default flr_capable
capable_set default = bit_test_set default flr_capable

-- ---- one bit of each operation

pub write_bit_lem : (on w c old value : Bool)
    → ((old && not (w && on) && not (c && on && value)) || (value && (w && on))) ≡ write_bit on w c old value
unfolding write_bit
write_bit_lem = truth 5 _ _ tt

pub reset_bit_lem : (takes live default : Bool) → ((live && not takes) || (default && takes)) ≡ reset_bit takes live default
unfolding reset_bit
reset_bit_lem = truth 3 _ _ tt

-- a reset by the mask of those bits that take their defaults is the reset
pub link_by_mask : (kind : Kind) (i live default : ℕ) → with_defaults (link_mask kind i) live default ≡ link_reset kind i live default
unfolding with_defaults link_mask link_reset
link_by_mask kind i live default = word_ext λ k h. rw bit_word refl

pub flr_by_mask : (kind : Kind) (i live default : ℕ) → with_defaults (flr_mask kind i) live default ≡ flr_reset kind i live default
unfolding with_defaults flr_mask flr_reset
flr_by_mask kind i live default = word_ext λ k h. rw bit_word refl
