-- How the code goes about it: where the masks of a word lie in the table, and what is done to a word by masks.
use Rattle.std.specs.Prelude.{ℕ, not, ◌&&◌, ◌||◌, [], ◌∷◌, get_or}
use Rattle.bits.specs.Bits.{bit, word}
use Rattle.registers.specs.declared.Row.{Row}
use Rattle.registers.specs.declared.Kind.{Kind}
use Rattle.registers.specs.declared.Kind.TheVariants.{Endpoint}
use Rattle.registers.specs.Rows.{is_w, is_c, is_s, is_k}
use Rattle.registers.specs.Words.{held_bit, reset_bit}

-- where the masks of a kind start
abbrev pub start_of : Kind → ℕ
start_of Endpoint = 0

-- a row's masks in order
abbrev pub column : ℕ → Row → ℕ
column j r = get_or (r.w ∷ r.c ∷ r.s ∷ r.k ∷ []) j 0

-- the two bits of PowerState as a mask where a write leaves them as they were, else 0
unfoldable pub held : (i value : ℕ) → ℕ
held i value = word (held_bit i value)

-- the bits of word i that take their defaults. Link down: those in W or C and not in S
unfoldable pub link_mask : Kind → ℕ → ℕ
link_mask kind i = word λ k. (is_w kind i k || is_c kind i k) && not (is_s kind i k)

-- FLR: without those in K
unfoldable pub flr_mask : Kind → ℕ → ℕ
flr_mask kind i = word λ k. (is_w kind i k || is_c kind i k) && not (is_s kind i k) && not (is_k kind i k)

-- the bits of the mask take their defaults; others stay
unfoldable pub with_defaults : (mask live default : ℕ) → ℕ
with_defaults mask live default = word λ k. reset_bit (bit mask k) (bit live k) (bit default k)
