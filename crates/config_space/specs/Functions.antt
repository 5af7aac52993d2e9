-- What a reset does to the lent live registers, 64 words to a slot: a reset of one slot, and of all.
use Rattle.std.specs.Prelude.{ℕ, ◌+◌, ◌*◌, ◌/◌, ◌%◌, Bool, true, ◌&&◌, List, eqb, ltb, length, get_or}
use Rattle.bits.specs.Lists.{replaced}
use Rattle.registers.specs.declared.Kind.{Kind}
use Rattle.registers.specs.Words.{link_reset, flr_reset}

-- where word i of a slot lies among the lent words
abbrev pub word_place : (slot i : ℕ) → ℕ
word_place slot i = slot * 64 + i

-- lent word n is word n % 64 of slot n / 64
abbrev pub in_slot : (slot n : ℕ) → Bool
in_slot slot n = eqb (n / 64) slot

abbrev pub in_any_slot : ℕ → Bool
in_any_slot n = true

-- each live word that is chosen, and that both lists have, becomes what `reset` gives for its slot, its word number, its live value
-- and its default; the others stay
unfoldable pub reset_where : (chosen : ℕ → Bool) (reset : (slot i live default : ℕ) → ℕ) (live defaults : List ℕ) → List ℕ
reset_where chosen reset live defaults =
    replaced (λ n. chosen n && ltb n (length defaults)) (λ n. reset (n / 64) (n % 64) (get_or live n 0) (get_or defaults n 0)) live

-- cold reset of a word: it equals its default
abbrev pub cold_word : (slot i live default : ℕ) → ℕ
cold_word slot i live default = default

-- link down, in one slot
unfoldable pub link_reset_slot : Kind → (slot : ℕ) (live defaults : List ℕ) → List ℕ
link_reset_slot kind slot live defaults = reset_where (in_slot slot) (λ s. link_reset kind) live defaults

-- FLR, its slot only
unfoldable pub flr_reset_slot : Kind → (slot : ℕ) (live defaults : List ℕ) → List ℕ
flr_reset_slot kind slot live defaults = reset_where (in_slot slot) (λ s. flr_reset kind) live defaults

-- link down, in every slot: each word by the kind of its slot
unfoldable pub link_reset_all : (kind_at : ℕ → Kind) (live defaults : List ℕ) → List ℕ
link_reset_all kind_at live defaults = reset_where in_any_slot (λ slot. link_reset (kind_at slot)) live defaults

-- cold reset: live registers equal the defaults
unfoldable pub cold_reset : (live defaults : List ℕ) → List ℕ
cold_reset live defaults = reset_where in_any_slot cold_word live defaults
