-- The attributes of the words of configuration space, by a slot's kind and a word's number. 01 has one kind of slot, an endpoint function; kinds are
-- named for requests to come.
use Rattle.std.specs.Prelude.{ℕ, zero, suc, ◌*◌, ◌/◌, Bool, not, ◌&&◌, ◌||◌, cond, List, [], ◌∷◌, eqb}
use Rattle.bits.specs.Bits.{bit, word}
use Rattle.registers.specs.declared.Row.{Row}
use Rattle.registers.specs.declared.Kind.{Kind}
use Rattle.registers.specs.declared.Kind.TheVariants.{Endpoint}

-- a row of the table: the word at an offset, with its W (written by software), C (cleared by writing 1), S (sticky) and K (kept
-- through FLR)
pub data Line : Type 0 where
  line : (offset w c s k : ℕ) → Line

-- the table
unfoldable pub endpoint_table : List Line
endpoint_table =
    line 0x04 0x00000547 0xF9000000 0x00000000 0x00000000
    ∷ line 0x0C 0x000000FF 0x00000000 0x00000000 0x00000000
    ∷ line 0x10 0xFFFF0000 0x00000000 0x00000000 0x00000000
    ∷ line 0x3C 0x000000FF 0x00000000 0x00000000 0x00000000
    ∷ line 0x44 0x00000103 0x00008000 0x00008100 0x00000000
    ∷ line 0x50 0x00710000 0x00000000 0x00000000 0x00000000
    ∷ line 0x54 0xFFFFFFFC 0x00000000 0x00000000 0x00000000
    ∷ line 0x58 0x0000FFFF 0x00000000 0x00000000 0x00000000
    ∷ line 0x78 0x000079FF 0x000F0000 0x00000000 0x000000E0
    ∷ line 0x80 0x000000CB 0x00000000 0x00000000 0x000000CB
    ∷ []

-- the row at an offset; words not listed have all four 0
unfoldable pub find : List Line → ℕ → Row
find [] offset = record { w = 0; c = 0; s = 0; k = 0 }
find (line o w c s k ∷ ls) offset = cond (eqb o offset) (record { w = w; c = c; s = s; k = k }) (find ls offset)

unfoldable pub endpoint_row : ℕ → Row
unfolding endpoint_table find
endpoint_row i = find endpoint_table (i * 4)

-- the row of word i
unfoldable pub row_of : Kind → ℕ → Row
row_of Endpoint i = endpoint_row i

-- the four masks of n words, one after the other, from word i on
unfoldable pub flat : (ℕ → Row) → (i n : ℕ) → List ℕ
flat f i zero = []
flat f i (suc n) = (f i).w ∷ (f i).c ∷ (f i).s ∷ (f i).k ∷ flat f (suc i) n

-- the full table: 64 rows of four masks for each kind
unfoldable pub masks : List ℕ
unfolding row_of endpoint_row flat
masks = flat (row_of Endpoint) 0 64

-- bit k of word i is in W, in C, in S, in K
abbrev pub is_w : Kind → (i k : ℕ) → Bool
is_w kind i k = bit (row_of kind i).w k

abbrev pub is_c : Kind → (i k : ℕ) → Bool
is_c kind i k = bit (row_of kind i).c k

abbrev pub is_s : Kind → (i k : ℕ) → Bool
is_s kind i k = bit (row_of kind i).s k

abbrev pub is_k : Kind → (i k : ℕ) → Bool
is_k kind i k = bit (row_of kind i).k k

-- the rule of rows, at one bit: W and C share no bit; S and K lie within W or C; S and K share no bit
abbrev pub lawful : (w c s k : Bool) → Bool
lawful w c s k = not (w && c) && (not s || w || c) && (not k || w || c) && not (s && k)

-- the words that have a name, as word numbers: PMCSR at 44h, device capabilities at 74h, device control and status at 78h
abbrev pub pmcsr : ℕ
pmcsr = 0x44 / 4

abbrev pub device_capabilities : ℕ
device_capabilities = 0x74 / 4

abbrev pub device_control : ℕ
device_control = 0x78 / 4

-- bits 15 (Initiate FLR) and 21 (Transactions Pending) of 78h
abbrev pub device_zeros : ℕ
device_zeros = 0x00208000

-- bits 1:0 (PowerState) of 44h
abbrev pub power_state_bits : ℕ
power_state_bits = 0x00000003

-- what always reads 0 of word i: bits 15 and 21 of 78h
unfoldable pub reads_zero : Kind → ℕ → ℕ
reads_zero Endpoint i = cond (eqb i device_control) device_zeros 0

-- what a default must not have set: bits 15 and 21 of 78h, bits 1:0 of 44h
unfoldable pub default_must_be_zero : Kind → ℕ → ℕ
default_must_be_zero Endpoint i = cond (eqb i device_control) device_zeros (cond (eqb i pmcsr) power_state_bits 0)

-- the words that have such bits: 44h and 78h
abbrev pub checked_words : Kind → List ℕ
checked_words Endpoint = pmcsr ∷ device_control ∷ []

-- no such bit is set in the default of word i
unfoldable pub default_allowed : Kind → (i default : ℕ) → Bool
default_allowed kind i default = eqb (word λ k. bit default k && bit (default_must_be_zero kind i) k) 0

-- where an FLR is asked for in a write to 78h: its byte, and its bit of the data
abbrev pub flr_byte : ℕ
flr_byte = 1

abbrev pub initiate_flr : ℕ
initiate_flr = 15

-- the word whose default says FLR capable, and its bit there: bit 28 of 74h
abbrev pub flr_capability_word : Kind → ℕ
flr_capability_word Endpoint = device_capabilities

abbrev pub flr_capable : ℕ
flr_capable = 28

-- a write that starts an FLR: of 78h with byte 1 enabled and data bit 15 set, where bit 28 of the default word 74h is set;
-- `capabilities` is the default of that word
unfoldable pub starts_flr : Kind → (i value enables capabilities : ℕ) → Bool
starts_flr Endpoint i value enables capabilities =
    eqb i device_control && bit enables flr_byte && bit value initiate_flr && bit capabilities flr_capable
