-- A state image piece by piece: what is stored or read next, and what is left then.
use Prim.Native.Nat.{ℕ, zero, suc, ◌+◌, ◌*◌, ◌-◌, ◌/◌, ◌%◌, ◌<◌, ◌≤◌}
use mathlib.Core.Path.{◌≡◌, refl, ap, sym, ◌∙◌}
use mathlib.Core.Bool.{true, not, ◌&&◌, ◌||◌, cond}
use mathlib.Core.List.{List, [], ◌∷◌, ◌++◌}
use native.Mathlib.Omega.{arith}
use native.Mathlib.Nat.{add-zero, add-suc}
use native.Mathlib.Numerals.{add-one}
use lib.Dec.{eqb, leb, ltb}
use lib.ListN.{length, take, drop, get_or, set, drop_of_length-le, length-append}
use lib.Seq.{sets, drop-cons, drop-drop, get_or-drop}
use borrow.Author.Tests.{ltb-true, ltb-false}
use Rattle.bits.proofs.Choices.{either_way}
use Rattle.bits.specs.Bits.{one}
use Rattle.readiness.specs.declared.Status.{Status}
use Rattle.records.specs.declared.Port.{Port}
use Rattle.state_layout.specs.Numbers.{low_first, number_of, number_at, word_bytes, words_in}
use Rattle.state_layout.specs.Image.{dev_bytes, up_to, port_bytes, state_bytes, phase_byte, cause_byte, ready_time, flr_end, status_bytes, statuses_bytes}
use Rattle.bits.specs.Bytes.{byte_at}
use Rattle.state_layout.specs.Reading.{time_at, good_status, good_statuses, cause_in, phase_in, status_in, statuses_in_bytes}
use Rattle.state_layout.proofs.Stores.{sets-next}
use Rattle.state_layout.proofs.Numbers.{two_bytes, four_bytes, eight_bytes}
use Rattle.state_layout.proofs.ReadBack.{length_up_to, length_dev, length_port, length_statuses}

-- one of n fewer is left
less_one : (n i : ℕ) → i < n → n - i ≡ suc (n - (i + 1))
less_one n i h = omega arith

none_left : (n i : ℕ) → n ≤ i → n - i ≡ 0
none_left n i h = omega arith

-- ---- Numbers at an index
number_past : (n k at : ℕ) (l : List ℕ) → number_at n k (drop at l) ≡ number_at n (at + k) l
unfolding number_at
number_past n k at l = ap (λ (r : List ℕ). number_of (take n r)) (drop-drop k at l)

byte_past : (k at : ℕ) (l : List ℕ) → byte_at (drop at l) k ≡ byte_at l (at + k)
byte_past k at l = get_or-drop at l k 0

first_past : (at : ℕ) (l : List ℕ) → byte_at (drop at l) 0 ≡ byte_at l at
first_past at l = byte_past 0 at l ∙ ap (λ (k : ℕ). get_or l k 0) (add-zero at)

pub two_at : (at : ℕ) (l : List ℕ) → number_at 2 at l ≡ byte_at l at + 256 * byte_at l (at + 1)
unfolding number_at
two_at at l = two_bytes (drop at l) ∙ λ i. first_past at l i + 256 * byte_past 1 at l i

pub four_at : (at : ℕ) (l : List ℕ) → number_at 4 at l ≡ byte_at l at + 256 * byte_at l (at + 1) + 65536 * byte_at l (at + 2) + 16777216 * byte_at l (at + 3)
unfolding number_at
four_at at l = four_bytes (drop at l) ∙ λ i. first_past at l i + 256 * byte_past 1 at l i + 65536 * byte_past 2 at l i + 16777216 * byte_past 3 at l i

pub eight_at : (at : ℕ) (l : List ℕ) → number_at 8 at l ≡ number_at 4 at l + 4294967296 * number_at 4 (at + 4) l
unfolding number_at
eight_at at l = eight_bytes (drop at l) ∙ ap (λ (r : List ℕ). number_of (take 4 (drop at l)) + 4294967296 * number_of (take 4 r)) (drop-drop 4 at l)

-- ---- Numbers
pub low_more : (n i x : ℕ) → i < n → low_first (n - i) x ≡ x % 256 ∷ low_first (n - (i + 1)) (x / 256)
unfolding low_first
low_more n i x h = ap (λ (k : ℕ). low_first k x) (less_one n i h)

pub low_none : (n i x : ℕ) → n ≤ i → low_first (n - i) x ≡ []
unfolding low_first
low_none n i x h = ap (λ (k : ℕ). low_first k x) (none_left n i h)

-- ---- Words
pub words_more : (i : ℕ) (l : List ℕ) → i < length l → word_bytes (drop i l) ≡ low_first 4 (get_or l i 0) ++ word_bytes (drop (i + 1) l)
unfolding word_bytes
words_more i l h = ap word_bytes (drop-cons l i 0 h) ∙ ap (λ (k : ℕ). low_first 4 (get_or l i 0) ++ word_bytes (drop k l)) (sym (add-one i))

pub words_none : (i : ℕ) (l : List ℕ) → length l ≤ i → word_bytes (drop i l) ≡ []
unfolding word_bytes
words_none i l h = ap word_bytes (drop_of_length-le l h)

pub words_in_more : (n i : ℕ) (l : List ℕ) → i < n → words_in (n - i) (drop (4 * i) l) ≡ number_at 4 (4 * i) l ∷ words_in (n - (i + 1)) (drop (4 * (i + 1)) l)
unfolding words_in number_at
words_in_more n i l h =
    let e : 4 * i + 4 ≡ 4 * (i + 1) = omega arith in
    ap (λ (k : ℕ). words_in k (drop (4 * i) l)) (less_one n i h)
    ∙ ap (λ (r : List ℕ). number_of (take 4 (drop (4 * i) l)) ∷ words_in (n - (i + 1)) r) (drop-drop 4 (4 * i) l ∙ ap (λ (k : ℕ). drop k l) e)

pub words_in_none : (n i : ℕ) (l : List ℕ) → n ≤ i → words_in (n - i) l ≡ []
unfolding words_in
words_in_none n i l h = ap (λ (k : ℕ). words_in k l) (none_left n i h)

-- ---- Carried bytes
up_to_in : (n : ℕ) (l : List ℕ) (i : ℕ) → i < n → get_or (up_to n l) i 0 ≡ get_or l i 0
unfolding up_to
up_to_in n [] i h = refl
up_to_in zero (b ∷ l) i h = absurd (omega (arith, h))
up_to_in (suc n) (b ∷ l) zero h = refl
up_to_in (suc n) (b ∷ l) (suc i) h = up_to_in n l i (omega (arith, h))

up_to_past : (n : ℕ) (l : List ℕ) (i : ℕ) → n ≤ i → get_or (up_to n l) i 0 ≡ 0
unfolding up_to
up_to_past n [] i h = refl
up_to_past zero (b ∷ l) zero h = refl
up_to_past zero (b ∷ l) (suc i) h = up_to_past zero l i (omega arith)
up_to_past (suc n) (b ∷ l) zero h = absurd (omega (arith, h))
up_to_past (suc n) (b ∷ l) (suc i) h = up_to_past n l i (omega (arith, h))

up_to_at : (n : ℕ) (l : List ℕ) (i : ℕ) → get_or (up_to n l) i 0 ≡ cond (ltb i n) (get_or l i 0) 0
up_to_at n l i =
    either_way (λ v. get_or (up_to n l) i 0 ≡ v) (ltb i n) (get_or l i 0) 0 (λ e. up_to_in n l i (ltb-true i n e)) (λ e. up_to_past n l i (ltb-false i n e))

pub up_to_more : (n i : ℕ) (l : List ℕ) → i < length l → drop i (up_to n l) ≡ cond (ltb i n) (get_or l i 0) 0 ∷ drop (i + 1) (up_to n l)
up_to_more n i l h =
    let h' : i < length (up_to n l) = omega (arith, h, length_up_to n l) in
    drop-cons (up_to n l) i 0 h' ∙ λ t. up_to_at n l i t ∷ drop (sym (add-one i) t) (up_to n l)

pub up_to_none : (n i : ℕ) (l : List ℕ) → length l ≤ i → drop i (up_to n l) ≡ []
up_to_none n i l h = let k : length (up_to n l) ≤ i = omega (arith, h, length_up_to n l) in drop_of_length-le (up_to n l) k

-- ---- Statuses
pub statuses_more : (i : ℕ) (l : List Status) (d : Status) → i < length l → statuses_bytes (drop i l) ≡ status_bytes (get_or l i d) ++ statuses_bytes (drop (i + 1) l)
unfolding statuses_bytes
statuses_more i l d h = ap statuses_bytes (drop-cons l i d h) ∙ ap (λ (k : ℕ). status_bytes (get_or l i d) ++ statuses_bytes (drop k l)) (sym (add-one i))

pub statuses_none : (i : ℕ) (l : List Status) → length l ≤ i → statuses_bytes (drop i l) ≡ []
unfolding statuses_bytes
statuses_none i l h = ap statuses_bytes (drop_of_length-le l h)

next_status : (i : ℕ) (l : List ℕ) → drop 27 (drop (46 + 27 * i) l) ≡ drop (46 + 27 * (i + 1)) l
next_status i l =
    let e : 46 + 27 * i + 27 ≡ 46 + 27 * (i + 1) = omega arith in
    drop-drop 27 (46 + 27 * i) l ∙ ap (λ (k : ℕ). drop k l) e

pub statuses_in_more : (n i : ℕ) (l : List ℕ) → i < n
    → statuses_in_bytes (n - i) (drop (46 + 27 * i) l) ≡ status_in (drop (46 + 27 * i) l) ∷ statuses_in_bytes (n - (i + 1)) (drop (46 + 27 * (i + 1)) l)
unfolding statuses_in_bytes
statuses_in_more n i l h =
    ap (λ (k : ℕ). statuses_in_bytes k (drop (46 + 27 * i) l)) (less_one n i h)
    ∙ ap (λ (r : List ℕ). status_in (drop (46 + 27 * i) l) ∷ statuses_in_bytes (n - (i + 1)) r) (next_status i l)

pub statuses_in_none : (n i : ℕ) (l : List ℕ) → n ≤ i → statuses_in_bytes (n - i) l ≡ []
unfolding statuses_in_bytes
statuses_in_none n i l h = ap (λ (k : ℕ). statuses_in_bytes k l) (none_left n i h)

pub good_more : (n i : ℕ) (l : List ℕ) → i < n
    → good_statuses (n - i) (drop (46 + 27 * i) l) ≡ (good_status (drop (46 + 27 * i) l) && good_statuses (n - (i + 1)) (drop (46 + 27 * (i + 1)) l))
unfolding good_statuses
good_more n i l h =
    ap (λ (k : ℕ). good_statuses k (drop (46 + 27 * i) l)) (less_one n i h)
    ∙ ap (λ (r : List ℕ). good_status (drop (46 + 27 * i) l) && good_statuses (n - (i + 1)) r) (next_status i l)

pub good_none : (n i : ℕ) (l : List ℕ) → n ≤ i → good_statuses (n - i) l ≡ true
unfolding good_statuses
good_none n i l h = ap (λ (k : ℕ). good_statuses k l) (none_left n i h)

pub length_statuses_in : (n : ℕ) (l : List ℕ) → length (statuses_in_bytes n l) ≡ n
unfolding statuses_in_bytes
length_statuses_in zero l = refl
length_statuses_in (suc n) l = ap suc (length_statuses_in n (drop 27 l))

-- ---- A status by its fields
pub good_at : (at : ℕ) (l : List ℕ)
    → good_status (drop at l)
    ≡ (leb (byte_at l at) 2 && leb (byte_at l (at + 1)) 3 && (not (eqb (byte_at l at) 1) || not (eqb (byte_at l (at + 1)) 0)) && eqb (byte_at l (at + 18)) 0)
unfolding good_status
good_at at l =
    λ i. leb (first_past at l i) 2 && leb (byte_past 1 at l i) 3 && (not (eqb (first_past at l i) 1) || not (eqb (byte_past 1 at l i) 0)) && eqb (byte_past 18 at l i) 0

pub status_at_lem : (at : ℕ) (l : List ℕ)
    → status_in (drop at l) ≡ record { phase = phase_in (byte_at l at) (cause_in (byte_at l (at + 1)) (time_at (at + 10) l)) (time_at (at + 2) l) }
unfolding status_in
status_at_lem at l =
    λ i. record { phase = phase_in (first_past at l i) (cause_in (byte_past 1 at l i) (record { 0 = number_past 8 10 at l i })) (record { 0 = number_past 8 2 at l i }) }

-- so many places later
abbrev later : ℕ → ℕ → ℕ
later zero at = at
later (suc k) at = suc (later k at)

is_later : (k at : ℕ) → at + k ≡ later k at
is_later zero at = add-zero at
is_later (suc k) at = add-suc at k ∙ ap suc (is_later k at)

pub status_stores : (l : List ℕ) (at : ℕ) (s : Status)
    → sets (set (sets (sets (set (set l at (phase_byte s.phase)) (at + 1) (cause_byte s.phase)) (at + 2) (low_first 8 (ready_time s.phase))) (at + 10) (low_first 8 (flr_end s.phase))) (at + 18) 0) (at + 19) (low_first 8 0)
    ≡ sets l at (status_bytes s)
unfolding status_bytes low_first
status_stores l at s =
    λ i. sets (set (sets (sets (set (set l at (phase_byte s.phase)) (is_later 1 at i) (cause_byte s.phase)) (is_later 2 at i) (low_first 8 (ready_time s.phase))) (is_later 10 at i) (low_first 8 (flr_end s.phase))) (is_later 18 at i) 0) (is_later 19 at i) (low_first 8 0)

-- ---- The port by its fields
pub port_stores : (l : List ℕ) (p : Port) → length p.carried ≡ 16
    → set (sets (set (sets l 0 (dev_bytes p.dev)) 28 (p.carried_len % 256)) 29 (up_to p.carried_len p.carried)) 45 (one p.broken) ≡ sets l 0 (port_bytes p)
unfolding port_bytes low_first
port_stores l p e =
    let d = dev_bytes p.dev in
    let n = low_first 1 p.carried_len in
    let u = up_to p.carried_len p.carried in
    let o = one p.broken in
    let k₁ : 28 ≡ 0 + length d = omega (arith, length_dev p.dev) in
    let k₂ : 29 ≡ 0 + length (d ++ n) = omega (arith, length_dev p.dev, length-append d n) in
    let k₃ : 45 ≡ 0 + length (d ++ n ++ u) = omega (arith, length_dev p.dev, length-append d n, length-append (d ++ n) u, length_up_to p.carried_len p.carried, e) in
    ap (λ (x : List ℕ). set (sets x 29 u) 45 o) (sets-next d n l 0 28 k₁)
    ∙ ap (λ (x : List ℕ). set x 45 o) (sets-next (d ++ n) u l 0 29 k₂)
    ∙ sets-next (d ++ n ++ u) (o ∷ []) l 0 45 k₃

pub state_stores : (l : List ℕ) (p : Port) (s : List Status) → length p.carried ≡ 16
    → sets (sets l 0 (port_bytes p)) 46 (statuses_bytes s) ≡ sets l 0 (state_bytes p s)
unfolding state_bytes
state_stores l p s e = let k : 46 ≡ 0 + length (port_bytes p) = omega (arith, length_port p e) in sets-next (port_bytes p) (statuses_bytes s) l 0 46 k

pub length-state : (p : Port) (s : List Status) → length p.carried ≡ 16 → length (state_bytes p s) ≡ 46 + 27 * length s
unfolding state_bytes
length-state p s e = length-append (port_bytes p) (statuses_bytes s) ∙ omega (arith, length_port p e, length_statuses s)
