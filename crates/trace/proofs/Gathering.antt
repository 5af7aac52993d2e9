-- What stands next in a trace, as code gathers it, by a kind's whole size; and the test of the carried bytes.
use Prim.Native.Nat.{ℕ, zero, suc, ◌-◌, ◌≤◌, ◌<◌}
use mathlib.Core.Path.{◌≡◌, refl, sym, ap, ◌∙◌}
use mathlib.Core.Bool.{Bool, true, false, ◌&&◌, and-false}
use mathlib.Core.List.{List, [], ◌∷◌}
use native.Mathlib.Omega.{arith}
use lib.ListN.{length, get_or, take}
use lib.Seq.{length-take-le}
use lib.Dec.{T, leb, ltb, leb→le}
use borrow.Author.Tests.{lt-ltb, le-ltb, le-leb, lt-leb, ltb-true, ltb-false}
use Rattle.bits.proofs.Tests.{both_left, both_right}
use Rattle.trace.specs.Format.{record_sizes, size_of, longest, known, body, Next, complete, incomplete, unknown, next, begun}
use Rattle.trace.specs.inner.Gathered.{whole_size, end_number, end_count}
use Rattle.trace.proofs.Cutting.{Partial}

-- ---- no record is longer than 17 bytes: one test over the table
all_within_lem : ℕ → List ℕ → Bool
all_within_lem m [] = true
all_within_lem m (x ∷ xs) = leb x m && all_within_lem m xs

all_and : (a b : Bool) → T (a && b) → T a × T b
all_and true b t = (tt, t)
all_and false b t = absurd t

within_at : (m : ℕ) (l : List ℕ) (k : ℕ) → T (all_within_lem m l) → get_or l k 0 ≤ m
unfolding all_within_lem
within_at m [] k t = omega arith
within_at m (x ∷ xs) zero t = leb→le _ _ (all_and (leb x m) (all_within_lem m xs) t).0
within_at m (x ∷ xs) (suc k) t = within_at m xs k (all_and (leb x m) (all_within_lem m xs) t).1

pub size-within : (kind : ℕ) → size_of kind ≤ longest
unfolding size_of all_within_lem
size-within kind = within_at longest record_sizes kind tt

pub body-within : (kind : ℕ) → body kind ≤ longest - 1
unfolding body
body-within kind = omega (arith, size-within kind)

-- ---- a kind by its size
pub known-size : (kind : ℕ) → 0 < size_of kind → (known kind ≡ true) × (size_of kind ≡ suc (body kind))
unfolding known body
known-size kind h = (lt-ltb 0 (size_of kind) h, omega arith)

pub unknown_size : (kind : ℕ) → size_of kind ≡ 0 → known kind ≡ false
unfolding known
unknown_size kind e = le-ltb 0 (size_of kind) (omega arith)

-- ---- what stands next, by the size that the first byte tells
-- a whole record
pub next-whole : (bs : List ℕ) (n : ℕ) → size_of (get_or bs 0 0) ≡ n → 0 < n → n ≤ length bs → (next bs ≡ complete (take n bs)) × (length (take n bs) ≡ n)
unfolding next
next-whole [] n e h j = absurd (omega arith)
next-whole (k ∷ rest) n e h j =
    let s = known-size k (omega arith) in
    let m : n ≡ suc (body k) = omega arith in
    (rw (s.0, le-leb (body k) (length rest) (omega arith), m), length-take-le n (k ∷ rest) j)

-- the start of one
next-part : (bs : List ℕ) → length bs < size_of (get_or bs 0 0) → next bs ≡ incomplete
unfolding next
next-part [] j = refl
next-part (k ∷ rest) j = let s = known-size k (omega arith) in rw (s.0, lt-leb (body k) (length rest) (omega arith))

-- no byte, or a kind that there is not
next_none : (bs : List ℕ) → length bs ≡ 0 → next bs ≡ incomplete
unfolding next
next_none [] e = refl
next_none (k ∷ rest) e = absurd (omega arith)

next_unknown : (bs : List ℕ) → 0 < length bs → size_of (get_or bs 0 0) ≡ 0 → next bs ≡ unknown
unfolding next
next_unknown [] h e = absurd (omega arith)
next_unknown (k ∷ rest) h e = rw (unknown_size k e)

module _ (room : ℕ) (bs : List ℕ) where
  none_by : (n : Next) → next bs ≡ n → whole_size room n ≡ 0 → 0 ≡ whole_size room (next bs)
  none_by n e z = sym (ap (whole_size room) e ∙ z)

  -- no record runs: there is no byte, or not all of its bytes, or no room for its answer
  pub runs-nothing : length bs ≡ 0 → 0 ≡ whole_size room (next bs)
  runs-nothing e = none_by incomplete (next_none bs e) refl

  pub runs_none : length bs < size_of (get_or bs 0 0) → 0 ≡ whole_size room (next bs)
  runs_none j = none_by incomplete (next-part bs j) refl

  full : (n : Next) → room < 8 → 0 ≡ whole_size room n
  full (complete r) h = rw (lt-ltb room 8 h)
  full incomplete h = refl
  full unknown h = refl

  pub runs_not : room < 8 → 0 ≡ whole_size room (next bs)
  runs_not = full (next bs)

  -- else the one in front runs, if there is such a kind
  pub runs-whole : (n : ℕ) → size_of (get_or bs 0 0) ≡ n → n ≤ length bs → 8 ≤ room → n ≡ whole_size room (next bs)
  runs-whole zero e j l = by (length bs) refl
    where
      by : (m : ℕ) → length bs ≡ m → 0 ≡ whole_size room (next bs)
      by zero q = none_by incomplete (next_none bs q) refl
      by (suc m) q = none_by unknown (next_unknown bs (omega arith) e) refl
  runs-whole (suc n) e j l =
      let w = next-whole bs (suc n) e (omega arith) j in
      sym (ap (whole_size room) w.0 ∙ rw (le-ltb room 8 l) w.1)

-- the call's end
pub record EndsSo (bs : List ℕ) (n m : ℕ) : Type 0 where
  pub number : n ≡ end_number (next bs)
  pub count : m ≡ end_count bs (next bs)

module _ (bs : List ℕ) where
  ends_by : (n : Next) → next bs ≡ n → (c : ℕ) → c ≡ end_count bs n → EndsSo bs (end_number n) c
  ends_by n e c q = record { number = ap end_number (sym e); count = q ∙ ap (end_count bs) (sym e) }

  pub ends_none : length bs ≡ 0 → EndsSo bs 0 0
  ends_none e = ends_by incomplete (next_none bs e) 0 (sym e)

  pub ends_unknown : 0 < length bs → size_of (get_or bs 0 0) ≡ 0 → EndsSo bs 31 0
  ends_unknown h e = ends_by unknown (next_unknown bs h e) 0 refl

  pub ends-part : (n : ℕ) → length bs ≡ n → n < size_of (get_or bs 0 0) → EndsSo bs 0 n
  ends-part n e j = ends_by incomplete (next-part bs (omega arith)) n (sym e)

  pub ends_full : (n : ℕ) → size_of (get_or bs 0 0) ≡ n → 0 < n → n ≤ length bs → EndsSo bs 30 (n - 1)
  ends_full n e h j = let w = next-whole bs n e h j in ends_by (complete (take n bs)) w.0 (n - 1) (ap (λ (m : ℕ). m - 1) (sym w.1))

-- ---- the carried bytes
both : (n kind : ℕ) → (known kind && ltb n (body kind)) ≡ ltb (suc n) (size_of kind)
unfolding body
both n kind = go (ltb (suc n) (size_of kind)) refl
  where
    go : (t : Bool) → ltb (suc n) (size_of kind) ≡ t → (known kind && ltb n (body kind)) ≡ t
    go true e =
        let h = ltb-true (suc n) (size_of kind) e in
        let s = known-size kind (omega arith) in
        rw (s.0, lt-ltb n (size_of kind - 1) (omega arith))
    go false e = let h = ltb-false (suc n) (size_of kind) e in rw (le-ltb n (size_of kind - 1) (omega arith)) (and-false (known kind))

-- code's test of the carried bytes: fewer than their kind's whole size
pub begun_at : (c : List ℕ) (len : ℕ) → 0 < len → len ≤ length c → ltb len (size_of (get_or c 0 0)) ≡ begun (take len c)
unfolding begun
begun_at [] len h j = absurd (omega arith)
begun_at (k ∷ rest) zero h j = absurd (omega arith)
begun_at (k ∷ rest) (suc n) h j = rw (length-take-le n rest (omega arith)) (sym (both n k))

pub begun_none : (c : List ℕ) (len : ℕ) → len ≡ 0 → true ≡ begun (take len c)
unfolding begun
begun_none c len e = rw e

pub begun_partial : (c : List ℕ) → begun c ≡ true → Partial c
unfolding begun
begun_partial [] e = tt
begun_partial (k ∷ rest) e =
    (both_left (known k) (ltb (length rest) (body k)) e, ltb-true (length rest) (body k) (both_right (known k) (ltb (length rest) (body k)) e))

pub partial_begun : (c : List ℕ) → Partial c → begun c ≡ true
unfolding begun
partial_begun [] h = refl
partial_begun (k ∷ rest) h = rw (h.0, lt-ltb (length rest) (body k) h.1)

-- an incomplete record has at most 16 bytes
pub short_partial : (c : List ℕ) → Partial c → length c ≤ longest - 1
short_partial [] h = omega arith
short_partial (k ∷ rest) h = omega (arith, h.1, body-within k)

pub begun_short : (c : List ℕ) → begun c ≡ true → length c ≤ longest - 1
begun_short c e = short_partial c (begun_partial c e)
