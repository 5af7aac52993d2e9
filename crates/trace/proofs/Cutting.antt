-- Laws of `cut`: it does not depend on its bound, and a trace in two parts is cut as its parts are.
use Prim.Native.Nat.{ℕ, zero, suc, ◌≤◌, ◌<◌}
use mathlib.Core.Path.{◌≡◌, refl, ap, sym, ◌∙◌}
use mathlib.Core.List.{List, [], ◌∷◌, ◌++◌}
use mathlib.Core.Bool.{Bool, true, false, and-false}
use native.Mathlib.Omega.{arith}
use lib.ListN.{length, take, drop, length-append, length-drop}
use lib.Seq.{append_snoc, take-append-le, drop-append-le, take_at, drop_at}
use lib.Dec.{leb}
use borrow.Author.Tests.{le-leb, lt-leb, leb-true}
use Rattle.bits.proofs.Tests.{both_left, both_right}
use Rattle.trace.specs.Format.{when◌then◌else◌, known, body, whole}
use Rattle.trace.specs.Bench.{Cut, front, uncut, cut_in, cut}
use Rattle.trace.specs.Feed.{kind_at}

-- whole records in front
abbrev pub fronts : List (List ℕ) → Cut → Cut
fronts rs c = record { wholes = rs ++ c.wholes; left = c.left }

-- a record that is not complete: nothing, or a known kind with too few bytes after it
abbrev pub Partial : List ℕ → Type 0
Partial [] = Unit {0}
Partial (k ∷ rest) = (known k ≡ true) × (length rest < body k)

stable : (n m : ℕ) (bs : List ℕ) → length bs ≤ n → length bs ≤ m → cut_in n bs ≡ cut_in m bs
unfolding cut_in
stable zero zero bs h j = refl
stable zero (suc m) [] h j = refl
stable zero (suc m) (k ∷ rest) h j = absurd (omega arith)
stable (suc n) zero [] h j = refl
stable (suc n) zero (k ∷ rest) h j = absurd (omega arith)
stable (suc n) (suc m) [] h j = refl
stable (suc n) (suc m) (k ∷ rest) h j =
    ap (λ (z : Cut). when whole k rest then front (k ∷ take (body k) rest) z else uncut (k ∷ rest))
    (stable n m (drop (body k) rest) (omega (arith, length-drop (body k) rest)) (omega (arith, length-drop (body k) rest)))

-- `cut` by its first record, with no bound
cut_cons : (k : ℕ) (rest : List ℕ)
    → cut (k ∷ rest) ≡ (when whole k rest then front (k ∷ take (body k) rest) (cut (drop (body k) rest)) else uncut (k ∷ rest))
unfolding cut cut_in
cut_cons k rest =
    ap (λ (z : Cut). when whole k rest then front (k ∷ take (body k) rest) z else uncut (k ∷ rest))
    (stable (length rest) (length (drop (body k) rest)) (drop (body k) rest) (omega (arith, length-drop (body k) rest)) (omega arith))

pub cut-whole : (k : ℕ) (rest : List ℕ) → whole k rest ≡ true
    → cut (k ∷ rest) ≡ front (k ∷ take (body k) rest) (cut (drop (body k) rest))
cut-whole k rest e = cut_cons k rest ∙ rw e

pub cut_short : (k : ℕ) (rest : List ℕ) → whole k rest ≡ false → cut (k ∷ rest) ≡ uncut (k ∷ rest)
cut_short k rest e = cut_cons k rest ∙ rw e

pub whole_of : (k : ℕ) (rest : List ℕ) → known k ≡ true → body k ≤ length rest → whole k rest ≡ true
unfolding whole
whole_of k rest h j = rw (h, le-leb _ _ j)

pub known_of : (k : ℕ) (rest : List ℕ) → whole k rest ≡ true → known k ≡ true
unfolding whole
known_of k rest = both_left (known k) (leb (body k) (length rest))

pub fits_of : (k : ℕ) (rest : List ℕ) → whole k rest ≡ true → body k ≤ length rest
unfolding whole
fits_of k rest e = leb-true _ _ (both_right (known k) (leb (body k) (length rest)) e)

short_of : (k : ℕ) (rest : List ℕ) → length rest < body k → whole k rest ≡ false
unfolding whole
short_of k rest j = rw (lt-leb _ _ j) (and-false (known k))

pub cut_unknown : (k : ℕ) (rest : List ℕ) → known k ≡ false → cut (k ∷ rest) ≡ uncut (k ∷ rest)
unfolding whole
cut_unknown k rest e = cut_short k rest (rw e)

-- what is no whole record stays one piece
pub cut_partial : (c : List ℕ) → Partial c → cut c ≡ uncut c
unfolding cut cut_in
cut_partial [] h = refl
cut_partial (k ∷ rest) h = cut_short k rest (short_of k rest h.1)

-- the byte that completes a record: the record is cut off
pub cut-last : (c : List ℕ) (b : ℕ) (more : List ℕ) → Partial c → known (kind_at c b) ≡ true → body (kind_at c b) ≤ length c
    → cut (c ++ b ∷ more) ≡ front (c ++ b ∷ []) (cut more)
cut-last [] b more h e j =
    let z : body b ≡ 0 = omega arith in
    cut-whole b more (whole_of b more e (omega arith)) ∙ rw z
cut-last (k ∷ rest) b more h e j =
    let n : length (rest ++ b ∷ []) ≡ body k = length-append rest (b ∷ []) ∙ omega (arith, h.1) in
    let m : rest ++ b ∷ more ≡ (rest ++ b ∷ []) ++ more = sym (append_snoc rest b more) in
    rw m
    (cut-whole k ((rest ++ b ∷ []) ++ more) (whole_of k ((rest ++ b ∷ []) ++ more) e (omega (arith, n, length-append (rest ++ b ∷ []) more)))
    ∙ rw (take_at (rest ++ b ∷ []) more (body k) n, drop_at (rest ++ b ∷ []) more (body k) n))

pub cut_nil : cut [] ≡ uncut []
unfolding cut cut_in
cut_nil = refl

-- a trace in two parts: the first part's whole records, and then what is left of it with the second
cut_append_in : (n : ℕ) (xs ys : List ℕ) → length xs ≤ n → cut (xs ++ ys) ≡ fronts (cut xs).wholes (cut ((cut xs).left ++ ys))
cut_append_in zero [] ys h = rw cut_nil
cut_append_in zero (k ∷ rest) ys h = absurd (omega arith)
cut_append_in (suc n) [] ys h = rw cut_nil
cut_append_in (suc n) (k ∷ rest) ys h =
    go (whole k rest) refl (cut_append_in n (drop (body k) rest) ys (omega (arith, length-drop (body k) rest)))
  where
    go : (t : Bool) → whole k rest ≡ t
        → cut (drop (body k) rest ++ ys)
        ≡ fronts (cut (drop (body k) rest)).wholes (cut ((cut (drop (body k) rest)).left ++ ys))
        → cut (k ∷ (rest ++ ys)) ≡ fronts (cut (k ∷ rest)).wholes (cut ((cut (k ∷ rest)).left ++ ys))
    go true e ih =
        let j : body k ≤ length rest = fits_of k rest e in
        rw (cut-whole k rest e)
        (cut-whole k (rest ++ ys) (whole_of k (rest ++ ys) (known_of k rest e) (omega (arith, length-append rest ys)))
        ∙ rw (take-append-le (body k) rest ys j, drop-append-le (body k) rest ys j, ih))
    go false e ih = rw (cut_short k rest e)

pub cut_append : (xs ys : List ℕ) → cut (xs ++ ys) ≡ fronts (cut xs).wholes (cut ((cut xs).left ++ ys))
cut_append xs ys = cut_append_in (length xs) xs ys (omega arith)
