-- `feed` record by record: what it does with a trace, by what stands at the trace's front.
use Prim.Native.Nat.{ℕ, zero, suc, ◌+◌, ◌-◌, ◌≤◌, ◌<◌}
use mathlib.Core.Path.{◌≡◌, refl, ap, sym, ◌∙◌}
use mathlib.Core.List.{List, [], ◌∷◌, ◌++◌, append-nil, append_assoc}
use mathlib.Core.Bool.{Bool, true, false}
use native.Mathlib.Omega.{arith}
use native.Mathlib.Nat.{sub-zero, zero-add}
use native.Mathlib.Numerals.{one-add, add-one}
use lib.ListN.{length, get_or, take, drop, length-append, length-take}
use lib.Seq.{append_snoc, split_at, take-suc, take-take, take-nil, length-take-le}
use lib.Dec.{leb}
use borrow.Author.Tests.{leb-true, leb-false}
use Rattle.trace.specs.Format.{when◌then◌else◌, known, body, complete, incomplete, unknown, next}
use Rattle.trace.specs.Bench.{Device, Bench}
use Rattle.trace.specs.Feed.{kind_at, Fed, stopped, later, feed_open}
use Rattle.trace.proofs.Cutting.{Partial}
use Rattle.trace.proofs.Feeding.{byte_unknown, byte_carries, byte_full, byte_ends}

-- a port that is not broken
abbrev pub carrying : {S : Type 0} → S → List ℕ → Bench S
carrying s c = record { state = s; carried = c; broken = false }

pub later-zero : {S : Type 0} (f : Fed S) → later 0 [] f ≡ f
later-zero f = λ i. record { bench = f.bench; number = f.number; consumed = zero-add f.consumed i; answers = f.answers }

pub later-later : {S : Type 0} (i j : ℕ) (a b : List ℕ) (f : Fed S) → later i a (later j b f) ≡ later (i + j) (a ++ b) f
later-later i j a b f =
    let n : i + (j + f.consumed) ≡ i + j + f.consumed = omega arith in
    λ k. record { bench = f.bench; number = f.number; consumed = n k; answers = sym (append_assoc a b f.answers) k }

-- ---- the ways that a trace can begin
pub record Complete (bs r : List ℕ) : Type 0 where
  pub kind : known (kind_at bs 0) ≡ true
  pub is : r ≡ take (suc (body (kind_at bs 0))) bs
  pub fits : body (kind_at bs 0) < length bs

complete_is : (k : ℕ) (rest r : List ℕ) (x y : Bool) → known k ≡ x → leb (body k) (length rest) ≡ y
    → (when x then (when y then complete (k ∷ take (body k) rest) else incomplete) else unknown) ≡ complete r → Complete (k ∷ rest) r
complete_is k rest r true true ex ey e = record { kind = ex; is = cc; fits = omega (arith, leb-true (body k) (length rest) ey) }
complete_is k rest r true false ex ey e = absurd (let z : ◌≡◌ {A = ℕ} 0 1 = cc in omega arith)
complete_is k rest r false y ex ey e = absurd (let z : ◌≡◌ {A = ℕ} 0 1 = cc in omega arith)

pub complete_at : (bs r : List ℕ) → next bs ≡ complete r → Complete bs r
unfolding next
complete_at [] r e = absurd (let z : ◌≡◌ {A = ℕ} 0 1 = cc in omega arith)
complete_at (k ∷ rest) r e = complete_is k rest r _ _ refl refl e

partial_is : (k : ℕ) (rest : List ℕ) (x y : Bool) → known k ≡ x → leb (body k) (length rest) ≡ y
    → (when x then (when y then complete (k ∷ take (body k) rest) else incomplete) else unknown) ≡ incomplete → Partial (k ∷ rest)
partial_is k rest true false ex ey e = (ex, leb-false (body k) (length rest) ey)
partial_is k rest true true ex ey e = absurd (let z : ◌≡◌ {A = ℕ} 0 1 = cc in omega arith)
partial_is k rest false y ex ey e = absurd (let z : ◌≡◌ {A = ℕ} 0 1 = cc in omega arith)

pub incomplete_at : (bs : List ℕ) → next bs ≡ incomplete → Partial bs
unfolding next
incomplete_at [] e = tt
incomplete_at (k ∷ rest) e = partial_is k rest _ _ refl refl e

unknown_is : (k : ℕ) (rest : List ℕ) (x y : Bool) → known k ≡ x
    → (when x then (when y then complete (k ∷ take (body k) rest) else incomplete) else unknown) ≡ unknown → known k ≡ false
unknown_is k rest false y ex e = ex
unknown_is k rest true true ex e = absurd (let z : ◌≡◌ {A = ℕ} 0 1 = cc in omega arith)
unknown_is k rest true false ex e = absurd (let z : ◌≡◌ {A = ℕ} 0 1 = cc in omega arith)

-- a kind's byte with bytes of its body, but not all
partial_take : (bs : List ℕ) (n : ℕ) → known (kind_at bs 0) ≡ true → n ≤ body (kind_at bs 0) → Partial (take n bs)
partial_take [] n e h = rw take-nil tt
partial_take (k ∷ rest) zero e h = tt
partial_take (k ∷ rest) (suc n) e h = (e, omega (arith, length-take n rest))

kind_take : (bs : List ℕ) (n : ℕ) → n < length bs → kind_at (take n bs) (get_or bs n 0) ≡ kind_at bs 0
kind_take [] n h = absurd (omega arith)
kind_take (k ∷ rest) zero h = refl
kind_take (k ∷ rest) (suc n) h = refl

-- the next byte of an incomplete record that stays incomplete
partial_more : (c : List ℕ) (y : ℕ) (ys : List ℕ) → Partial (c ++ y ∷ ys) → (known (kind_at c y) ≡ true) × (length c < body (kind_at c y))
partial_more [] y ys h = (h.0, omega (arith, h.1))
partial_more (k ∷ rest) y ys h = (h.0, omega (arith, h.1, length-append rest (y ∷ ys)))

pub length_whole : (bs r : List ℕ) → Complete bs r → (length r ≡ suc (body (kind_at bs 0))) × (length r ≤ length bs)
length_whole bs r h =
    let e : length r ≡ suc (body (kind_at bs 0)) = rw h.is (length-take-le (suc (body (kind_at bs 0))) bs h.fits) in
    (e, omega (arith, h.fits))

module _ {S : Type 0} (D : Device S) where
  -- bytes that complete no record are carried
  carry : (s : S) (c ys rest : List ℕ) (room : ℕ) → Partial (c ++ ys)
      → feed_open D (carrying s c) room (ys ++ rest) ≡ later (length ys) [] (feed_open D (carrying s (c ++ ys)) room rest)
  unfolding feed_open
  carry s c [] rest room h = rw (append-nil c) (sym (later-zero (feed_open D (carrying s c) room rest)))
  carry s c (y ∷ ys) rest room h =
      let m = partial_more c y ys h in
      rw (byte_carries D (carrying s c) room y m.0 m.1, sub-zero, ← append_snoc c y ys)
      (ap (later 1 []) (carry s (c ++ y ∷ []) ys rest room (rw (append_snoc c y ys) h))
      ∙ rw (← one-add (length ys)) (later-later 1 (length ys) [] [] (feed_open D (carrying s ((c ++ y ∷ []) ++ ys)) room rest)))

  -- a call's trace is what is carried, and then the input
  pub joined : (s : S) (c input : List ℕ) (room : ℕ) → Partial c
      → later (length c) [] (feed_open D (carrying s c) room input) ≡ feed_open D (carrying s []) room (c ++ input)
  joined s c input room h = sym (carry s [] c input room h)

  -- the trace up to the last byte of the record in front
  module _ (s : S) (bs r : List ℕ) (room : ℕ) (h : Complete bs r) where
    abbrev size : ℕ
    size = body (kind_at bs 0)

    to_last : feed_open D (carrying s []) room bs
        ≡ later size [] (feed_open D (carrying s (take size bs)) room (get_or bs size 0 ∷ drop (suc size) bs))
    to_last =
        let l = length-take-le size bs (omega (arith, h.fits)) in
        ap (feed_open D (carrying s []) room) (split_at bs size 0 h.fits)
        ∙ carry s [] (take size bs) (get_or bs size 0 ∷ drop (suc size) bs) room (partial_take bs size h.kind (omega arith))
        ∙ rw l

    same_kind : kind_at (take size bs) (get_or bs size 0) ≡ kind_at bs 0
    same_kind = kind_take bs size h.fits

    length_r : length r ≡ suc size
    length_r = (length_whole bs r h).0

    -- a complete record runs, where there is room for its answer
    pub feed_complete : 8 ≤ room
        → feed_open D (carrying s []) room bs
        ≡ later (length r) (D.run s r).answer (feed_open D (carrying (D.run s r).state []) (room - 8) (drop (length r) bs))
    unfolding feed_open
    feed_complete j =
        let l = length-take-le size bs (omega (arith, h.fits)) in
        let e : take size bs ++ get_or bs size 0 ∷ [] ≡ r = sym (take-suc bs size 0 h.fits) ∙ sym h.is in
        let w = byte_ends D (carrying s (take size bs)) room (get_or bs size 0) (rw same_kind h.kind) (rw same_kind (omega arith)) j in
        let z = feed_open D (carrying (D.run s r).state []) (room - 8) (drop (suc size) bs) in
        rw length_r
        (to_last ∙ rw (w, e, D.eight s r) (later-later size 1 [] (D.run s r).answer z ∙ ap (λ (n : ℕ). later n (D.run s r).answer z) (add-one size)))

    -- and else all but its last byte is carried
    pub feed_full : room < 8
        → feed_open D (carrying s []) room bs ≡ later (length r - 1) [] (stopped 30 (carrying s (take (length r - 1) r)))
    unfolding feed_open
    feed_full j =
        let l = length-take-le size bs (omega (arith, h.fits)) in
        let w = byte_full D (carrying s (take size bs)) room (get_or bs size 0) (rw same_kind h.kind) (rw same_kind (omega arith)) j in
        let n : length r - 1 ≡ size = omega (arith, length_r) in
        let e : take size r ≡ take size bs = rw h.is (take-take size (suc size) bs (omega arith)) in
        to_last ∙ rw (w, n, e)

  -- an incomplete record is carried
  pub feed_incomplete : (s : S) (bs : List ℕ) (room : ℕ) → Partial bs
      → feed_open D (carrying s []) room bs ≡ later (length bs) [] (stopped 0 (carrying s bs))
  unfolding feed_open
  feed_incomplete s bs room h =
      ap (feed_open D (carrying s []) room) (sym (append-nil bs)) ∙ carry s [] bs [] room h

  -- an unknown kind breaks the port
  pub feed_unknown : (s : S) (bs : List ℕ) (room : ℕ) → next bs ≡ unknown
      → feed_open D (carrying s []) room bs ≡ stopped 31 (record { state = s; carried = []; broken = true })
  unfolding feed_open next
  feed_unknown s [] room e = absurd (let z : ◌≡◌ {A = ℕ} 0 1 = cc in omega arith)
  feed_unknown s (k ∷ rest) room e = rw (byte_unknown D (carrying s []) room k (unknown_is k rest (known k) (leb (body k) (length rest)) refl e))
