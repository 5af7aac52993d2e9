-- A trace in pieces, call by call.
use Prim.Native.Nat.{ℕ, zero, suc, ◌+◌, ◌-◌, ◌≤◌, ◌<◌}
use mathlib.Core.Path.{◌≡◌, refl, ap, sym, ◌∙◌}
use mathlib.Core.Bool.{Bool, true, false, cond, ◌&&◌}
use mathlib.Core.List.{List, [], ◌++◌, append_assoc, append-nil}
use native.Mathlib.Omega.{arith}
use native.Mathlib.Nat.{add-zero, zero-add}
use lib.ListN.{length, take, drop, length-append, length-drop, take-append-drop}
use lib.Seq.{length-take-le, take-length, drop-length, take-append-add, drop-append-add, drop-drop}
use lib.Dec.{eqb, ltb}
use borrow.Author.Tests.{ltb-true, ltb-false, eqb-true, eqb-false, lt-ltb, le-ltb, eq-eqb}
use Rattle.bits.proofs.Tests.{both_left, both_right, split}
use Rattle.trace.specs.Lent.{Left, unchanged}
use Rattle.readiness.specs.declared.Setup.{Setup}
use Rattle.demand3.specs.Held.{Held}
use Rattle.demand3.specs.SettingUp.{Prepared, sets_up}
use Rattle.demand3.specs.Feeding.{feeds}
use Rattle.trace_in_pieces.specs.Pieces.{piece_of, after, calls_in, in_pieces, runs_on}
use Rattle.feed.proofs.Counts.{Counts, counts}

-- ---- A piece
-- it has at least one byte, and no more than are left
pub piece_bounds : (size left : ℕ) → 0 < left → (0 < piece_of size left) × (piece_of size left ≤ left)
piece_bounds size left some = go (eqb size 0) (ltb left size) refl refl
  where
    go : (t u : Bool) → eqb size 0 ≡ t → ltb left size ≡ u → (0 < cond t left (cond u left size)) × (cond t left (cond u left size) ≤ left)
    go true u e f = (some, omega arith)
    go false true e f = (some, omega arith)
    go false false e f = (omega (arith, eqb-false size 0 e), ltb-false left size f)

-- ---- Calls
-- another call is made
abbrev another : ℕ → List ℕ → Bool
another number t = eqb number 0 && ltb 0 (length t)

none : (number : ℕ) (t : List ℕ) → (number ≡ 0 → length t ≤ 0) → another number t ≡ false
none number t h = go (eqb number 0) refl
  where
    go : (b : Bool) → eqb number 0 ≡ b → (b && ltb 0 (length t)) ≡ false
    go true e = le-ltb 0 (length t) (h (eqb-true number 0 e))
    go false e = refl

module _ (setup : Setup) (defaults : List ℕ) (size : ℕ) where
  abbrev next : Held → (t a : List ℕ) → Left Held
  next h t a = feeds setup defaults h (take (piece_of size (length t)) t) a

  -- the calls after one that left x
  abbrev rest : ℕ → Left Held → List ℕ → Left Held
  rest n x t = calls_in setup defaults size n x.number x.held (drop x.consumed t) (drop x.written x.answers)

  abbrev then : Left Held → Left Held → Left Held
  then x y = after x.consumed x.written (take x.written x.answers) y

  goes : (n number : ℕ) (h : Held) (t a : List ℕ) → another number t ≡ true
      → calls_in setup defaults size (suc n) number h t a ≡ then (next h t a) (rest n (next h t a) t)
  unfolding calls_in
  goes n number h t a e = rw e

  stops : (n number : ℕ) (h : Held) (t a : List ℕ) → another number t ≡ false → calls_in setup defaults size n number h t a ≡ unchanged h a number
  unfolding calls_in
  stops zero number h t a e = refl
  stops (suc n) number h t a e = rw e

  -- a call that gives 0 leaves fewer bytes
  fewer : (h : Held) (t a : List ℕ) → 0 < length t → (next h t a).number ≡ 0 → length (drop (next h t a).consumed t) < length t
  fewer h t a some e =
      let p = piece_bounds size (length t) some in
      let k = counts setup defaults h (take (piece_of size (length t)) t) a in
      omega (arith, p.0, p.1, k.all e, length-take-le (piece_of size (length t)) t p.1, length-drop (next h t a).consumed t)

  -- how many calls are allowed for doesn't matter, as long as there are as many as bytes
  same_calls : (n m number : ℕ) (h : Held) (t a : List ℕ) → (number ≡ 0 → length t ≤ n) → (number ≡ 0 → length t ≤ m)
      → calls_in setup defaults size n number h t a ≡ calls_in setup defaults size m number h t a
  same_calls zero m number h t a e f = let s = none number t e in stops zero number h t a s ∙ sym (stops m number h t a s)
  same_calls (suc n) zero number h t a e f = let s = none number t f in stops (suc n) number h t a s ∙ sym (stops zero number h t a s)
  same_calls (suc n) (suc m) number h t a e f =
      split (another number t)
      (λ y.
      let z = eqb-true number 0 (both_left (eqb number 0) (ltb 0 (length t)) y) in
      let some = ltb-true 0 (length t) (both_right (eqb number 0) (ltb 0 (length t)) y) in
      let x = next h t a in
      goes n number h t a y
      ∙ ap (then x) (same_calls n m x.number x.held (drop x.consumed t) (drop x.written x.answers) (λ q. omega (arith, fewer h t a some q, e z)) (λ q. omega (arith, fewer h t a some q, f z)))
      ∙ sym (goes m number h t a y))
      (λ y. stops (suc n) number h t a y ∙ sym (stops (suc m) number h t a y))

  -- ---- The trace in pieces
  step : (number : ℕ) (h : Held) (t a : List ℕ) → number ≡ 0 → 0 < length t → let x = next h t a in
      in_pieces setup defaults size number h t a ≡ then x (in_pieces setup defaults size x.number x.held (drop x.consumed t) (drop x.written x.answers))
  unfolding in_pieces
  step number h t a z some =
      let x = next h t a in
      let y : another number t ≡ true = rw (eq-eqb number 0 z, lt-ltb 0 (length t) some) in
      same_calls (length t) (suc (length t)) number h t a (λ q. omega arith) (λ q. omega arith)
      ∙ goes (length t) number h t a y
      ∙ ap (then x) (same_calls (length t) (length (drop x.consumed t)) x.number x.held (drop x.consumed t) (drop x.written x.answers) (λ q. omega (arith, length-drop x.consumed t)) (λ q. omega arith))

  pub stop : (number : ℕ) (h : Held) (t a : List ℕ) → (number ≡ 0 → length t ≤ 0) → in_pieces setup defaults size number h t a ≡ unchanged h a number
  unfolding in_pieces
  stop number h t a e = stops (length t) number h t a (none number t e)

-- ---- The loop
-- its measure: bytes left, as long as calls are made
pub less : (number number' c c' n : ℕ) → eqb number 0 ≡ true → c < n → (number' ≡ 0 → c < c')
    → cond (eqb number' 0) (suc (n - c')) 0 < cond (eqb number 0) (suc (n - c)) 0
less number number' c c' n z some moves = rw z (go (eqb number' 0) refl)
  where
    go : (t : Bool) → eqb number' 0 ≡ t → cond t (suc (n - c')) 0 < suc (n - c)
    go true e = omega (arith, moves (eqb-true number' 0 e))
    go false e = omega arith

-- so far c bytes are consumed and w written, A is the slice for answers, and the last call gave `number` and left h; the whole comes to T
module _ (setup : Setup) (defaults : List ℕ) (size : ℕ) (trace : List ℕ) (T : Left Held) where
  pub record SoFar (number c w : ℕ) (h : Held) (A : List ℕ) : Type 0 where
    pub within : c ≤ length trace
    pub room : w ≤ length A
    pub whole : T ≡ after c w (take w A) (in_pieces setup defaults size number h (drop c trace) (drop w A))

  -- a call is made
  module _ (number c w : ℕ) (h : Held) (A : List ℕ) (z : SoFar number c w h A) (no : number ≡ 0) (some : c < length trace) where
    abbrev pub called : Left Held
    called = feeds setup defaults h (take (piece_of size (length trace - c)) (drop c trace)) (drop w A)

    call_counts : Counts (take (piece_of size (length trace - c)) (drop c trace)) (drop w A) called
    call_counts = counts setup defaults h (take (piece_of size (length trace - c)) (drop c trace)) (drop w A)

    left_bytes : length (drop c trace) ≡ length trace - c
    left_bytes = length-drop c trace

    piece_length : length (take (piece_of size (length trace - c)) (drop c trace)) ≡ piece_of size (length trace - c)
    piece_length =
        length-take-le (piece_of size (length trace - c)) (drop c trace) (omega (arith, (piece_bounds size (length trace - c) (omega arith)).1, left_bytes))

    -- no count passes its end
    pub consumed_within : c + called.consumed ≤ length trace
    consumed_within = omega (arith, call_counts.consumed, piece_length, (piece_bounds size (length trace - c) (omega arith)).1)

    pub written-within : w + called.written ≤ length A
    written-within = omega (arith, call_counts.written, length-drop w A, z.room)

    -- a call that gives 0 consumes something
    pub consumes : called.number ≡ 0 → 0 < called.consumed
    consumes q = omega (arith, call_counts.all q, piece_length, (piece_bounds size (length trace - c) (omega arith)).0)

    -- the slice for answers after it
    abbrev pub slice : List ℕ
    slice = take w A ++ called.answers

    front : length (take w A) ≡ w
    front = length-take-le w A z.room

    slice_room : length slice ≡ length A
    slice_room = omega (arith, length-append (take w A) called.answers, front, call_counts.slice, length-drop w A, z.room)

    bytes_left : drop called.consumed (drop c trace) ≡ drop (c + called.consumed) trace
    bytes_left = drop-drop called.consumed c trace

    answers-front : take (w + called.written) slice ≡ take w A ++ take called.written called.answers
    answers-front = ap (λ (k : ℕ). take (k + called.written) slice) (sym front) ∙ take-append-add (take w A) called.answers called.written

    answers-left : drop (w + called.written) slice ≡ drop called.written called.answers
    answers-left = ap (λ (k : ℕ). drop (k + called.written) slice) (sym front) ∙ drop-append-add (take w A) called.answers called.written

    joined : (R : Left Held)
        → after c w (take w A) (after called.consumed called.written (take called.written called.answers) R)
        ≡ after (c + called.consumed) (w + called.written) (take (w + called.written) slice) R
    joined R =
        let p : c + (called.consumed + R.consumed) ≡ c + called.consumed + R.consumed = omega arith in
        let q : w + (called.written + R.written) ≡ w + called.written + R.written = omega arith in
        let s : take w A ++ (take called.written called.answers ++ R.answers) ≡ take (w + called.written) slice ++ R.answers =
        sym (append_assoc (take w A) (take called.written called.answers) R.answers) ∙ ap (λ (l : List ℕ). l ++ R.answers) (sym answers-front) in
        λ i. record { number = R.number; consumed = p i; written = q i; held = R.held; answers = s i }

    stepped : in_pieces setup defaults size number h (drop c trace) (drop w A)
        ≡ after called.consumed called.written (take called.written called.answers) (in_pieces setup defaults size called.number called.held (drop called.consumed (drop c trace)) (drop called.written called.answers))
    stepped = rw left_bytes at (step setup defaults size number h (drop c trace) (drop w A) no (omega (arith, left_bytes)))

    pub goes_on : SoFar called.number (c + called.consumed) (w + called.written) called.held slice
    goes_on =
        record {
          within = consumed_within;
          room = omega (arith, written-within, slice_room);
          whole =
              z.whole
              ∙ ap (after c w (take w A)) stepped
              ∙ joined (in_pieces setup defaults size called.number called.held (drop called.consumed (drop c trace)) (drop called.written called.answers))
              ∙ ap (after (c + called.consumed) (w + called.written) (take (w + called.written) slice))
              ((λ i. in_pieces setup defaults size called.number called.held (bytes_left i) (sym answers-left i)));
        }

  -- a call that was made, known by its contract: the piece from c on, and the slice for answers from w on
  module _ (number c w : ℕ) (h : Held) (A : List ℕ) where
    pub record Turned (k : ℕ) (x : Left Held) : Type 0 where
      pub consumed : c + x.consumed ≤ length trace
      pub written : w + x.written ≤ length A
      pub consumes : x.number ≡ 0 → 0 < x.consumed
      pub next : SoFar x.number (c + x.consumed) (w + x.written) x.held (take w A ++ (x.answers ++ drop k (drop w A)))

    pub turn : SoFar number c w h A → eqb number 0 ≡ true → c < length trace → (p k : ℕ) → p ≡ piece_of size (length trace - c) → k ≡ length A - w
        → (x : Left Held) → x ≡ feeds setup defaults h (take (c + p - c) (drop c trace)) (take k (drop w A)) → Turned k x
    turn z given some p k ep ek x e =
        let zero_is = eqb-true number 0 given in
        let q : c + p - c ≡ piece_of size (length trace - c) = omega arith in
        let l : k ≡ length (drop w A) = omega (arith, length-drop w A) in
        let a : take k (drop w A) ≡ drop w A = ap (λ (n : ℕ). take n (drop w A)) l ∙ take-length (drop w A) in
        let y : x ≡ called number c w h A z zero_is some =
        e ∙ λ i. feeds setup defaults h (take (q i) (drop c trace)) (a i) in
        let d : drop k (drop w A) ≡ [] = ap (λ (n : ℕ). drop n (drop w A)) l ∙ drop-length (drop w A) in
        rw y
        (record {
          consumed = consumed_within number c w h A z zero_is some;
          written = written-within number c w h A z zero_is some;
          consumes = consumes number c w h A z zero_is some;
          next = rw (d, append-nil) (goes_on number c w h A z zero_is some);
        })

  -- no call was made yet
  pub starts : (number : ℕ) (h : Held) (A : List ℕ) → T ≡ in_pieces setup defaults size number h trace A → SoFar number 0 0 h A
  starts number h A e =
      let x = in_pieces setup defaults size number h trace A in
      let p = zero-add x.consumed in
      let q = zero-add x.written in
      record {
        within = omega arith;
        room = omega arith;
        whole = e ∙ λ i. record { number = x.number; consumed = sym p i; written = sym q i; held = x.held; answers = x.answers };
      }

  -- no call is made any more
  pub ends : (number c w : ℕ) (h : Held) (A : List ℕ) → SoFar number c w h A → (number ≡ 0 → length trace ≤ c)
      → record { number = number; consumed = c; written = w; held = h; answers = A } ≡ T
  ends number c w h A z e =
      let s = stop setup defaults size number h (drop c trace) (drop w A) (λ q. omega (arith, e q, length-drop c trace)) in
      let p = add-zero c in
      let q = add-zero w in
      let a = take-append-drop w A in
      sym
      (z.whole
      ∙ ap (after c w (take w A)) s
      ∙ λ i. record { number = number; consumed = p i; written = q i; held = h; answers = a i })

-- a set-up that was made, known by its contract, and the trace after it
pub set_up_ran : (setup : Setup) (defaults : List ℕ) (size : ℕ) (h : Held) (x : Prepared) (trace answers : List ℕ) → x ≡ sets_up setup defaults h
    → in_pieces setup defaults size x.number x.held trace answers ≡ runs_on setup defaults size h trace answers
unfolding runs_on
set_up_ran setup defaults size h x trace answers e = ap (λ (y : Prepared). in_pieces setup defaults size y.number y.held trace answers) e
