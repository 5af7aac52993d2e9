-- Code that goes record by record: what holds at the head of its loop, that a record's turn keeps it, and what its end gives. Of the device
-- these laws know `run` and that it keeps a good state: a new kind of record does not touch them.
use Prim.Native.Nat.{ℕ, suc, ◌+◌, ◌-◌, ◌≤◌, ◌<◌}
use mathlib.Core.Path.{◌≡◌, refl, ap, sym, ◌∙◌}
use mathlib.Core.Bool.{true}
use mathlib.Core.List.{List, [], ◌∷◌, ◌++◌, append-nil}
use native.Mathlib.Omega.{arith}
use native.Mathlib.Nat.{sub-zero}
use lib.ListN.{length, get_or, take, drop, length-drop, take-append-drop}
use lib.Seq.{drop-drop, length-take-le, take-length, take-take, paste, take-paste, drop-paste, length-paste}
use lib.Dec.{ltb, eqb}
use borrow.Author.Tests.{le-leb, ltb-true, ltb-false}
use Rattle.trace.specs.Format.{size_of, known, body, longest, Next, complete, incomplete, unknown, next, begun, Bytes}
use Rattle.trace.specs.Bench.{Device, Ran, Bench}
use Rattle.trace.specs.Feed.{Fed, kind_at, feed_open, later, stopped}
use Rattle.trace.specs.inner.Gathered.{whole_size, end_number, end_count}
use Rattle.trace.specs.Lent.{Lent, refusal_or31, leaves, feeds}
use Rattle.trace.specs.inner.Keeps.{RunKeeps}
use Rattle.trace.proofs.Tests.{if_cases}
use Rattle.bits.proofs.Bytes.{bytes_append, bytes_take, bytes_drop}
use Rattle.trace.proofs.Records.{carrying, later-zero, later-later, joined, length_whole, Complete, complete_at, incomplete_at, feed_complete, feed_full, feed_incomplete, feed_unknown}
use Rattle.trace.proofs.Gathering.{body-within, short_partial, begun_partial}
use Rattle.trace.proofs.Refusing.{goes_on, feeds_open}

-- a whole record is the whole of itself
pub next_itself : (bs r : List ℕ) → Complete bs r → next r ≡ complete r
unfolding next
next_itself [] r h = absurd (omega (arith, h.fits))
next_itself (k ∷ rest) r h =
    let l = length-take-le (body k) rest (omega (arith, h.fits)) in
    rw (h.is, h.kind, le-leb (body k) (length (take (body k) rest)) (omega arith), take-take (body k) (body k) rest (omega arith))

-- ---- what stands next: a whole record of so many bytes, or the call's end
pub record Got (bs : List ℕ) (size : ℕ) : Type 0 where
  pub whole : List ℕ
  pub is : Complete bs whole
  pub count : size ≡ length whole

-- its bytes are the first so many
pub got_bytes : (bs : List ℕ) (size : ℕ) (t : Got bs size) → t.whole ≡ take size bs
got_bytes bs size t = t.is.is ∙ ap (λ (n : ℕ). take n bs) (sym (t.count ∙ (length_whole bs t.whole t.is).0))

-- as many as its kind has
pub got_size : (bs : List ℕ) (size : ℕ) → Got bs size → size_of (get_or bs 0 0) ≡ size
unfolding known body
got_size [] size t = absurd (omega (arith, t.is.fits))
got_size (k ∷ rest) size t =
    omega (arith, ltb-true 0 (size_of k) t.is.kind, t.count, (length_whole (k ∷ rest) t.whole t.is).0)

-- at least one byte, at most 17, and all of them are there
pub record Counted (bs : List ℕ) (n : ℕ) : Type 0 where
  pub some : 0 < n
  pub few : n ≤ longest
  pub there : n ≤ length bs

pub got_count : (bs : List ℕ) (size : ℕ) → Got bs size → Counted bs size
got_count bs size t =
    let l = length_whole bs t.whole t.is in
    record {
      some = omega (arith, t.count, l.0);
      few = omega (arith, t.count, l.0, body-within (kind_at bs 0));
      there = omega (arith, t.count, l.1);
    }

-- at its end a call carries at most 16 bytes, all of which are there
few_by : (bs : List ℕ) (n : Next) → next bs ≡ n → (end_count bs n ≤ longest - 1) × (end_count bs n ≤ length bs)
few_by bs incomplete q = (short_partial bs (incomplete_at bs q), omega arith)
few_by bs unknown q = (omega arith, omega arith)
few_by bs (complete r) q =
    let l = length_whole bs r (complete_at bs r q) in
    (omega (arith, body-within (kind_at bs 0), l.0), omega (arith, l.1))

pub end_few : (bs : List ℕ) → (end_count bs (next bs) ≤ longest - 1) × (end_count bs (next bs) ≤ length bs)
end_few bs = few_by bs (next bs) refl

-- the call gives n, and the first m of the bytes are carried
pub record Ends {S : Type 0} (D : Device S) (s : S) (room : ℕ) (bs : List ℕ) (n m : ℕ) : Type 0 where
  pub short : m ≤ longest - 1
  pub there : m ≤ length bs
  pub gives : feed_open D (carrying s []) room bs ≡ later m [] (stopped n (record { state = s; carried = take m bs; broken = eqb n 31 }))

module _ {S : Type 0} (D : Device S) (s : S) (room : ℕ) (bs : List ℕ) where
  abbrev pub Found : Next → Type 0
  Found n = (0 < whole_size room n → Got bs (whole_size room n) × (8 ≤ room)) × (whole_size room n ≡ 0 → Ends D s room bs (end_number n) (end_count bs n))

  by_next : (n : Next) → next bs ≡ n → Found n
  by_next incomplete q =
      let p = incomplete_at bs q in
      let few = few_by bs incomplete q in
      (λ h. absurd (omega arith), λ _. record { short = few.0; there = few.1; gives = rw (take-length bs) (feed_incomplete D s bs room p) })
  by_next unknown q = (λ h. absurd (omega arith), λ _. record { short = omega arith; there = omega arith; gives = feed_unknown D s bs room q })
  by_next (complete r) q =
      let h = complete_at bs r q in
      let l = length_whole bs r h in
      let c : take (length r - 1) r ≡ take (length r - 1) bs =
      ap (take (length r - 1)) h.is ∙ take-take (length r - 1) (suc (body (kind_at bs 0))) bs (omega (arith, l.0)) in
      if_cases (λ (n : ℕ). (0 < n → Got bs n × (8 ≤ room)) × (n ≡ 0 → Ends D s room bs 30 (length r - 1))) (ltb room 8) 0 (length r)
      (λ t. (
        λ e. absurd (omega arith),
        λ _. record {
          short = (few_by bs (complete r) q).0;
          there = (few_by bs (complete r) q).1;
          gives = rw (← c) (feed_full D s bs r room h (ltb-true room 8 t));
        },
      ))
      (λ t. (λ _. (record { whole = r; is = h; count = refl }, ltb-false room 8 t), λ e. absurd (omega (arith, l.0))))

  -- by what stands next
  pub by_gather : Found (next bs)
  by_gather = by_next (next bs) refl

-- ---- at the head, with `at` bytes of the call's trace consumed and w bytes written to `answers`, which held `room` at first. The call began in the state s₀, with c₀ carried; its trace is c₀, and then the input
module _ {S H : Type 0} (L : Lent S H) (Good : S → Type 0) (keeps : RunKeeps L.device Good) (s₀ : S) (c₀ input room : List ℕ) where
  abbrev D : Device S
  D = L.device

  abbrev pub trace : List ℕ
  trace = c₀ ++ input

  abbrev pub call : Fed S
  call = feed_open D (carrying s₀ c₀) (length room) input

  pub record Inv (answers : List ℕ) (s : S) (at w : ℕ) : Type 0 where
    pub good : Good s
    pub bytes : Bytes trace
    pub at_in : at ≤ length trace
    pub w_in : w ≤ length room
    pub long : length answers ≡ length room
    pub so_far : later (length c₀) [] call ≡ later at (take w answers) (feed_open D (carrying s []) (length room - w) (drop at trace))
    pub beyond : drop w answers ≡ drop w room

  -- at the start
  pub begins : Good s₀ → begun c₀ ≡ true → Bytes c₀ → Bytes input → Inv room s₀ 0 0
  begins g b c i =
      record {
        good = g;
        bytes = bytes_append c₀ input c i;
        at_in = omega arith;
        w_in = omega arith;
        long = refl;
        so_far = joined D s₀ c₀ input (length room) (begun_partial c₀ b) ∙ rw sub-zero (sym (later-zero (feed_open D (carrying s₀ []) (length room) trace)));
        beyond = refl;
      }

  module _ (answers : List ℕ) (s : S) (at w : ℕ) (v : Inv answers s at w) where
    -- a record's turn: x is what it does, and its answer is written
    pub turns : (size : ℕ) (t : Got (drop at trace) size) (x : Ran S) → x ≡ D.run s t.whole → 8 ≤ length room - w
        → Inv (paste answers w x.answer 8) x.state (at + size) (w + 8)
    turns size t x e j =
        let r = t.whole in
        let a = x.answer in
        let a8 : length a ≡ 8 = ap (λ (y : Ran S). length y.answer) e ∙ D.eight s r in
        let rb : Bytes r = rw t.is.is (bytes_take (suc (body (kind_at (drop at trace) 0))) (drop at trace) (bytes_drop at trace v.bytes)) in
        let n : length room - w - 8 ≡ length room - (w + 8) = omega arith in
        let ta : take 8 a ≡ a = rw (← a8) (take-length a) in
        let z = feed_open D (carrying x.state []) (length room - (w + 8)) (drop (at + size) trace) in
        let one : feed_open D (carrying s []) (length room - w) (drop at trace) ≡ later (size) a z =
        feed_complete D s (drop at trace) r (length room - w) t.is j ∙ rw (← e, n, drop-drop (length r) at trace, ← t.count) in
        record {
          good = rw e (keeps s r (next_itself (drop at trace) r t.is) rb v.good);
          bytes = v.bytes;
          at_in = omega (arith, t.count, length_whole (drop at trace) r t.is, length-drop at trace, v.at_in);
          w_in = omega (arith, v.w_in);
          long = length-paste answers w a 8 (omega (arith, v.long, v.w_in)) (omega arith) ∙ v.long;
          so_far =
              v.so_far
              ∙ ap (later at (take w answers)) one
              ∙ later-later at (size) (take w answers) a z
              ∙ ap (λ (l : List ℕ). later (at + size) l z) (sym (take-paste answers w a 8 (omega (arith, v.long, v.w_in)) (omega arith) ∙ ap (λ (y : List ℕ). take w answers ++ y) ta));
          beyond =
              drop-paste answers w a 8 (omega (arith, v.long, v.w_in)) (omega arith)
              ∙ sym (drop-drop 8 w answers)
              ∙ ap (drop 8) v.beyond
              ∙ drop-drop 8 w room;
        }

    -- the call's end
    module _ (n m : ℕ) (z : Ends D s (length room - w) (drop at trace) n m) where
      abbrev pub last : Bench S
      last = record { state = s; carried = take m (drop at trace); broken = eqb n 31 }

      same_call : later (length c₀) [] call ≡ later at (take w answers) (later m [] (stopped n last))
      same_call = v.so_far ∙ ap (later at (take w answers)) z.gives

      -- the carried bytes are all consumed
      pub reach : length c₀ + call.consumed ≡ at + m
      reach = omega (arith, ap (λ (f : Fed S). f.consumed) same_call)

      leaves_so : (len : ℕ) → length c₀ ≡ len
          → record { number = n; consumed = at + m - len; written = w; held = L.keep last; answers = answers } ≡ leaves L call room
      leaves_so len l =
          let a : call.answers ≡ take w answers = ap (λ (f : Fed S). f.answers) same_call ∙ append-nil (take w answers) in
          let tw : length (take w answers) ≡ w = length-take-le w answers (omega (arith, v.long, v.w_in)) in
          let q : length call.answers ≡ w = ap length a ∙ tw in
          let c : at + m - len ≡ call.consumed = omega (arith, reach) in
          let p : call.bench ≡ last = ap (λ (f : Fed S). f.bench) same_call in
          let y : answers ≡ call.answers ++ drop (length call.answers) room = rw (a, tw, ← v.beyond) (sym (take-append-drop w answers)) in
          λ i. record {
            number = sym (ap (λ (f : Fed S). f.number) same_call) i;
            consumed = c i;
            written = sym q i;
            held = ap L.keep (sym p) i;
            answers = y i;
          }

      -- what the code then gives is the call, on the lent memory h that stands for that start
      pub finish : (len : ℕ) → length c₀ ≡ len → (h : H) → (L.view h).state ≡ s₀ → (L.view h).carried ≡ c₀ → refusal_or31 L h ≡ 0
          → record { number = n; consumed = at + m - len; written = w; held = L.keep last; answers = answers } ≡ feeds L h input room
      finish len l h es ec e =
          let b = (goes_on L h e).1 in
          let p : L.view h ≡ carrying s₀ c₀ = λ i. record { state = es i; carried = ec i; broken = b i } in
          leaves_so len l ∙ sym (feeds_open L h input room e ∙ ap (λ (q : Bench S). leaves L (feed_open D q (length room) input) room) p)
