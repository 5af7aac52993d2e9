-- Each state of a replay that matches is left by some calls from a fresh start, on any device: `reached`.
use Prim.Native.Nat.{ℕ, zero, suc, ◌/◌, ◌%◌, ◌≤◌, ◌<◌}
use mathlib.Core.Path.{◌≡◌, refl, ap, sym, subst, ◌∙◌}
use mathlib.Core.Bool.{true, false, false≢true}
use mathlib.Core.Logic.{◌⊎◌, ⊎_elim}
use mathlib.Core.List.{List, [], ◌∷◌, ◌++◌}
use native.Mathlib.Omega.{arith}
use native.Mathlib.Nat.{mod-lt}
use native.Mathlib.Numerals.{add-one}
use lib.ListN.{length, drop, replicate, length-replicate}
use lib.Seq.{take-length}
use lib.Dec.{eqb}
use borrow.Author.Tests.{ne_eqb}
use Rattle.std.specs.Prelude.{None, Some, is_some}
use Rattle.bits.proofs.Bytes.{bytes_append}
use Rattle.bits.proofs.Numbers.{four_bytes}
use Rattle.times.specs.declared.Nanos.{Nanos}
use Rattle.ticks.specs.declared.Stamp.{Stamp}
use Rattle.ticks.specs.Ticks.{wraps}
use Rattle.trace.specs.Format.{Bytes, known, body, size_of}
use Rattle.trace.specs.Bench.{Device}
use Rattle.trace.specs.Feed.{byte, feed_open}
use Rattle.trace.specs.Lent.{unless}
use Rattle.trace.specs.Calls.{Call, BytesIn}
use Rattle.trace.proofs.Tests.{if_false}
use Rattle.trace.proofs.Cutting.{Partial}
use Rattle.trace.proofs.Gathering.{begun_partial, short_partial}
use Rattle.trace.proofs.Records.{carrying, feed_incomplete}
use Rattle.trace.proofs.Loop.{Ends}
use Rattle.capture.specs.Advances.{Earlier, stamp_in, back, between, due, advance}
use Rattle.capture.specs.Replay.{Progress, Replayed, fresh, more_answered, still, later, advancing, kind_byte, replay_open, replay}
use Rattle.capture.specs.Exactly.{Stand, stand_after, LeadsTo, Reached}
use Rattle.capture.specs.inner.Keeps.{Stamped}
use Rattle.capture.proofs.Steps.{InOrder, AtRecord, stamps, goes_back, kind_01, one_advance, no_advance_room, no_record}
use Rattle.capture.proofs.Matching.{some_due, most_due, matches_exactly}

abbrev at : Earlier → List ℕ → ℕ → ℕ → Progress
at e stamp answered ended = record { earlier = e; stamp = stamp; answered = answered; ended = ended }

-- the 4 bytes of a stamp
abbrev bytes_of : Stamp → List ℕ
bytes_of e = e.0 % 256 ∷ e.0 / 256 % 256 ∷ e.0 / 65536 % 256 ∷ e.0 / 16777216 % 256 ∷ []

stamp_of_bytes : (e : Stamp) → e.0 < wraps → stamp_in (bytes_of e) ≡ e
unfolding stamp_in
stamp_of_bytes e h = λ i. record { 0 = four_bytes e.0 h i }

bytes_of_stamp : (e : Stamp) → Bytes (bytes_of e)
bytes_of_stamp e = (mod-lt e.0 (omega arith), (mod-lt (e.0 / 256) (omega arith), (mod-lt (e.0 / 65536) (omega arith), (mod-lt (e.0 / 16777216) (omega arith), tt))))

bytes_in_append : (cs ds : List Call) → BytesIn cs → BytesIn ds → BytesIn (cs ++ ds)
bytes_in_append [] ds h j = j
bytes_in_append (c ∷ cs) ds h j = (h.0, bytes_in_append cs ds h.1 j)

-- the next of the advances that are due
next-due : {P : Type 0} (ts : List Nanos) (n : ℕ) → n < length ts → ((t : Nanos) (more : List Nanos) → drop n ts ≡ t ∷ more → P) → P
next-due [] n h f = absurd (omega arith)
next-due (t ∷ ts) zero h f = f t ts refl
next-due (t ∷ ts) (suc n) h f = next-due ts n (omega arith) f

module _ {S : Type 0} (D : Device S) where
  -- ---- calls
  abbrev before : S → List ℕ → Progress → Stand D
  before s c r = record { bench = carrying s c; progress = r }

  after_append : (x : Stand D) (cs ds : List Call) → stand_after D x (cs ++ ds) ≡ stand_after D (stand_after D x cs) ds
  after_append x [] ds = refl
  after_append x (c ∷ cs) ds =
      let f = replay D x.bench x.progress (length c.answers) c.input in after_append (record { bench = f.bench; progress = f.progress }) cs ds

  -- no call
  stays_at : (s : S) (c : List ℕ) (r : Progress) → LeadsTo D (before s c r) c r
  stays_at s c r = record { calls = []; bytes = tt; is_carried = refl; is_unbroken = refl; is_progress = refl }

  -- calls one after the other
  and_then : {x : Stand D} {c c' : List ℕ} {r r' : Progress} → LeadsTo D x c r → ((s : S) → LeadsTo D (before s c r) c' r') → LeadsTo D x c' r'
  and_then {x} {c} {c'} {r} {r'} a f =
      let y = stand_after D x a.calls in
      let b = f y.bench.state in
      let p : y ≡ before y.bench.state c r = λ i. record { bench = record { state = y.bench.state; carried = a.is_carried i; broken = a.is_unbroken i }; progress = a.is_progress i } in
      let e : stand_after D x (a.calls ++ b.calls) ≡ stand_after D (before y.bench.state c r) b.calls =
      after_append x a.calls b.calls ∙ ap (λ (z : Stand D). stand_after D z b.calls) p in
      record {
        calls = a.calls ++ b.calls;
        bytes = bytes_in_append a.calls b.calls a.bytes b.bytes;
        is_carried = ap (λ (z : Stand D). z.bench.carried) e ∙ b.is_carried;
        is_unbroken = ap (λ (z : Stand D). z.bench.broken) e ∙ b.is_unbroken;
        is_progress = ap (λ (z : Stand D). z.progress) e ∙ b.is_progress;
      }

  -- one call
  open_call : (s : S) (c : List ℕ) (r : Progress) (room : ℕ) (input : List ℕ) → r.ended ≡ 0 → replay D (carrying s c) r room input ≡ replay_open D (carrying s c) r room input
  unfolding replay
  open_call s c r room input z = ap (λ (m : ℕ). unless m (λ n. still n (carrying s c) r []) (replay_open D (carrying s c) r room input)) z

  by_call : (s : S) (c : List ℕ) (r : Progress) (room : ℕ) (input : List ℕ) (c' : List ℕ) (r' : Progress) (f : Replayed S) → Bytes input → r.ended ≡ 0
      → replay_open D (carrying s c) r room input ≡ f → f.bench.carried ≡ c' → f.bench.broken ≡ false → f.progress ≡ r' → LeadsTo D (before s c r) c' r'
  by_call s c r room input c' r' f b z q ec eb er =
      let e : replay D (carrying s c) r (length (replicate {A = ℕ} room 0)) input ≡ f =
      ap (λ (n : ℕ). replay D (carrying s c) r n input) (length-replicate {A = ℕ} room 0) ∙ open_call s c r room input z ∙ q in
      record {
        calls = record { input = input; answers = replicate room 0 } ∷ [];
        bytes = (b, tt);
        is_carried = ap (λ (g : Replayed S). g.bench.carried) e ∙ ec;
        is_unbroken = ap (λ (g : Replayed S). g.bench.broken) e ∙ eb;
        is_progress = ap (λ (g : Replayed S). g.progress) e ∙ er;
      }

  -- ---- a stamp's bytes
  takes_stamp : (s : S) (e : Earlier) (xs : List ℕ) → Bytes xs → length xs ≤ 4 → LeadsTo D (before s [] (at e [] 0 0)) [] (at e xs 0 0)
  unfolding replay_open
  takes_stamp s e xs b l =
      by_call s [] (at e [] 0 0) 0 (xs ++ []) [] (at e xs 0 0) _ (bytes_append xs [] b tt) refl (stamps D s (at e [] 0 0) 0 xs [] (omega arith)) refl refl refl

  -- ---- a record
  -- the first: link up, with the stamp e
  first_record : (s : S) (e : Stamp) → e.0 < wraps → LeadsTo D (before s [] fresh) [] (at (Some e) [] 0 0)
  unfolding replay_open kind_byte advancing byte known body size_of due back between
  first_record s e h =
      by_call s [] fresh 8 (bytes_of e ++ 5 ∷ []) [] (at (Some e) [] 0 0) _ (bytes_append (bytes_of e) (5 ∷ []) (bytes_of_stamp e) (omega arith, tt)) refl refl refl refl
      (ap (λ (x : Stamp). at (Some x) [] 0 0) (stamp_of_bytes e h))

  -- part of the first, with the stamp e
  part_record : (s : S) (e : Stamp) (k : ℕ) (rest : List ℕ) → e.0 < wraps → Bytes (k ∷ rest) → Partial (k ∷ rest) → eqb k 1 ≡ false
      → LeadsTo D (before s [] (at None (bytes_of e) 0 0)) (k ∷ rest) (at (Some e) [] 0 0)
  unfolding due back between
  part_record s e k rest h b w f =
      let r = at None (bytes_of e) 0 0 in
      let c = k ∷ rest in
      let ready : AtRecord r c = record { kind = k; more = rest; bytes = refl; in_order = record { stamped = refl; forward = refl; kind = f }; answered = refl } in
      let z : Ends D s 0 c 0 (length c) =
      record { short = short_partial c w; there = omega arith; gives = rw (take-length c) (feed_incomplete D s c 0 w) } in
      by_call s [] r 0 c c (at (Some e) [] 0 0) _ b refl (no_record D s r 0 c 0 (length c) ready z) (take-length c) refl
      (if_false (eqb (length c) 0) r _ (ne_eqb (length c) 0 (λ q. omega arith)) ∙ ap (λ (x : Stamp). at (Some x) [] 0 0) (stamp_of_bytes e h))

  -- ---- at a kind byte
  -- link up has no room
  link_up_full : (s : S) → Ends D s 0 (5 ∷ []) 30 0
  unfolding feed_open byte known body size_of
  link_up_full s = record { short = omega arith; there = omega arith; gives = refl }

  waits : (s : S) (r : Progress) → InOrder r 5 → replay_open D (carrying s []) r 0 (5 ∷ []) ≡ still 30 (carrying s []) r []
  waits s r o = go (drop r.answered (due r.earlier r.stamp)) refl
    where
      go : (ts : List Nanos) → drop r.answered (due r.earlier r.stamp) ≡ ts → replay_open D (carrying s []) r 0 (5 ∷ []) ≡ still 30 (carrying s []) r []
      go [] q = no_record D s r 0 (5 ∷ []) 30 0 (record { kind = 5; more = []; bytes = refl; in_order = o; answered = q }) (link_up_full s)
      go (t ∷ more) q = no_advance_room D s r 0 5 [] o t more q (omega arith)

  module _ (e : Earlier) (stamp : List ℕ) (l : length stamp ≡ 4) where
    -- one more advance is answered
    one_more : (s : S) (n : ℕ) → back e (stamp_in stamp) ≡ false → n < length (due e stamp) → LeadsTo D (before s [] (at e stamp n 0)) [] (at e stamp (suc n) 0)
    one_more s n f h =
        let r = at e stamp n 0 in
        let o : InOrder r 5 = record { stamped = l; forward = f; kind = refl } in
        let o' : InOrder (more_answered 1 r) 5 = record { stamped = l; forward = f; kind = refl } in
        next-due (due e stamp) n h
        (λ t more q.
        let x = D.run s (advance t) in
        by_call s [] r 8 (5 ∷ []) [] (at e stamp (suc n) 0) _ (omega arith, tt) refl
        (one_advance D s r 8 5 [] o t more q (omega arith) ∙ ap (later 0 x.answer) (waits x.state (more_answered 1 r) o')) refl refl
        (ap (λ (m : ℕ). at e stamp m 0) (add-one n)))

    ends_32 : (s : S) (n : ℕ) → back e (stamp_in stamp) ≡ true → LeadsTo D (before s [] (at e stamp n 0)) [] (at e stamp n 32)
    ends_32 s n f = by_call s [] (at e stamp n 0) 0 (5 ∷ []) [] (at e stamp n 32) _ (omega arith, tt) refl (goes_back D s (at e stamp n 0) 0 5 [] l f) refl refl refl

    ends_33 : (s : S) (n : ℕ) → back e (stamp_in stamp) ≡ false → LeadsTo D (before s [] (at e stamp n 0)) [] (at e stamp n 33)
    ends_33 s n f = by_call s [] (at e stamp n 0) 0 (1 ∷ []) [] (at e stamp n 33) _ (omega arith, tt) refl (kind_01 D s (at e stamp n 0) 0 1 [] l f refl) refl refl refl

  -- ---- from a fresh start
  module _ (s : S) where
    begins_at : (e : Earlier) → Stamped e → LeadsTo D (before s [] fresh) [] (at e [] 0 0)
    begins_at None h = stays_at s [] fresh
    begins_at (Some e) h = first_record s e h

    module _ (e : Earlier) (stamp : List ℕ) (h : Stamped e) (b : Bytes stamp) (l : length stamp ≤ 4) where
      answered_so : (n : ℕ) → n ≤ length (due e stamp) → LeadsTo D (before s [] fresh) [] (at e stamp n 0)
      answered_so zero j = and_then (begins_at e h) (λ s'. takes_stamp s' e stamp b l)
      answered_so (suc n) j =
          let d = some_due e stamp (suc n) (omega arith) j in and_then (answered_so n (omega arith)) (λ s'. one_more e stamp d.0 s' n d.1 j)

      ended_so : (n m : ℕ) → n ≤ length (due e stamp) → (m ≡ 0) ⊎ ((m ≡ 32) ⊎ (m ≡ 33))
          → (m ≡ 32 → (length stamp ≡ 4) × (back e (stamp_in stamp) ≡ true)) → (m ≡ 33 → (length stamp ≡ 4) × (back e (stamp_in stamp) ≡ false))
          → LeadsTo D (before s [] fresh) [] (at e stamp n m)
      ended_so n m j is by32 by33 =
          let to : (i : ℕ) → m ≡ i → LeadsTo D (before s [] fresh) [] (at e stamp n i) → LeadsTo D (before s [] fresh) [] (at e stamp n m) =
          λ i q. subst (λ (x : ℕ). LeadsTo D (before s [] fresh) [] (at e stamp n x)) (sym q) in
          ⊎_elim
          (λ q. to 0 q (answered_so n j))
          (λ w. ⊎_elim
          (λ q. to 32 q (and_then (answered_so n j) (λ s'. ends_32 e stamp (by32 q).0 s' n (by32 q).1)))
          (λ q. to 33 q (and_then (answered_so n j) (λ s'. ends_33 e stamp (by33 q).0 s' n (by33 q).1)))
          w)
          is

    -- in a record
    carried_so : (e : Earlier) → is_some e ≡ true → Stamped e → (k : ℕ) (rest : List ℕ) → Bytes (k ∷ rest) → Partial (k ∷ rest) → (k ≡ 1 → ⊥)
        → LeadsTo D (before s [] fresh) (k ∷ rest) (at e [] 0 0)
    carried_so None q h k rest b w f = absurd (false≢true q)
    carried_so (Some e) q h k rest b w f =
        and_then (takes_stamp s None (bytes_of e) (bytes_of_stamp e) (omega arith)) (λ s'. part_record s' e k rest h b w (ne_eqb k 1 f))

  pub reached : Reached D
  reached s [] r m b c f =
      let x = matches_exactly.holds [] r m in
      let n = most_due r.earlier r.stamp r.answered x.answered_stamp x.answered_forward x.answered_most in
      ended_so s r.earlier r.stamp f.earlier f.bytes f.stamp r.answered r.ended n x.ended x.ended32 x.ended33
  reached s (k ∷ rest) r m b c f =
      let x = matches_exactly.holds (k ∷ rest) r m in
      let j : 0 < length (k ∷ rest) = omega arith in
      let same : at r.earlier [] 0 0 ≡ r =
      λ i. at r.earlier (sym (x.carried_stamp j) i) (sym (x.carried_answered j) i) (sym (x.carried_ended j) i) in
      subst (LeadsTo D (before s [] fresh) (k ∷ rest)) same
      (carried_so s r.earlier (x.carried_begun j) f.earlier k rest c (begun_partial (k ∷ rest) b) (x.carried_kind j))
