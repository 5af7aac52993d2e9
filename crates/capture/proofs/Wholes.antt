-- A stretch of a capture, written out as the trace that it stands for: feed on whole records, and replay on a whole entry, are those records' runs.
use Prim.Native.Nat.{ℕ, suc, ◌+◌, ◌-◌, ◌*◌, ◌≤◌}
use mathlib.Core.Path.{◌≡◌, refl, ap, sym, ◌∙◌}
use mathlib.Core.Bool.{false}
use mathlib.Core.List.{List, [], ◌∷◌, ◌++◌, append_assoc, map}
use native.Mathlib.Omega.{arith}
use native.Mathlib.Nat.{sub-zero, zero-add}
use lib.ListN.{length, drop, length-append}
use lib.Seq.{drop_at, drop-drop, drop-length}
use lib.Dec.{eqb}
use Rattle.std.specs.Prelude.{Some}
use Rattle.times.specs.declared.Nanos.{Nanos}
use Rattle.ticks.specs.declared.Stamp.{Stamp}
use Rattle.bits.proofs.Bytes.{bytes_append}
use Rattle.trace.specs.Format.{Bytes, next, complete}
use Rattle.trace.specs.Bench.{Device, Ran, runs}
use Rattle.trace.specs.Feed.{kind_at, feed_open}
use Rattle.trace.specs.Feed as Feed
use Rattle.trace.specs.Exactly.{joined_up, AllWhole}
use Rattle.trace.proofs.Records.{carrying, complete_at, feed_complete}
use Rattle.trace.proofs.Fronts.{whole-front}
use Rattle.trace.proofs.Records as Records
use Rattle.capture.specs.Advances.{stamp_in, back, due, advance, advance_bytes}
use Rattle.capture.specs.Replay.{Progress, after_entry, more_answered, later, replay_open}
use Rattle.capture.proofs.Advancing.{bytes_advance, advance-whole}
use Rattle.capture.proofs.Steps.{InOrder, AtRecord, more_stamps, none_more, one_then, later-zero, later-later, stamps, one_advance, whole_record}

-- ---- whole records one after the other
pub joined_append : (xs ys : List (List ℕ)) → joined_up (xs ++ ys) ≡ joined_up xs ++ joined_up ys
joined_append [] ys = refl
joined_append (r ∷ xs) ys = ap (λ (l : List ℕ). r ++ l) (joined_append xs ys) ∙ sym (append_assoc r (joined_up xs) (joined_up ys))

pub wholes_append : (xs ys : List (List ℕ)) → AllWhole xs → AllWhole ys → AllWhole (xs ++ ys)
wholes_append [] ys a b = b
wholes_append (r ∷ xs) ys a b = (a.0, wholes_append xs ys a.1 b)

-- advances
pub joined_advances : (ts : List Nanos) → joined_up (map advance ts) ≡ advance_bytes ts
joined_advances [] = refl
joined_advances (t ∷ ts) = ap (λ (l : List ℕ). advance t ++ l) (joined_advances ts)

pub wholes_advances : (ts : List Nanos) → AllWhole (map advance ts)
wholes_advances [] = tt
wholes_advances (t ∷ ts) = (advance-whole t, wholes_advances ts)

pub bytes_advances : (ts : List Nanos) → Bytes (advance_bytes ts)
bytes_advances [] = tt
bytes_advances (t ∷ ts) = bytes_append (advance t) (advance_bytes ts) (bytes_advance t) (bytes_advances ts)

pub length-advances : (ts : List Nanos) → length (advance_bytes ts) ≡ 5 * length ts
unfolding advance
length-advances [] = refl
length-advances (t ∷ ts) = omega (arith, length-append (advance t) (advance_bytes ts), length-advances ts)

module _ {S : Type 0} (D : Device S) where
  -- records one after the other
  pub runs_append : (s : S) (xs ys : List (List ℕ)) → let x = runs D s xs in
      let y = runs D x.state ys in
      ◌≡◌ {A = Ran S} (runs D s (xs ++ ys)) (record { state = y.state; answer = x.answer ++ y.answer })
  unfolding runs
  runs_append s [] ys = refl
  runs_append s (r ∷ xs) ys =
      let a = D.run s r in
      let x = runs D a.state xs in
      let y = runs D x.state ys in
      ◌∙◌ {A = Ran S} (ap (λ (z : Ran S). record { state = z.state; answer = a.answer ++ z.answer }) (runs_append a.state xs ys))
      (λ i. record { state = y.state; answer = sym (append_assoc a.answer x.answer y.answer) i })

  -- each has 8 bytes of answer
  pub runs_eight : (s : S) (ws : List (List ℕ)) → length (runs D s ws).answer ≡ 8 * length ws
  unfolding runs
  runs_eight s [] = refl
  runs_eight s (w ∷ ws) =
      let x = D.run s w in
      omega (arith, length-append x.answer (runs D x.state ws).answer, D.eight s w, runs_eight x.state ws)

  -- FEED ON WHOLE RECORDS, with room for their answers
  pub feed_wholes : (s : S) (ws : List (List ℕ)) → AllWhole ws → (room : ℕ) → 8 * length ws ≤ room → (rest : List ℕ)
      → feed_open D (carrying s []) room (joined_up ws ++ rest)
      ≡ Feed.later (length (joined_up ws)) (runs D s ws).answer (feed_open D (carrying (runs D s ws).state []) (room - 8 * length ws) rest)
  unfolding runs
  feed_wholes s [] a room h rest =
      ap (λ (n : ℕ). feed_open D (carrying s []) n rest) (sym (sub-zero room)) ∙ sym (Records.later-zero (feed_open D (carrying s []) (room - 0) rest))
  feed_wholes s (w ∷ ws) a room h rest =
      let x = D.run s w in
      let y = runs D x.state ws in
      let n : room - 8 - 8 * length ws ≡ room - 8 * suc (length ws) = omega arith in
      ap (feed_open D (carrying s []) room) (append_assoc w (joined_up ws) rest)
      ∙ feed_complete D s (w ++ (joined_up ws ++ rest)) w room (whole-front w (joined_up ws ++ rest) a.0) (omega arith)
      ∙ ap (λ (l : List ℕ). Feed.later (length w) x.answer (feed_open D (carrying x.state []) (room - 8) l)) (drop_at w (joined_up ws ++ rest) (length w) refl)
      ∙ ap (Feed.later (length w) x.answer) (feed_wholes x.state ws a.1 (room - 8) (omega arith) rest)
      ∙ Records.later-later (length w) (length (joined_up ws)) x.answer y.answer (feed_open D (carrying y.state []) (room - 8 - 8 * length ws) rest)
      ∙ (λ i. Feed.later (sym (length-append w (joined_up ws)) i) (x.answer ++ y.answer) (feed_open D (carrying y.state []) (n i) rest))

  -- the advances that are due, with room for their answers
  advances-run : (ts : List Nanos) (s : S) (r : Progress) (room b : ℕ) (bs : List ℕ) → InOrder r b → drop r.answered (due r.earlier r.stamp) ≡ ts → 8 * length ts ≤ room
      → (let x = runs D s (map advance ts) in
      replay_open D (carrying s []) r room (b ∷ bs) ≡ later 0 x.answer (replay_open D (carrying x.state []) (more_answered (length ts) r) (room - 8 * length ts) (b ∷ bs)))
  unfolding runs
  advances-run [] s r room b bs o e h =
      (λ i. replay_open D (carrying s []) (sym (none_more r) i) (sym (sub-zero room) i) (b ∷ bs)) ∙ sym (later-zero (replay_open D (carrying s []) (more_answered 0 r) (room - 0) (b ∷ bs)))
  advances-run (t ∷ ts) s r room b bs o e h =
      let x = D.run s (advance t) in
      let y = runs D x.state (map advance ts) in
      let d : drop (r.answered + 1) (due r.earlier r.stamp) ≡ ts = sym (drop-drop 1 r.answered (due r.earlier r.stamp)) ∙ ap (drop 1) e in
      let n : room - 8 - 8 * length ts ≡ room - 8 * suc (length ts) = omega arith in
      one_advance D s r room b bs o t ts e (omega arith)
      ∙ ap (later 0 x.answer) (advances-run ts x.state (more_answered 1 r) (room - 8) b bs (record { stamped = o.stamped; forward = o.forward; kind = o.kind }) d (omega arith))
      ∙ later-later 0 0 x.answer y.answer (replay_open D (carrying y.state []) (more_answered (length ts) (more_answered 1 r)) (room - 8 - 8 * length ts) (b ∷ bs))
      ∙ (λ i. later 0 (x.answer ++ y.answer) (replay_open D (carrying y.state []) (sym (one_then (length ts) r) i) (n i) (b ∷ bs)))

  -- REPLAY ON A WHOLE ENTRY, with room for the answers of its advances and its record
  pub entry_runs : (s : S) (e : Stamp) (stamp bytes rest : List ℕ) (room : ℕ) → length stamp ≡ 4 → back (Some e) (stamp_in stamp) ≡ false
      → next bytes ≡ complete bytes → eqb (kind_at bytes 0) 1 ≡ false → 8 * length (due (Some e) stamp) + 8 ≤ room
      → (let x = runs D s (map advance (due (Some e) stamp)) in
      let z = D.run x.state bytes in
      replay_open D (carrying s []) (after_entry e) room ((stamp ++ bytes) ++ rest)
      ≡ later (4 + length bytes) (x.answer ++ z.answer)
      (replay_open D (carrying z.state []) (after_entry (stamp_in stamp)) (room - (8 * length (due (Some e) stamp) + 8)) rest))
  entry_runs s e stamp [] rest room l f w k h = let c = complete_at [] [] w in absurd (omega (arith, c.fits))
  entry_runs s e stamp (k ∷ more) rest room l f w n h =
      let bytes = k ∷ more in
      let ts = due (Some e) stamp in
      let q = more_stamps stamp (after_entry e) in
      let q' = more_answered (length ts) q in
      let x = runs D s (map advance ts) in
      let z = D.run x.state bytes in
      let there : AtRecord q' (bytes ++ rest) =
      record {
        kind = k;
        more = more ++ rest;
        bytes = refl;
        in_order = record { stamped = l; forward = f; kind = n };
        answered = ap (λ (m : ℕ). drop m ts) (zero-add (length ts)) ∙ drop-length ts;
      } in
      let room' : room - 8 * length ts - 8 ≡ room - (8 * length ts + 8) = omega arith in
      let count : length stamp + 0 + length bytes ≡ 4 + length bytes = omega (arith, l) in
      ap (replay_open D (carrying s []) (after_entry e) room) (append_assoc stamp bytes rest)
      ∙ stamps D s (after_entry e) room stamp (bytes ++ rest) (omega (arith, l))
      ∙ ap (later (length stamp) []) (advances-run ts s q room k (more ++ rest) (record { stamped = l; forward = f; kind = n }) refl (omega arith))
      ∙ later-later (length stamp) 0 [] x.answer (replay_open D (carrying x.state []) q' (room - 8 * length ts) (bytes ++ rest))
      ∙ ap (later (length stamp + 0) x.answer) (whole_record D x.state q' (room - 8 * length ts) (bytes ++ rest) bytes there (whole-front bytes rest w) (omega arith))
      ∙ later-later (length stamp + 0) (length bytes) x.answer z.answer (replay_open D (carrying z.state []) (after_entry (stamp_in stamp)) (room - 8 * length ts - 8) (drop (length bytes) (bytes ++ rest)))
      ∙ (λ i. later (count i) (x.answer ++ z.answer) (replay_open D (carrying z.state []) (after_entry (stamp_in stamp)) (room' i) (drop_at bytes rest (length bytes) refl i)))
