-- Entries written out, one after the other: nothing yet, and one entry more.
use Prim.Native.Nat.{ℕ, zero, suc, ◌+◌, ◌-◌, ◌*◌, ◌≤◌, ◌<◌}
use mathlib.Core.Path.{◌≡◌, refl, ap, sym, ◌∙◌, subst}
use mathlib.Core.Bool.{Bool, true, false, ◌&&◌}
use mathlib.Core.List.{List, [], ◌∷◌, ◌++◌, append-nil, append_assoc, map}
use native.Mathlib.Omega.{arith}
use native.Mathlib.Nat.{sub-zero}
use lib.ListN.{length, get_or, take, drop, take-append-drop, length-append, length-drop, length-map}
use lib.Seq.{length-take-le, drop-drop}
use lib.Dec.{eqb}
use borrow.Author.Tests.{eqb-true}
use Rattle.std.specs.Prelude.{None, Some}
use Rattle.bits.proofs.Bytes.{bytes_append, bytes_take, bytes_drop}
use Rattle.bits.proofs.Tests.{both_left, both_right}
use Rattle.times.specs.declared.Nanos.{Nanos}
use Rattle.ticks.specs.declared.Stamp.{Stamp}
use Rattle.trace.specs.Format.{when◌then◌else◌, Bytes, next, complete, size_of}
use Rattle.trace.specs.Bench.{Ran, runs}
use Rattle.trace.specs.Feed.{kind_at}
use Rattle.trace.specs.Exactly.{joined_up}
use Rattle.trace.specs.inner.Gathered.{whole_size}
use Rattle.trace.proofs.Tests.{if_cases, if_true}
use Rattle.trace.proofs.Gathering.{size-within, runs-whole}
use Rattle.trace.proofs.Loop.{Got, got_bytes, by_gather, next_itself}
use Rattle.readiness.specs.declared.Setup.{Setup}
use Rattle.replay.specs.inner.Noted.{Noted, noting_device}
use Rattle.decode.proofs.Fields.{kind_at_lem}
use Rattle.capture.specs.declared.Replay.{Replay}
use Rattle.capture.specs.Advances.{Earlier, due, advance, advance_bytes}
use Rattle.capture.specs.Replay.{Progress, after_entry, later, replay_open}
use Rattle.capture.specs.Lent.{earlier_of, progress_in}
use Rattle.capture.specs.Calls.{blank}
use Rattle.capture.proofs.Advancing.{due_few, due_none}
use Rattle.capture.proofs.Steps.{later-zero, later-later}
use Rattle.capture.proofs.Wholes.{joined_append, wholes_append, joined_advances, wholes_advances, bytes_advances, runs_append, entry_runs}
use Rattle.replay_state.specs.inner.Moves.{advances_in}
use Rattle.replay_state.proofs.Dues.{dues_held}
use Rattle.replay.specs.declared.Entry.{Entry}
use Rattle.replay.specs.inner.Calls.{Between}
use Rattle.replay.specs.inner.Stretches.{StandsNext, open_in, WrittenOut, stamp_before}

-- a replay that stands between two entries
before_is : (t : Bool) (e : Earlier) (stamp : Stamp) → (when t then e else None) ≡ Some stamp → (t ≡ true) × (e ≡ Some stamp)
before_is true e stamp h = (refl, h)
before_is false e stamp h = cc

pub stands_after : (r : Replay) (stamp : Stamp) → Between r → stamp_before r ≡ Some stamp → progress_in r ≡ after_entry stamp
stands_after r stamp b e =
    let is = before_is (eqb r.stamp_len 0 && eqb r.ended 0) (earlier_of r) stamp e in
    let len : r.stamp_len ≡ 0 = eqb-true r.stamp_len 0 (both_left (eqb r.stamp_len 0) (eqb r.ended 0) is.0) in
    let none_there : take r.stamp_len r.stamp ≡ [] = ap (λ (n : ℕ). take n r.stamp) len in
    let none_answered : r.answered ≡ 0 = omega (arith, b.answered, ap length (due_none (progress_in r).earlier (progress_in r).stamp (omega (arith, ap length none_there)))) in
    let not_ended = eqb-true r.ended 0 (both_right (eqb r.stamp_len 0) (eqb r.ended 0) is.0) in
    λ i. record { earlier = is.1 i; stamp = none_there i; answered = none_answered i; ended = not_ended i }

-- nothing is written out yet
pub none_yet : (q : Progress) (space at : ℕ) (input : List ℕ) → at ≤ length input → WrittenOut q space at input q at 0 []
unfolding runs
none_yet q space at input h =
    record {
      records = [];
      wholes = tt;
      joined = refl;
      are_bytes = tt;
      eight = refl;
      room = omega arith;
      from = omega arith;
      to = h;
      goes =
          λ k defaults s.
          let D = noting_device k defaults in
          let z : 0 ≡ at - at = omega arith in
          (λ i. replay_open D (open_in s) q (sym (sub-zero space) i) (drop at input))
          ∙ sym (later-zero (replay_open D (open_in s) q (space - 0) (drop at input)))
          ∙ ap (λ (n : ℕ). later n [] (replay_open D (open_in s) q (space - 0) (drop at input))) z;
    }

-- ---- an entry that stands next
module _ {before : Stamp} {input : List ℕ} {at left room : ℕ} {e : Entry} (n : StandsNext before input at left room e) (some : 0 < e.size) where
  abbrev stamp : List ℕ
  stamp = take 4 (drop at input)

  abbrev pub ts : List Nanos
  ts = due (Some before) stamp

  abbrev l : List ℕ
  l = drop (at + 4) input

  abbrev pub bytes : List ℕ
  bytes = take e.size l

  abbrev kind : ℕ
  kind = get_or input (at + 4) 0

  long : length l ≡ length input - (at + 4)
  long = length-drop (at + 4) input

  four : length stamp ≡ 4
  four = length-take-le 4 (drop at input) (omega (arith, length-drop at input, n.there))

  pub few : length ts ≤ 2
  few = due_few (Some before) stamp

  -- the kind is no 01, and its size is that of a record
  other : (eqb kind 1 ≡ false) × (e.size ≡ size_of kind)
  other =
      if_cases (λ (m : ℕ). e.size ≡ m → (eqb kind 1 ≡ false) × (e.size ≡ size_of kind)) (eqb kind 1) 0 (size_of kind)
      (λ _ z. absurd (omega (arith, some, z)))
      (λ f z. (f, z))
      n.size

  pub short : e.size ≤ 17
  short = omega (arith, other.1, size-within kind)

  pub held : advances_in e.due ≡ ts
  held = ap advances_in n.due ∙ dues_held (Some before) stamp

  pub count : length (advances_in e.due) ≡ length ts
  count = ap length held

  got : Got l e.size
  got =
      let s : e.size ≡ whole_size 8 (next l) = runs-whole 8 l e.size (ap size_of (kind_at_lem input (at + 4)) ∙ sym other.1) (omega (arith, long, n.there, short)) (omega arith) in
      subst (Got l) (sym s) ((by_gather blank tt 8 l).0 (subst (λ (m : ℕ). 0 < m) s some)).0

  whole : next bytes ≡ complete bytes
  whole = subst (λ (w : List ℕ). next w ≡ complete w) (got_bytes l e.size got) (next_itself l got.whole got.is)

  length_bytes : length bytes ≡ e.size
  length_bytes = length-take-le e.size l (omega (arith, long, n.there, short))

  -- its kind
  no_01 : eqb (kind_at bytes 0) 1 ≡ false
  no_01 = first l e.size some (sym (kind_at_lem input (at + 4)))
    where
      first : (xs : List ℕ) (m : ℕ) → 0 < m → kind ≡ get_or xs 0 0 → eqb (kind_at (take m xs) 0) 1 ≡ false
      first xs zero h q = absurd (omega arith)
      first [] (suc m) h q = refl
      first (x ∷ xs) (suc m) h q = subst (λ (k : ℕ). eqb k 1 ≡ false) q other.0

  -- what is left of the input begins with it
  cut : drop at input ≡ (stamp ++ bytes) ++ drop (at + 4 + e.size) input
  cut =
      sym (take-append-drop 4 (drop at input))
      ∙ ap (λ (r : List ℕ). stamp ++ r) (drop-drop 4 at input ∙ sym (take-append-drop e.size l) ∙ ap (λ (r : List ℕ). bytes ++ r) (drop-drop e.size (at + 4) input))
      ∙ sym (append_assoc stamp bytes (drop (at + 4 + e.size) input))

  -- its records
  abbrev more : List (List ℕ)
  more = map advance ts ++ bytes ∷ []

  joined_more : joined_up more ≡ advance_bytes ts ++ bytes
  joined_more = joined_append (map advance ts) (bytes ∷ []) ∙ (λ i. joined_advances ts i ++ append-nil bytes i)

  many : length more ≡ length ts + 1
  many = length-append (map advance ts) (bytes ∷ []) ∙ ap (λ (m : ℕ). m + 1) (length-map ts advance)

  -- and their runs
  module _ (k : Setup) (defaults : List ℕ) (s : Noted) where
    abbrev y : Ran Noted
    y = runs (noting_device k defaults) s (map advance ts)

    abbrev z : Ran Noted
    z = (noting_device k defaults).run y.state bytes

    runs_more : ◌≡◌ {A = Ran Noted} (runs (noting_device k defaults) s more) (record { state = z.state; answer = y.answer ++ z.answer })
    unfolding runs
    runs_more =
        ◌∙◌ {A = Ran Noted} (runs_append (noting_device k defaults) s (map advance ts) (bytes ∷ []))
        (λ i. record { state = z.state; answer = y.answer ++ append-nil z.answer i })

-- THE ENTRY, written out
pub entry_written : {before : Stamp} {input : List ℕ} {at left room : ℕ} {e : Entry} → (n : StandsNext before input at left room e) (some : 0 < e.size) → Bytes input
    → WrittenOut (after_entry before) left at input (after_entry e.stamp) (at + 4 + e.size) (8 * length (advances_in e.due) + 8) (advance_bytes (ts n some) ++ bytes n some)
entry_written {before} {input} {at} {left} {room} {e} n some b =
    let t = ts n some in
    let w = bytes n some in
    record {
      records = more n some;
      wholes = wholes_append (map advance t) (w ∷ []) (wholes_advances t) (whole n some, tt);
      joined = sym (joined_more n some);
      are_bytes = bytes_append (advance_bytes t) w (bytes_advances t) (bytes_take e.size (drop (at + 4) input) (bytes_drop (at + 4) input b));
      eight = omega (arith, many n some, count n some);
      room = omega (arith, count n some, few n some, n.answers);
      from = omega arith;
      to = omega (arith, n.there, short n some);
      goes =
          λ k defaults s.
          let D = noting_device k defaults in
          let rest = drop (at + 4 + e.size) input in
          let left_then : left - (8 * length t + 8) ≡ left - (8 * length (advances_in e.due) + 8) = ap (λ (m : ℕ). left - (8 * m + 8)) (sym (count n some)) in
          let c : 4 + length w ≡ at + 4 + e.size - at = omega (arith, length_bytes n some) in
          ap (replay_open D (open_in s) (after_entry before) left) (cut n some)
          ∙ entry_runs D s before (stamp n some) w rest left (four n some) n.forward (whole n some) (no_01 n some) (omega (arith, few n some, n.answers))
          ∙ (λ i. later (c i) (sym (runs_more n some k defaults s) i).answer (replay_open D (open_in (sym (runs_more n some k defaults s) i).state) (after_entry (sym n.stamp i)) (left_then i) rest));
    }

-- ONE BEHIND THE OTHER
pub written_append : {q q₁ q₂ : Progress} {space at at₁ at₂ a₁ a₂ : ℕ} {input bs₁ bs₂ : List ℕ}
    → WrittenOut q space at input q₁ at₁ a₁ bs₁ → WrittenOut q₁ (space - a₁) at₁ input q₂ at₂ a₂ bs₂ → WrittenOut q space at input q₂ at₂ (a₁ + a₂) (bs₁ ++ bs₂)
written_append {q} {q₁} {q₂} {space} {at} {at₁} {at₂} {a₁} {a₂} {input} {bs₁} {bs₂} o p =
    record {
      records = o.records ++ p.records;
      wholes = wholes_append o.records p.records o.wholes p.wholes;
      joined = (λ i. o.joined i ++ p.joined i) ∙ sym (joined_append o.records p.records);
      are_bytes = bytes_append bs₁ bs₂ o.are_bytes p.are_bytes;
      eight = omega (arith, o.eight, p.eight, length-append o.records p.records);
      room = omega (arith, o.room, p.room);
      from = omega (arith, o.from, p.from);
      to = p.to;
      goes =
          λ k defaults s.
          let D = noting_device k defaults in
          let x = runs D s o.records in
          let y = runs D x.state p.records in
          let rest = drop at₂ input in
          let c : at₁ - at + (at₂ - at₁) ≡ at₂ - at = omega (arith, o.from, p.from) in
          let room : space - a₁ - a₂ ≡ space - (a₁ + a₂) = omega arith in
          let both = runs_append D s o.records p.records in
          o.goes k defaults s
          ∙ ap (later (at₁ - at) x.answer) (p.goes k defaults x.state)
          ∙ later-later (at₁ - at) (at₂ - at₁) x.answer y.answer (replay_open D (open_in y.state) q₂ (space - a₁ - a₂) rest)
          ∙ (λ i. later (c i) (sym both i).answer (replay_open D (open_in (sym both i).state) q₂ (room i) rest));
    }

-- ---- what is left of the room for answers
room-left : (left space : ℕ) → left ≤ space → left ≡ space - (space - left)
room-left left space h = omega (arith, h)

answered : (left space d : ℕ) → left ≤ space → 8 * d + 8 ≤ left → space - left + (8 * d + 8) ≡ space - (left - 8 * d - 8)
answered left space d h g = omega (arith, h, g)

-- ONE ENTRY MORE
pub one_more : {q : Progress} {space from : ℕ} {before : Stamp} {input : List ℕ} {at left room : ℕ} {e : Entry} {front : List ℕ}
    → (n : StandsNext before input at left room e) (some : 0 < e.size) → Bytes input → left ≤ space
    → WrittenOut q space from input (after_entry before) at (space - left) front
    → WrittenOut q space from input (after_entry e.stamp) (at + 4 + e.size) (space - (left - 8 * length (advances_in e.due) - 8)) (front ++ (advance_bytes (ts n some) ++ bytes n some))
one_more {q} {space} {from} {before} {input} {at} {left} {room} {e} {front} n some b h o =
    let new = advance_bytes (ts n some) ++ bytes n some in
    subst (λ (a : ℕ). WrittenOut q space from input (after_entry e.stamp) (at + 4 + e.size) a (front ++ new)) (answered left space (length (advances_in e.due)) h (omega (arith, count n some, few n some, n.answers)))
    (written_append o
    (subst (λ (m : ℕ). WrittenOut (after_entry before) m at input (after_entry e.stamp) (at + 4 + e.size) (8 * length (advances_in e.due) + 8) new) (room-left left space h) (entry_written n some b)))
