-- What holds at the head of feed's loop, that a record's turn keeps it, and what its end gives.
use Prim.Native.Nat.{ℕ, ◌+◌, ◌-◌, ◌≤◌, ◌<◌}
use mathlib.Core.Path.{◌≡◌, refl, ap, sym, ◌∙◌, subst}
use mathlib.Core.Bool.{true}
use mathlib.Core.List.{List, ◌++◌}
use native.Mathlib.Omega.{arith}
use lib.ListN.{length, take, drop, length-append, length-drop}
use lib.Seq.{length-take-le, paste}
use lib.Dec.{eqb}
use Rattle.trace.specs.Format.{Bytes, pad, longest, begun, next}
use Rattle.trace.specs.inner.Gathered.{whole_size, end_number, end_count}
use Rattle.trace.specs.Lent.{Left, refusal_or31}
use Rattle.trace.proofs.Loop.{Got, got_bytes, got_size, got_count, Ends, Found, by_gather, Inv, begins, turns, finish}
use Rattle.readiness.specs.declared.Status.{Status}
use Rattle.readiness.specs.declared.Setup.{Setup}
use Rattle.readiness.specs.declared.Dev.{Dev}
use Rattle.records.specs.declared.Record.{Record}
use Rattle.records.specs.declared.Reply.{Reply}
use Rattle.records.specs.State.{State, state}
use Rattle.records.specs.Decode.{decode}
use Rattle.records.specs.Answer.{answer_bytes}
use Rattle.records.specs.Run.{run}
use Rattle.demand3.specs.Held.{Held, held, opened, state_of, carried_of}
use Rattle.decode.proofs.Whole.{decode_alone}
use Rattle.feed.specs.inner.Calls.{carries_on}
use Rattle.feed.specs.inner.Turns.{TakesTurn}
use Rattle.records.specs.Device.{device}
use Rattle.demand3.specs.Feeding.{bench, feeds}
use Rattle.demand3.proofs.Good.{Good, good_keeps}
use Rattle.feed.proofs.Parts.{ran_bytes}

-- ---- the loop
-- the call began in the state s₀, with the first len of `carried` carried; `room` is the slice for answers as it was lent
module _ (k : Setup) (defaults : List ℕ) (carried : List ℕ) (len : ℕ) (input room : List ℕ) (s₀ : State) where
  -- at the head, with `at` bytes of the call's trace consumed and w bytes written
  pub record Head (answers : List ℕ) (dev : Dev) (statuses : List Status) (live cells : List ℕ) (at w : ℕ) : Type 0 where
    pub slots : length s₀.statuses ≡ k.slots
    pub short : len ≤ 16
    pub long : length carried ≡ 16
    pub inv : Inv (bench k defaults) (Good k defaults s₀) (good_keeps k defaults s₀) s₀ (take len carried) input room answers (state dev statuses live cells) at w

  -- AT THE START
  pub starts : (dev : Dev) (statuses : List Status) (live cells : List ℕ) → s₀ ≡ state dev statuses live cells
      → length s₀.statuses ≡ k.slots → len ≤ 16 → length carried ≡ 16
      → Good k defaults s₀ s₀ → begun (take len carried) ≡ true → Bytes (take len carried) → Bytes input
      → Head room dev statuses live cells 0 0
  starts dev statuses live cells e f short long g b c i =
      record {
        slots = f;
        short = short;
        long = long;
        inv = rw (sym e) (begins (bench k defaults) (Good k defaults s₀) (good_keeps k defaults s₀) s₀ (take len carried) input room g b c i);
      }

module _ {k : Setup} {defaults : List ℕ} {carried : List ℕ} {len : ℕ} {input room : List ℕ} {s₀ : State} {answers : List ℕ} {dev : Dev} {statuses : List Status} {live cells : List ℕ} {at w : ℕ}
    (v : Head k defaults carried len input room s₀ answers dev statuses live cells at w) where
  abbrev present : State
  present = state dev statuses live cells

  abbrev trace : List ℕ
  trace = take len carried ++ input

  abbrev rest : List ℕ
  rest = drop at trace

  pub length_trace : length trace ≡ len + length input
  length_trace = omega (arith, length-append (take len carried) input, length-take-le len carried (omega (arith, v.short, v.long)))

  -- as many statuses as slots
  pub length_statuses : length statuses ≡ k.slots
  length_statuses = v.inv.good.kept.statuses ∙ v.slots

  found : Found (device k defaults) present (length room - w) rest (next rest)
  found = by_gather (device k defaults) present (length room - w) rest

  -- as long as it was lent
  same_room : whole_size (length answers - w) (next rest) ≡ whole_size (length room - w) (next rest)
  same_room = ap (λ (n : ℕ). whole_size (n - w) (next rest)) v.inv.long

  -- the record that stands next has at least one byte and at most 17, and all of them are there
  pub record Turning (size : ℕ) : Type 0 where
    pub got : Got rest size
    pub space : 8 ≤ length room - w
    pub some : 0 < size
    pub few : size ≤ 17
    pub there : at + size ≤ len + length input

  pub turning : (size : ℕ) → size ≡ whole_size (length answers - w) (next rest) → 0 < size → Turning size
  turning size e h =
      let q = e ∙ same_room in
      let t = found.0 (subst (λ (n : ℕ). 0 < n) q h) in
      let g = subst (Got rest) (sym q) t.0 in
      let c = got_count rest size g in
      record { got = g; space = t.1; some = h; few = c.few; there = omega (arith, c.there, length-drop at trace, length_trace, v.inv.at_in) }

  -- or the call ends
  pub ends : whole_size (length answers - w) (next rest) ≡ 0 → Ends (device k defaults) present (length room - w) rest (end_number (next rest)) (end_count rest (next rest))
  ends e = found.1 (sym same_room ∙ e)

  -- A RECORD'S TURN
  pub turned : (size : ℕ) → Turning size → (r : Record) → r ≡ decode rest
      → (dev' : Dev) (statuses' : List Status) (live' cells' : List ℕ) (a : Reply) (answers' : List ℕ)
      → TakesTurn k defaults present r (state dev' statuses' live' cells') a → answers' ≡ paste answers w (answer_bytes a) 8
      → Head k defaults carried len input room s₀ answers' dev' statuses' live' cells' (at + size) (w + 8)
  turned size t r d dev' statuses' live' cells' a answers' x e =
      let y = x v.inv.good.kept.sound v.inv.good.kept.fits in
      let answer = answer_bytes (run k defaults present r).reply in
      let z = decode_alone rest size (got_size rest size t.got) t.some (got_count rest size t.got).there in
      record {
        slots = v.slots;
        short = v.short;
        long = v.long;
        inv = rw (e ∙ ap (λ (b : Reply). paste answers w (answer_bytes b) 8) y.reply)
            (turns (bench k defaults) (Good k defaults s₀) (good_keeps k defaults s₀) s₀ (take len carried) input room answers present at w v.inv size t.got
            (record { state = state dev' statuses' live' cells'; answer = answer })
            (ran_bytes k defaults present (state dev' statuses' live' cells') answer r (pad longest (take size rest)) t.got.whole (d ∙ z) (ap (pad longest) (sym (got_bytes rest size t.got))) y.state refl)
            t.space);
      }

  -- THE CALL'S END: it gives n, and the first m bytes of what is left are carried
  module _ (n m : ℕ) (z : Ends (device k defaults) present (length room - w) rest n m) where
    pub ended : (h : Held) → state_of h ≡ s₀ → carried_of h.port ≡ take len carried → refusal_or31 (bench k defaults) h ≡ 0
        → ◌≡◌ {A = Left Held}
        (record {
          number = n;
          consumed = at + m - len;
          written = w;
          held = held (record { dev = dev; carried = pad 16 (take m rest); carried_len = m; broken = eqb n 31 }) statuses live cells;
          answers = answers;
        })
        (feeds k defaults h input room)
    ended h es ec e =
        ◌∙◌ {A = Left Held}
        (λ i. record {
          number = n;
          consumed = at + m - len;
          written = w;
          held = held (record { dev = dev; carried = pad 16 (take m rest); carried_len = sym (length-take-le m rest z.there) i; broken = eqb n 31 }) statuses live cells;
          answers = answers;
        })
        (finish (bench k defaults) (Good k defaults s₀) (good_keeps k defaults s₀) s₀ (take len carried) input room answers present at w v.inv n m z
        len (length-take-le len carried (omega (arith, v.short, v.long))) h es ec e)

  -- with nothing carried at the start: after `at` and w, a call on what is left that completes no record
  pub ended_all : len ≡ 0 → whole_size (length answers - w) (next rest) ≡ 0 → (left : List ℕ) → left ≡ rest
      → (h : Held) → state_of h ≡ s₀ → carried_of h.port ≡ take len carried → refusal_or31 (bench k defaults) h ≡ 0
      → (let x = carries_on (opened dev) left in
      ◌≡◌ {A = Left Held}
      (record { number = x.number; consumed = at + x.consumed; written = w + x.written; held = held x.port statuses live cells; answers = answers })
      (feeds k defaults h input room))
  ended_all q none left l h es ec e =
      let n = end_number (next rest) in
      let m = end_count rest (next rest) in
      let c : at + (m - 0) ≡ at + m - len = omega arith in
      let u : w + 0 ≡ w = omega arith in
      ◌∙◌ {A = Left Held}
      (ap (λ (bs : List ℕ). let x = carries_on (opened dev) bs in
      record { number = x.number; consumed = at + x.consumed; written = w + x.written; held = held x.port statuses live cells; answers = answers }) l)
      (◌∙◌ {A = Left Held}
      (λ i. record {
        number = n;
        consumed = c i;
        written = u i;
        held = held (record { dev = dev; carried = pad 16 (take m rest); carried_len = m; broken = eqb n 31 }) statuses live cells;
        answers = answers;
      })
      (ended n m (ends none) h es ec e))
