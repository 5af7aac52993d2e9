-- Worked examples, which antt computes: the table of kinds, how a trace is cut, and calls on a toy device. The theorem holds of the toy, so what it asks of a device can be had.
use Prim.Native.Nat.{ℕ, zero, suc, ◌+◌, ◌<◌}
use mathlib.Core.Path.{◌≡◌, refl}
use mathlib.Core.Bool.{Bool, true, false, ◌&&◌, true≢false}
use mathlib.Core.List.{List, [], ◌∷◌}
use native.Mathlib.Omega.{arith}
use lib.ListN.{length, get_or, take, replicate}
use lib.Dec.{leb, eqb}
use borrow.Author.Tests.{le-leb, ne_eqb}
use Rattle.bits.proofs.Tests.{both_right}
use Rattle.trace.specs.Format.{when◌then◌else◌, size_of, known, body, whole, begun, pad, Bytes}
use Rattle.trace.specs.Bench.{Ran, Device, cut_in, cut, runs, plain}
use Rattle.trace.specs.Outcome.{Outcome, unknown_next, scan, outcome, outcome_of}
use Rattle.trace.specs.Feed.{byte, feed_open}
use Rattle.trace.specs.Lent.{Lent, refusal, refusal_or31, feeds}
use Rattle.trace.specs.Calls.{Call, BytesIn, calls, all_refused, expected_from, expected}
use Rattle.trace.specs.OneTrace.{OneTrace}
use Rattle.trace.specs.inner.Keeps.{Keeps}
use Rattle.trace.proofs.Tests.{if_false}
use Rattle.trace.proofs.Lists.{take-pad}
use Rattle.trace.proofs.Gathering.{begun_short}
use Rattle.trace.proofs.Refusing.{refusal_none, refusal_accepted}
use Rattle.trace.proofs.Theorem.{one_trace}

-- ---- the table: kinds 01 to 0D and no other
sized : List ℕ → List ℕ
sized [] = []
sized (k ∷ ks) = size_of k ∷ sized ks

kinds : sized (0 ∷ 1 ∷ 2 ∷ 3 ∷ 4 ∷ 5 ∷ 6 ∷ 7 ∷ 8 ∷ 9 ∷ 0x0A ∷ 0x0B ∷ 0x0C ∷ 0x0D ∷ 0x0E ∷ 0x0F ∷ 0xFF ∷ [])
    ≡ 0 ∷ 5 ∷ 4 ∷ 8 ∷ 17 ∷ 1 ∷ 1 ∷ 1 ∷ 1 ∷ 1 ∷ 2 ∷ 2 ∷ 7 ∷ 1 ∷ 0 ∷ 0 ∷ 0 ∷ []
unfolding sized size_of
kinds = refl

-- ---- what may be carried: nothing, or the start of one record, and not all of it
begun_some : begun (1 ∷ 0x0A ∷ 0 ∷ 0 ∷ []) ≡ true
unfolding begun known body size_of
begun_some = refl

begun_most : begun (4 ∷ replicate 15 0) ≡ true
unfolding begun known body size_of
begun_most = refl

begun-whole : begun (1 ∷ 0x0A ∷ 0 ∷ 0 ∷ 0 ∷ []) ≡ false
unfolding begun known body size_of
begun-whole = refl

begun_one : begun (5 ∷ []) ≡ false
unfolding begun known body size_of
begun_one = refl

begun_unknown : begun (0x0E ∷ []) ≡ false
unfolding begun known body size_of
begun_unknown = refl

-- ---- a trace is cut from the front; what follows an unknown kind is left
cut_some : cut (5 ∷ 2 ∷ 0 ∷ 0 ∷ 15 ∷ 1 ∷ 10 ∷ 0 ∷ 0 ∷ []) ≡ record { wholes = (5 ∷ []) ∷ (2 ∷ 0 ∷ 0 ∷ 15 ∷ []) ∷ []; left = 1 ∷ 10 ∷ 0 ∷ 0 ∷ [] }
unfolding cut cut_in whole known body size_of
cut_some = refl

cut_unknown : cut (5 ∷ 119 ∷ 5 ∷ []) ≡ record { wholes = (5 ∷ []) ∷ []; left = 119 ∷ 5 ∷ [] }
unfolding cut cut_in whole known body size_of
cut_unknown = refl

-- ---- a toy device: its state is a number, to which each record adds its kind; it answers the kind, the length, the second byte and the state before
unfoldable toy_run : ℕ → List ℕ → Ran ℕ
toy_run s r = record { state = s + get_or r 0 0; answer = get_or r 0 0 ∷ length r ∷ get_or r 1 0 ∷ s ∷ 0 ∷ 0 ∷ 0 ∷ 0 ∷ [] }

toy_eight : (s : ℕ) (r : List ℕ) → length (toy_run s r).answer ≡ 8
unfolding toy_run
toy_eight s r = refl

abbrev toy : Device ℕ
toy = record { run = toy_run; eight = toy_eight }

-- as code keeps it: 16 bytes and a count
record Port : Type 0 where
  state : ℕ
  carried : List ℕ
  count : ℕ
  broken : Bool

-- its set-up is refused with 3 where the state is 0
abbrev lent : Lent ℕ Port
lent =
    record {
      device = toy;
      set_up = λ h. when eqb h.state 0 then 3 else 0;
      sound = λ h. leb h.count 16 && begun (take h.count h.carried);
      view = λ h. record { state = h.state; carried = take h.count h.carried; broken = h.broken };
      keep = λ p. record { state = p.state; carried = pad 16 p.carried; count = length p.carried; broken = p.broken };
    }

-- the theorem holds of it
abbrev Good : ℕ → Type 0
Good s = eqb s 0 ≡ false

positive : (s : ℕ) → eqb s 0 ≡ false → 0 < s
positive zero e = absurd (true≢false e)
positive (suc s) e = omega arith

set_up_good : (s : ℕ) → ◌≡◌ {A = ℕ} (when eqb s 0 then 3 else 0) 0 → Good s
set_up_good zero e = absurd (omega arith)
set_up_good (suc s) e = ne_eqb (suc s) 0 (λ q. omega arith)

keeps : (h : Port) → Keeps lent h Good
unfolding toy_run
keeps h =
    record {
      good = λ e. set_up_good h.state (refusal_accepted lent h e).0;
      carries = λ e. both_right (leb h.count 16) (begun (take h.count h.carried)) (refusal_accepted lent h e).1;
      run = λ s r w b g. ne_eqb (s + get_or r 0 0) 0 (λ e. omega (arith, positive s g));
      kept = λ p g b. λ i. record { state = p.state; carried = take-pad 16 p.carried i; broken = p.broken };
      accepted = λ p g b.
          refusal_none lent (lent.keep p) (if_false (eqb p.state 0) 3 0 g)
          (rw (le-leb (length p.carried) 16 (begun_short p.carried b), take-pad 16 p.carried, b));
    }

toy_one_trace : (h : Port) (cs : List Call) → Bytes (lent.view h).carried → BytesIn cs → OneTrace lent h cs (calls lent h cs)
toy_one_trace h = one_trace lent h Good (keeps h)

-- ---- seven calls. 05, 01 0A 00 00 00, 0A 07 and 0D run; then an unknown kind, 77h. Every answer byte is EEh before its call, and what lies past the carried bytes is anything
abbrev started : Port
started = record { state = 1; carried = replicate 16 9; count = 0; broken = false }

abbrev cs : List Call
cs =
    record { input = 5 ∷ 1 ∷ 0x0A ∷ []; answers = replicate 8 0xEE }
    ∷ record { input = 0 ∷ 0 ∷ 0 ∷ 0x0A ∷ 7 ∷ []; answers = replicate 15 0xEE }
    ∷ record { input = 7 ∷ []; answers = replicate 7 0xEE }
    ∷ record { input = 7 ∷ 0x0D ∷ []; answers = replicate 8 0xEE }
    ∷ record { input = 0x0D ∷ 0x77 ∷ 5 ∷ []; answers = replicate 9 0xEE }
    ∷ record { input = 5 ∷ []; answers = replicate 10 0xEE }
    ∷ record { input = []; answers = [] }
    ∷ []

abbrev numbers : List Outcome
numbers =
    record { number = 0; consumed = 3; written = 8 }
    ∷ record { number = 30; consumed = 4; written = 8 }
    ∷ record { number = 30; consumed = 0; written = 0 }
    ∷ record { number = 30; consumed = 1; written = 8 }
    ∷ record { number = 31; consumed = 1; written = 8 }
    ∷ record { number = 31; consumed = 0; written = 0 }
    ∷ record { number = 31; consumed = 0; written = 0 }
    ∷ []

-- all that the calls come to
together : calls lent started cs
    ≡ record {
      bytes = 5 ∷ 1 ∷ 0x0A ∷ 0 ∷ 0 ∷ 0 ∷ 0x0A ∷ 7 ∷ 0x0D ∷ [];
      answers = 5 ∷ 1 ∷ 0 ∷ 1 ∷ 0 ∷ 0 ∷ 0 ∷ 0 ∷ 1 ∷ 5 ∷ 10 ∷ 6 ∷ 0 ∷ 0 ∷ 0 ∷ 0 ∷ 10 ∷ 2 ∷ 7 ∷ 7 ∷ 0 ∷ 0 ∷ 0 ∷ 0 ∷ 13 ∷ 1 ∷ 0 ∷ 17 ∷ 0 ∷ 0 ∷ 0 ∷ 0 ∷ [];
      outcomes = numbers;
      slices =
          (5 ∷ 1 ∷ 0 ∷ 1 ∷ 0 ∷ 0 ∷ 0 ∷ 0 ∷ [])
          ∷ (1 ∷ 5 ∷ 10 ∷ 6 ∷ 0 ∷ 0 ∷ 0 ∷ 0 ∷ replicate 7 0xEE)
          ∷ replicate 7 0xEE
          ∷ (10 ∷ 2 ∷ 7 ∷ 7 ∷ 0 ∷ 0 ∷ 0 ∷ 0 ∷ [])
          ∷ (13 ∷ 1 ∷ 0 ∷ 17 ∷ 0 ∷ 0 ∷ 0 ∷ 0 ∷ 0xEE ∷ [])
          ∷ replicate 10 0xEE
          ∷ []
          ∷ [];
      held = record { state = 30; carried = replicate 16 0; count = 0; broken = true };
    }
unfolding calls feeds refusal_or31 refusal feed_open byte begun known body size_of toy_run
together = refl

-- the plain bench on the bytes consumed
plainly : plain toy 1 (5 ∷ 1 ∷ 0x0A ∷ 0 ∷ 0 ∷ 0 ∷ 0x0A ∷ 7 ∷ 0x0D ∷ [])
    ≡ record {
      state = 30;
      carried = [];
      answers = 5 ∷ 1 ∷ 0 ∷ 1 ∷ 0 ∷ 0 ∷ 0 ∷ 0 ∷ 1 ∷ 5 ∷ 10 ∷ 6 ∷ 0 ∷ 0 ∷ 0 ∷ 0 ∷ 10 ∷ 2 ∷ 7 ∷ 7 ∷ 0 ∷ 0 ∷ 0 ∷ 0 ∷ 13 ∷ 1 ∷ 0 ∷ 17 ∷ 0 ∷ 0 ∷ 0 ∷ 0 ∷ [];
    }
unfolding plain runs cut cut_in whole known body size_of toy_run
plainly = refl

-- the outcome function, which runs nothing
foreseen : expected toy 0 (lent.view started) cs ≡ numbers
unfolding expected_from outcome_of outcome scan unknown_next plain runs cut cut_in whole known body size_of toy_run
foreseen = refl

-- an incomplete record is carried and does nothing else: after the first two calls the state is the sum of 1, 5 and 1
carried_on : (calls lent started (take 2 cs)).held ≡ record { state = 7; carried = 0x0A ∷ replicate 15 0; count = 1; broken = false }
unfolding calls feeds refusal_or31 refusal feed_open byte begun known body size_of toy_run
carried_on = refl

-- an unknown kind gives 31 with no room at all, and is not consumed
unknown_no_room : outcome [] false (0x77 ∷ []) 0 ≡ record { number = 31; consumed = 0; written = 0 }
unfolding outcome scan unknown_next cut cut_in whole known body size_of
unknown_no_room = refl

-- with 7 answer bytes the last byte waits; with 8 the record runs
seven : outcome (2 ∷ 0 ∷ []) false (0 ∷ 15 ∷ []) 7 ≡ record { number = 30; consumed = 1; written = 0 }
unfolding outcome scan unknown_next cut cut_in whole known body size_of
seven = refl

eight : outcome (2 ∷ 0 ∷ []) false (0 ∷ 15 ∷ []) 8 ≡ record { number = 0; consumed = 2; written = 8 }
unfolding outcome scan unknown_next cut cut_in whole known body size_of
eight = refl

-- ---- refusals: first the set-up's, also where the port is unsound and broken; then 5, also where it is broken; nothing changes
not_set_up : let h : Port = record { state = 0; carried = replicate 16 9; count = 17; broken = true } in calls lent h cs ≡ all_refused 3 h cs
unfolding calls feeds refusal_or31 refusal begun known body size_of
not_set_up = refl

not_sound : let h : Port = record { state = 1; carried = 5 ∷ replicate 15 9; count = 1; broken = true } in calls lent h cs ≡ all_refused 5 h cs
unfolding calls feeds refusal_or31 refusal begun known body size_of
not_sound = refl
