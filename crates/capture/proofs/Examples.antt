-- Worked examples, which antt computes: advances, the trace that a capture stands for, calls on a toy device, and states that match or don't.
use Prim.Native.Nat.{ℕ, zero, suc, ◌+◌}
use mathlib.Core.Path.{◌≡◌, refl}
use mathlib.Core.Bool.{true, false}
use mathlib.Core.List.{List, [], ◌∷◌}
use lib.ListN.{get_or, take, replicate}
use native.Mathlib.Omega.{arith}
use lib.Dec.{eqb}
use borrow.Author.Tests.{ne_eqb, eqb-false}
use Rattle.std.specs.Prelude.{None, Some}
use Rattle.times.specs.declared.Nanos.{Nanos}
use Rattle.ticks.specs.declared.Stamp.{Stamp}
use Rattle.ticks.specs.Ticks.{difference, went_back, in_nanos}
use Rattle.trace.specs.Format.{when◌then◌else◌, size_of, known, body, whole, begun}
use Rattle.trace.specs.Bench.{Ran, Device, Bench, cut_in, cut, runs, plain}
use Rattle.trace.specs.Outcome.{Outcome}
use Rattle.trace.specs.Feed.{byte}
use Rattle.trace.specs.Lent.{Lent, refusal}
use Rattle.trace.specs.Calls.{Call, all_refused}
use Rattle.trace.specs.inner.Keeps.{Keeps}
use Rattle.trace.proofs.Tests.{if_false}
use Rattle.trace.proofs.Refusing.{refusal_none, refusal_accepted}
use Rattle.capture.specs.Advances.{Earlier, stamp_in, back, advances, between, due, advance}
use Rattle.capture.specs.Capture.{place_after, trace_from, place_of, stands_for}
use Rattle.capture.specs.Replay.{Progress, fresh, end_fits, matches, advancing, kind_byte, replay_open, replay}
use Rattle.capture.specs.Lent.{Held, replay_of, refusal_with, stops_first, replays, Fresh}
use Rattle.capture.specs.Calls.{replay_calls, foreseen, expected_from, expected}

abbrev ns : ℕ → Nanos
ns n = record { 0 = n }

abbrev stamp : ℕ → Stamp
stamp n = record { 0 = n }

abbrev progress : Earlier → List ℕ → ℕ → ℕ → Progress
progress e s answered ended = record { earlier = e; stamp = s; answered = answered; ended = ended }

-- ---- advances
none_for_0 : advances (ns 0) ≡ []
unfolding advances
none_for_0 = refl

one_full : advances (ns 4294967295) ≡ ns 4294967295 ∷ []
unfolding advances
one_full = refl

one_more : advances (ns 4294967296) ≡ ns 4294967295 ∷ ns 1 ∷ []
unfolding advances
one_more = refl

as_record : advance (ns 300) ≡ 1 ∷ 44 ∷ 1 ∷ 0 ∷ 0 ∷ []
unfolding advance
as_record = refl

-- ---- the advances that are due
-- from FFFFFFFFh to 00000002h: 3 ticks
wrapped : due (Some (stamp 0xFFFFFFFF)) (2 ∷ 0 ∷ 0 ∷ 0 ∷ []) ≡ ns 12 ∷ []
unfolding due back between difference went_back in_nanos advances stamp_in
wrapped = refl

-- 2^31 - 1 ticks: the most that are no step back
most : due (Some (stamp 0x10)) (0x0F ∷ 0 ∷ 0 ∷ 0x80 ∷ []) ≡ ns 4294967295 ∷ ns 4294967293 ∷ []
unfolding due back between difference went_back in_nanos advances stamp_in
most = refl

-- 2^31 ticks: a step back
half_way : back (Some (stamp 0x10)) (stamp_in (0x10 ∷ 0 ∷ 0 ∷ 0x80 ∷ [])) ≡ true
unfolding back difference went_back stamp_in
half_way = refl

none_half_way : due (Some (stamp 0x10)) (0x10 ∷ 0 ∷ 0 ∷ 0x80 ∷ []) ≡ []
unfolding due back difference went_back stamp_in
none_half_way = refl

-- three bytes of a stamp, and the first stamp
not_yet : due (Some (stamp 0)) (4 ∷ 0 ∷ 0 ∷ []) ≡ []
unfolding due
not_yet = refl

first_stamp : due None (4 ∷ 0 ∷ 0 ∷ 0 ∷ []) ≡ []
unfolding due back between
first_stamp = refl

-- ---- the trace that a capture stands for: stamp 16, link up; stamp 18 (2 ticks, 8 ns), queue register; stamp 18, and two bytes of a read
abbrev capture : List ℕ
capture = 16 ∷ 0 ∷ 0 ∷ 0 ∷ 5 ∷ 18 ∷ 0 ∷ 0 ∷ 0 ∷ 8 ∷ 18 ∷ 0 ∷ 0 ∷ 0 ∷ 2 ∷ 7 ∷ []

stands : stands_for capture 0 ≡ 5 ∷ 1 ∷ 8 ∷ 0 ∷ 0 ∷ 0 ∷ 8 ∷ 2 ∷ 7 ∷ []
unfolding stands_for place_of place_after trace_from due back between difference went_back in_nanos advances advance stamp_in body size_of
stands = refl

-- a stamp is consumed, and its advance is answered or not
not_answered : stands_for (take 9 capture) 0 ≡ 5 ∷ []
unfolding stands_for place_of place_after trace_from due back between difference went_back in_nanos advances advance stamp_in body size_of
not_answered = refl

answered : stands_for (take 9 capture) 1 ≡ 5 ∷ 1 ∷ 8 ∷ 0 ∷ 0 ∷ 0 ∷ []
unfolding stands_for place_of place_after trace_from due back between difference went_back in_nanos advances advance stamp_in body size_of
answered = refl

-- ---- a toy device: the sum of the records' bytes, which it shows with the record's kind
sum : List ℕ → ℕ
sum [] = 0
sum (b ∷ bs) = b + sum bs

toy_run : ℕ → List ℕ → Ran ℕ
toy_run s r = record { state = s + sum r; answer = get_or r 0 0 ∷ (s + sum r) ∷ replicate 6 0 }

abbrev toy : Device ℕ
unfolding toy_run
toy = record { run = toy_run; eight = λ s r. refl }

abbrev lent : Lent ℕ (Bench ℕ)
lent =
    record {
      device = toy;
      set_up = λ h. when eqb h.state 0 then 3 else 0;
      sound = λ h. begun h.carried;
      view = λ h. h;
      keep = λ p. p;
    }

abbrev port : Bench ℕ
port = record { state = 100; carried = []; broken = false }

abbrev begin : Held (Bench ℕ)
begin = record { port = port; replay = replay_of fresh }

-- stamp 16, link up, in two calls; then a stamp 2^30 + 1 ticks on with two advances and no room; room for one; room for the other; room for the record; then kind 01
abbrev cs : List Call
cs =
    record { input = 16 ∷ 0 ∷ []; answers = [] }
    ∷ record { input = 0 ∷ 0 ∷ 5 ∷ 17 ∷ []; answers = replicate 8 0xEE }
    ∷ record { input = 0 ∷ 0 ∷ 0x40 ∷ 8 ∷ []; answers = replicate 7 0xEE }
    ∷ record { input = 8 ∷ []; answers = replicate 9 0xEE }
    ∷ record { input = 8 ∷ []; answers = replicate 8 0xEE }
    ∷ record { input = 8 ∷ 17 ∷ 0 ∷ 0 ∷ 0x40 ∷ 1 ∷ []; answers = replicate 8 0xEE }
    ∷ record { input = 9 ∷ 9 ∷ []; answers = replicate 8 0xEE }
    ∷ []

abbrev numbers : List Outcome
numbers =
    record { number = 0; consumed = 2; written = 0 }
    ∷ record { number = 0; consumed = 4; written = 8 }
    ∷ record { number = 30; consumed = 3; written = 0 }
    ∷ record { number = 30; consumed = 0; written = 8 }
    ∷ record { number = 30; consumed = 0; written = 8 }
    ∷ record { number = 33; consumed = 5; written = 8 }
    ∷ record { number = 33; consumed = 0; written = 0 }
    ∷ []

outcomes : (replay_calls lent begin cs).outcomes ≡ numbers
unfolding replay_calls replays stops_first refusal_with refusal matches end_fits replay_open kind_byte advancing byte begun due back between difference went_back in_nanos advances advance stamp_in known body size_of toy_run sum
outcomes = refl

-- all that they consume, and what is left: ended by 33, with the stamp, nothing of it answered
consumed : (replay_calls lent begin cs).bytes ≡ 16 ∷ 0 ∷ 0 ∷ 0 ∷ 5 ∷ 17 ∷ 0 ∷ 0 ∷ 0x40 ∷ 8 ∷ 17 ∷ 0 ∷ 0 ∷ 0x40 ∷ []
unfolding replay_calls replays stops_first refusal_with refusal matches end_fits replay_open kind_byte advancing byte begun due back between difference went_back in_nanos advances advance stamp_in known body size_of toy_run sum
consumed = refl

held : (replay_calls lent begin cs).held
    ≡ record {
      port = record { state = 1140; carried = []; broken = false };
      replay = record { begun = true; earlier = stamp 0x40000011; stamp_len = 4; stamp = 17 ∷ 0 ∷ 0 ∷ 0x40 ∷ []; answered = 0; ended = 33 };
    }
unfolding replay_calls replays stops_first refusal_with refusal matches end_fits replay_open kind_byte advancing byte begun due back between difference went_back in_nanos advances advance stamp_in known body size_of toy_run sum
held = refl

-- its device is the plain bench's on the trace that the consumed bytes stand for
its_trace : stands_for (16 ∷ 0 ∷ 0 ∷ 0 ∷ 5 ∷ 17 ∷ 0 ∷ 0 ∷ 0x40 ∷ 8 ∷ 17 ∷ 0 ∷ 0 ∷ 0x40 ∷ []) 0
    ≡ 5 ∷ 1 ∷ 0xFF ∷ 0xFF ∷ 0xFF ∷ 0xFF ∷ 1 ∷ 5 ∷ 0 ∷ 0 ∷ 0 ∷ 8 ∷ []
unfolding stands_for place_of place_after trace_from due back between difference went_back in_nanos advances advance stamp_in body size_of
its_trace = refl

plainly : (plain toy 100 (5 ∷ 1 ∷ 0xFF ∷ 0xFF ∷ 0xFF ∷ 0xFF ∷ 1 ∷ 5 ∷ 0 ∷ 0 ∷ 0 ∷ 8 ∷ [])).state ≡ 1140
unfolding plain runs cut cut_in whole known body size_of toy_run sum
plainly = refl

-- the numbers and counts, with no device
no_device : expected cs ≡ numbers
unfolding expected_from foreseen replay place_of place_after replay_open kind_byte advancing byte due back between difference went_back in_nanos advances advance stamp_in known body size_of
no_device = refl

-- a recorder that went back: 32, checked before kind 01; the stamp's bytes are consumed, and kept
abbrev backwards : List Call
backwards = record { input = 16 ∷ 0 ∷ 0 ∷ 0 ∷ 5 ∷ 15 ∷ 0 ∷ 0 ∷ 0 ∷ 1 ∷ []; answers = replicate 16 0 } ∷ []

went_back_lem : (replay_calls lent begin backwards).outcomes ≡ record { number = 32; consumed = 9; written = 8 } ∷ []
unfolding replay_calls replays stops_first refusal_with refusal matches end_fits replay_open kind_byte advancing byte begun due back between difference went_back in_nanos advances advance stamp_in known body size_of toy_run sum
went_back_lem = refl

went_back_left : (replay_calls lent begin backwards).held.replay
    ≡ record { begun = true; earlier = stamp 16; stamp_len = 4; stamp = 15 ∷ 0 ∷ 0 ∷ 0 ∷ []; answered = 0; ended = 32 }
unfolding replay_calls replays stops_first refusal_with refusal matches end_fits replay_open kind_byte advancing byte begun due back between difference went_back in_nanos advances advance stamp_in known body size_of toy_run sum
went_back_left = refl

-- an unknown kind: its stamp's advance comes first, then 31, and the port stays broken; the replay is not ended
unknown : (replay_calls lent begin (record { input = 16 ∷ 0 ∷ 0 ∷ 0 ∷ 5 ∷ 17 ∷ 0 ∷ 0 ∷ 0 ∷ 0x77 ∷ []; answers = replicate 16 0 } ∷ record { input = 5 ∷ []; answers = replicate 16 0 } ∷ [])).outcomes
    ≡ record { number = 31; consumed = 9; written = 16 } ∷ record { number = 31; consumed = 0; written = 0 } ∷ []
unfolding replay_calls replays stops_first refusal_with refusal matches end_fits replay_open kind_byte advancing byte begun due back between difference went_back in_nanos advances advance stamp_in known body size_of toy_run sum
unknown = refl

-- another kind byte after a call that answered an advance and gave 30: 33, and the advance stays answered
abbrev other : List Call
other =
    record { input = 16 ∷ 0 ∷ 0 ∷ 0 ∷ 5 ∷ 17 ∷ 0 ∷ 0 ∷ 0 ∷ 8 ∷ []; answers = replicate 16 0 }
    ∷ record { input = 1 ∷ []; answers = replicate 16 0 }
    ∷ record { input = 8 ∷ []; answers = replicate 16 0 }
    ∷ []

other_outcomes : (replay_calls lent begin other).outcomes
    ≡ record { number = 30; consumed = 9; written = 16 } ∷ record { number = 33; consumed = 0; written = 0 } ∷ record { number = 33; consumed = 0; written = 0 } ∷ []
unfolding replay_calls replays stops_first refusal_with refusal matches end_fits replay_open kind_byte advancing byte begun due back between difference went_back in_nanos advances advance stamp_in known body size_of toy_run sum
other_outcomes = refl

other_left : (replay_calls lent begin other).held.replay
    ≡ record { begun = true; earlier = stamp 16; stamp_len = 4; stamp = 17 ∷ 0 ∷ 0 ∷ 0 ∷ []; answered = 1; ended = 33 }
unfolding replay_calls replays stops_first refusal_with refusal matches end_fits replay_open kind_byte advancing byte begun due back between difference went_back in_nanos advances advance stamp_in known body size_of toy_run sum
other_left = refl

-- an ended replay's number comes before a broken port's 31, and nothing changes
ended_broken : let h : Held (Bench ℕ) = record { port = record { state = 100; carried = []; broken = true }; replay = replay_of (progress (Some (stamp 16)) (15 ∷ 0 ∷ 0 ∷ 0 ∷ []) 0 32) } in replay_calls lent h cs ≡ all_refused 32 h cs
unfolding replay_calls replays stops_first refusal_with refusal matches end_fits begun due back between difference went_back stamp_in
ended_broken = refl

-- ---- states that don't match
-- an advance answered at the start: 5, and nothing changes
unmatched : let h : Held (Bench ℕ) = record { port = port; replay = replay_of (progress None [] 1 0) } in replay_calls lent h cs ≡ all_refused 5 h cs
unfolding replay_calls replays stops_first refusal_with refusal matches end_fits begun due
unmatched = refl

-- five stamp bytes
five_bytes : let h : Held (Bench ℕ) = record { port = port; replay = record { begun = false; earlier = stamp 0; stamp_len = 5; stamp = replicate 4 0; answered = 0; ended = 0 } } in replay_calls lent h cs ≡ all_refused 5 h cs
unfolding replay_calls replays stops_first refusal_with refusal begun
five_bytes = refl

-- more answered than are due
too_many : matches [] (progress (Some (stamp 16)) (17 ∷ 0 ∷ 0 ∷ 0 ∷ []) 2 0) ≡ false
unfolding matches end_fits due back between difference went_back in_nanos advances stamp_in
too_many = refl

-- ended by 33, and the recorder went back; by 32, and it did not; by 31
back_33 : matches [] (progress (Some (stamp 16)) (15 ∷ 0 ∷ 0 ∷ 0 ∷ []) 0 33) ≡ false
unfolding matches end_fits due back between difference went_back stamp_in
back_33 = refl

forward_32 : matches [] (progress (Some (stamp 16)) (17 ∷ 0 ∷ 0 ∷ 0 ∷ []) 0 32) ≡ false
unfolding matches end_fits due back between difference went_back in_nanos advances stamp_in
forward_32 = refl

ended_31 : matches [] (progress (Some (stamp 16)) (17 ∷ 0 ∷ 0 ∷ 0 ∷ []) 0 31) ≡ false
unfolding matches end_fits due back between difference went_back in_nanos advances stamp_in
ended_31 = refl

-- in a record: kind 01, a stamp byte, and no record begun
carried_01 : matches (1 ∷ 0 ∷ []) (progress (Some (stamp 16)) [] 0 0) ≡ false
unfolding matches
carried_01 = refl

carried_stamp : matches (2 ∷ 0 ∷ []) (progress (Some (stamp 16)) (7 ∷ []) 0 0) ≡ false
unfolding matches
carried_stamp = refl

carried_first : matches (2 ∷ 0 ∷ []) fresh ≡ false
unfolding matches
carried_first = refl

-- ---- what the laws over any device ask of one and of its lent memory can be had
abbrev Good : ℕ → Type 0
Good s = eqb s 0 ≡ false

set_up_good : (s : ℕ) → ◌≡◌ {A = ℕ} (when eqb s 0 then 3 else 0) 0 → Good s
set_up_good zero e = absurd (omega arith)
set_up_good (suc s) e = ne_eqb (suc s) 0 (λ q. omega arith)

toy_keeps : (h : Bench ℕ) → Keeps lent h Good
unfolding toy_run
toy_keeps h =
    record {
      good = λ e. set_up_good h.state (refusal_accepted lent h e).0;
      carries = λ e. (refusal_accepted lent h e).1;
      run = λ s r w b g. ne_eqb (s + sum r) 0 (λ e. eqb-false s 0 g (omega arith));
      kept = λ p g b. refl;
      accepted = λ p g b. refusal_none lent p (if_false (eqb p.state 0) 3 0 g) b;
    }

toy_fresh : Fresh lent begin
unfolding refusal begun
toy_fresh = record { port = record { accepted = refl; none_carried = refl; unbroken = refl }; fits = refl; replay = refl }
