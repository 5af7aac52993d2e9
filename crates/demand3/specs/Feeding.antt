-- Feed, and lists of calls of it (01, "Numbers given for no", "One trace").
use Rattle.std.specs.Prelude.{ℕ, Bool, List}
use Rattle.trace.specs.Bench.{Bench, Benched, plain}
use Rattle.trace.specs.Lent.{Lent, Left, refusal, feeds as feeds_on}
use Rattle.trace.specs.Calls.{Call, Came, bench_after, calls as calls_on}
use Rattle.readiness.specs.declared.Setup.{Setup}
use Rattle.records.specs.State.{State}
use Rattle.records.specs.Device.{device}
use Rattle.demand3.specs.Held.{Held, state_of, bench_of, held_of}
use Rattle.demand3.specs.Refusals.{set_up_refusal, sound_held}

-- THE BENCH as it is lent, at a set-up and its defaults
abbrev pub bench : Setup → (defaults : List ℕ) → Lent State Held
bench setup defaults =
    record { device = device setup defaults; set_up = set_up_refusal setup defaults; sound = sound_held setup; view = bench_of; keep = held_of }

-- 0, or the first of 1 to 5 that applies
abbrev pub refusal_of : Setup → (defaults : List ℕ) → Held → ℕ
refusal_of setup defaults h = refusal (bench setup defaults) h

-- FEED: a call on what is held, an input and a slice for answers
abbrev pub feeds : Setup → (defaults : List ℕ) → Held → (input answers : List ℕ) → Left Held
feeds setup defaults h input answers = feeds_on (bench setup defaults) h input answers

-- A LIST OF CALLS, each of which gets what the last one left
abbrev pub calls : Setup → (defaults : List ℕ) → Held → List Call → Came Held
calls setup defaults h cs = calls_on (bench setup defaults) h cs

-- THE PLAIN BENCH, started in the state that h shows, on a trace
abbrev pub plain_from : Setup → (defaults : List ℕ) → Held → (trace : List ℕ) → Benched State
plain_from setup defaults h trace = plain (device setup defaults) (state_of h) trace

-- its state after the trace, broken or not
abbrev pub plain_bench : Setup → (defaults : List ℕ) → Held → (trace : List ℕ) → (broken : Bool) → Bench State
plain_bench setup defaults h trace broken = bench_after (device setup defaults) (state_of h) trace broken
