-- Q-7, at the bench: the replay keeps for each slot the moment at which it last made it Ready. What a record makes Ready is `readied` (records/MadeReady),
-- and `noted` (readiness/MadeReady) keeps it.
use Rattle.times.specs.declared.Nanos.{Nanos}
use Rattle.std.specs.Prelude.{ℕ, ◌≡◌, List, [], ◌∷◌, Option}
use Rattle.trace.specs.Bench.{cut}
use Rattle.trace.specs.Lent.{Lent, Left}
use Rattle.trace.specs.Calls.{Call, Came, BytesIn, no_call, before}
use Rattle.readiness.specs.declared.Setup.{Setup}
use Rattle.readiness.specs.MadeReady.{noted}
use Rattle.records.specs.State.{State}
use Rattle.records.specs.Device.{device}
use Rattle.records.specs.MadeReady.{readied_in, readied_over}
use Rattle.capture.specs.declared.Replay.{Replay}
use Rattle.capture.specs.Lent.{Held as HeldOver, replays as replays_on, Fresh}
use Rattle.capture.specs.Calls.{replay_calls as replay_calls_on, trace_of}
use Rattle.capture.specs.AsOneTrace.{OneReplay}
use Rattle.capture.specs.Noting.{Noting, kept_over, noting_lent, base_held, base_left, KeptAsFold}
use Rattle.demand3.specs.Held.{Held, state_of}
use Rattle.demand3.specs.Feeding.{bench}
use Rattle.demand3.specs.Compared.{Typed}
use Rattle.replay_rules.specs.Replaying.{HeldWith, replays}

-- a record notes the slots that it makes Ready, each with its moment
abbrev pub notes_in : Setup → (defaults : List ℕ) → State → (bytes : List ℕ) → List (Option Nanos) → List (Option Nanos)
notes_in setup defaults s bytes l = noted (readied_in setup defaults s bytes) l

-- THE BENCH THAT NOTES
abbrev pub noting_bench : Setup → (defaults : List ℕ) → Lent (Noting State (List (Option Nanos))) (Noting Held (List (Option Nanos)))
noting_bench setup defaults = noting_lent (bench setup defaults) (notes_in setup defaults)

-- what goes from call to call: as before, and the moments, one for each slot
abbrev pub HeldNoting : Type 0
HeldNoting = HeldOver (Noting Held (List (Option Nanos)))

abbrev pub held_noting : Held → List (Option Nanos) → Replay → HeldNoting
held_noting h l m = record { port = record { base = h; kept = l }; replay = m }

-- REPLAY, which keeps the moments
abbrev pub replays_noting : Setup → (defaults : List ℕ) → HeldNoting → (input answers : List ℕ) → Left HeldNoting
replays_noting setup defaults h input answers = replays_on (noting_bench setup defaults) h input answers

abbrev pub replay_calls_noting : Setup → (defaults : List ℕ) → HeldNoting → List Call → Came HeldNoting
replay_calls_noting setup defaults h cs = replay_calls_on (noting_bench setup defaults) h cs

pub record Q7Of (setup : Setup) (defaults : List ℕ) (lent : HeldNoting) : Type 0 where
  -- THE KEPT MOMENTS, after every list of replay calls from a fresh start: those of before, and then those of each record of the trace that the calls
  -- stand for, in order
  pub kept : (list : List Call) → BytesIn list → Fresh (noting_bench setup defaults) lent
      → (let came = replay_calls_noting setup defaults lent list in
      came.held.port.kept
      ≡ noted (readied_over setup defaults (state_of lent.port.base) (cut (trace_of (noting_bench setup defaults) came)).wholes) lent.port.kept)
  -- bench and answers are as where nothing is kept, on that trace
  pub fold : (list : List Call) → BytesIn list → Fresh (noting_bench setup defaults) lent
      → KeptAsFold (bench setup defaults) (notes_in setup defaults) lent (replay_calls_noting setup defaults lent list)
  -- all that Q-5 says holds with them; so a refused call, and one after the end, changes no moment
  pub lists : (list : List Call) → BytesIn list → OneReplay (noting_bench setup defaults) lent list (replay_calls_noting setup defaults lent list)
  -- each call is Q-5's call, with the moments beside it
  pub call : (input answers : List ℕ)
      → base_left (bench setup defaults) (notes_in setup defaults) (replays_noting setup defaults lent input answers)
      ≡ replays setup defaults (base_held (bench setup defaults) (notes_in setup defaults) lent) input answers
  -- and a list of calls is replay, call by call, where each gets what the last one left
  pub none : replay_calls_noting setup defaults lent [] ≡ no_call lent
  pub more : (call : Call) (list : List Call)
      → (let left = replays_noting setup defaults lent call.input call.answers in
      replay_calls_noting setup defaults lent (call ∷ list) ≡ before call left (replay_calls_noting setup defaults left.held list))

-- THE STATEMENT: for every set-up and all that is lent
abbrev pub Q7 : Type 0
Q7 = (setup : Setup) (defaults : List ℕ) (lent : HeldNoting) → Typed setup lent.port.base → Q7Of setup defaults lent
