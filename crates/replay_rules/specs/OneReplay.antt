-- Q-5, at the bench:
--
--     State the replay against the trace that it stands for, cuts included.
--
-- `AsOneTrace` (capture/AsOneTrace) is the claim, over any device; `bench` is the bench of 01; `replays` is what the contract of replay cites, and the
-- calls of a list have one set-up, as in demand 3.
use Rattle.std.specs.Prelude.{ℕ, ◌≡◌, List, [], ◌∷◌}
use Rattle.times.specs.declared.Nanos.{Nanos}
use Rattle.readiness.specs.declared.Setup.{Setup}
use Rattle.trace.specs.Calls.{Call, BytesIn, no_call, before, gave}
use Rattle.capture.specs.Advances.{advance}
use Rattle.capture.specs.Lent.{Fresh}
use Rattle.capture.specs.Calls.{trace_of}
use Rattle.capture.specs.AsOneTrace.{OneReplay}
use Rattle.demand3.specs.SettingUp.{sets_up}
use Rattle.demand3.specs.Feeding.{bench, plain_bench}
use Rattle.demand3.specs.Compared.{Typed, Shows, advance_by}
use Rattle.replay_rules.specs.Replaying.{HeldWith, held_with, fresh_replay, replays, replay_calls}

pub record Q5Of (setup : Setup) (defaults : List ℕ) (lent : HeldWith) : Type 0 where
  -- EVERY LIST OF REPLAY CALLS, of bytes, is one trace on the plain bench, the trace that the consumed bytes stand for
  pub lists : (list : List Call) → BytesIn list → OneReplay (bench setup defaults) lent list (replay_calls setup defaults lent list)
  -- where a list of calls is replay, call by call, and each gets what the last one left
  pub none : replay_calls setup defaults lent [] ≡ no_call lent
  pub more : (call : Call) (list : List Call)
      → (let left = replays setup defaults lent call.input call.answers in
      replay_calls setup defaults lent (call ∷ list) ≡ before call left (replay_calls setup defaults left.held list))
  -- THE WHOLE STATE, part by part, is the plain bench's on that trace
  pub parts : (list : List Call) → BytesIn list → Fresh (bench setup defaults) lent
      → (let came = replay_calls setup defaults lent list in
      Shows came.held.port (plain_bench setup defaults lent.port (trace_of (bench setup defaults) came) (gave 31 came.outcomes)))
  -- the advances of that trace are records 01
  pub advances : (t : Nanos) → advance t ≡ advance_by t.0
  -- A set-up that isn't refused, with a replay that has taken nothing, is where a replay starts, whatever was lent to it
  pub from_set_up : (sets_up setup defaults lent.port).number ≡ 0 → Fresh (bench setup defaults) (held_with (sets_up setup defaults lent.port).held fresh_replay)

-- THE STATEMENT: for every set-up and all that is lent
abbrev pub Q5 : Type 0
Q5 = (setup : Setup) (defaults : List ℕ) (lent : HeldWith) → Typed setup lent.port → Q5Of setup defaults lent
