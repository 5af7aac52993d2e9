-- A list of replay calls, each of which gets what the last one left.
use Rattle.std.specs.Prelude.{ℕ, refl, Bool, false, List, [], ◌∷◌, ◌++◌, length, take, replicate, eqb}
use Rattle.trace.specs.Format.{when◌then◌else◌}
use Rattle.trace.specs.Bench.{Device, Benched, plain}
use Rattle.trace.specs.Outcome.{Outcome}
use Rattle.trace.specs.Lent.{Lent}
use Rattle.trace.specs.Calls.{Call, Came, no_call, before}
use Rattle.capture.specs.Capture.{place_of, stands_for}
use Rattle.capture.specs.Replay.{Replayed, replay}
use Rattle.capture.specs.Lent.{Held, bench_in, replays}

module _ {S H : Type 0} (L : Lent S H) where
  -- THE CALLS
  unfoldable pub replay_calls : Held H → List Call → Came (Held H)
  replay_calls h [] = no_call h
  replay_calls h (c ∷ cs) = let x = replays L h c.input c.answers in before c x (replay_calls x.held cs)

  -- THE TRACE that they stand for: their consumed bytes, joined, with the advances answered of the stamp in hand
  abbrev pub trace_of : Came (Held H) → List ℕ
  trace_of z = stands_for z.bytes z.held.replay.answered

  -- the plain bench on it, started in the state that h shows
  abbrev pub plain_on : Held H → Came (Held H) → Benched S
  plain_on h z = plain L.device (bench_in L h).state (trace_of z)

-- ---- Each call's number and counts, with no device
-- records that do nothing, and are answered with eight zeros
abbrev pub blank : Device (Unit {0})
blank = record { run = λ s r. record { state = tt; answer = replicate 8 0 }; eight = λ s r. refl }

abbrev pub outcome_in : {S : Type 0} → Replayed S → Outcome
outcome_in f = record { number = f.number; consumed = f.consumed; written = length f.answers }

-- one call on the blank bench, after the consumed bytes `done`, with so many advances of the stamp in hand answered
unfoldable pub foreseen : (done : List ℕ) → (answered ended : ℕ) → (broken : Bool) → Call → Replayed (Unit {0})
foreseen done answered ended broken c =
    let p = place_of done in
    replay blank (record { state = tt; carried = p.carried; broken = broken })
    (record { earlier = p.earlier; stamp = p.stamp; answered = answered; ended = ended }) (length c.answers) c.input

-- EACH CALL'S OUTCOME, from its input, its room, and what was consumed, answered and given before it
unfoldable pub expected_from : (done : List ℕ) → (answered ended : ℕ) → (broken : Bool) → List Call → List Outcome
expected_from done answered ended broken [] = []
expected_from done answered ended broken (c ∷ cs) =
    let f = foreseen done answered ended broken c in
    outcome_in f ∷ expected_from (done ++ take f.consumed c.input) f.progress.answered f.progress.ended f.bench.broken cs

abbrev pub expected : List Call → List Outcome
expected cs = expected_from [] 0 0 false cs

-- 0, or the number, 32 or 33, that ended the replay
abbrev pub ended_by : List Outcome → ℕ
ended_by [] = 0
ended_by (o ∷ os) = when eqb o.number 32 then 32 else (when eqb o.number 33 then 33 else ended_by os)
