-- Two calls, as their caller sees them.
use Rattle.std.specs.Prelude.{ℕ, ◌≡◌, ◌||◌, List, ◌++◌}
use Rattle.trace.specs.Lent.{Left}
use Rattle.trace.specs.Calls.{Call, Came, no_call, before, gave as gave_number}
use Rattle.bench.specs.declared.Outcome.{Outcome}
use Rattle.readiness.specs.declared.Setup.{Setup}
use Rattle.demand3.specs.Held.{Held, held, carried_of}
use Rattle.demand3.specs.Feeding.{refusal_of, plain_from, plain_bench}
use Rattle.demand3.specs.Compared.{Shows}
use Rattle.two_calls.specs.declared.Both.{Both}

-- a call: its input, and the slice for its answers
abbrev pub lend : (input answers : List ℕ) → Call
lend input answers = record { input = input; answers = answers }

-- a call that gave o, and left its answers
abbrev pub gave : Outcome → (answers : List ℕ) → Held → Left Held
gave o answers h = record { number = o.number; consumed = o.consumed; written = o.written; held = h; answers = answers }

-- all that is held after the calls
abbrev pub held_after : Both → Held
held_after r = held r.port r.statuses r.live r.cells

-- what the two calls come to: consumed bytes, answers, numbers and counts, slices, and all that is held
abbrev pub came : Both → (first second first_answers second_answers : List ℕ) → Came Held
came r first second first_answers second_answers =
    before (lend first first_answers) (gave r.first first_answers (held_after r))
    (before (lend second second_answers) (gave r.second second_answers (held_after r)) (no_call (held_after r)))

-- From memory that isn't refused: the answers are the plain bench's answers to the bytes consumed, after those carried; and what is held
-- shows the plain bench, broken if it was or if a call gave 31
abbrev pub ByPlainBench : Setup → (defaults : List ℕ) → Held → Came Held → Type 0
ByPlainBench setup defaults h z =
    refusal_of setup defaults h ≡ 0
    → (z.answers ≡ (plain_from setup defaults h (carried_of h.port ++ z.bytes)).answers)
    × Shows z.held (plain_bench setup defaults h (carried_of h.port ++ z.bytes) (h.port.broken || gave_number 31 z.outcomes))
