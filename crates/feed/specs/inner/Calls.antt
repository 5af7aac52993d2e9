-- A call by its parts: how it begins, the record that it completes, and what it gives where it completes none.
use Rattle.std.specs.Prelude.{ℕ, ◌-◌, ◌*◌, ◌≤◌, ◌<◌, ◌≡◌, ◌≢◌, List, ◌++◌, length, take, eqb, Option, Some, None, Result, Ok, Err}
use Rattle.trace.specs.Format.{pad, next}
use Rattle.trace.specs.inner.Gathered.{whole_size, end_number, end_count}
use Rattle.trace.specs.Lent.{refusal_or31}
use Rattle.trace.specs.Exactly.{joined_up, AllWhole}
use Rattle.readiness.specs.declared.Setup.{Setup}
use Rattle.readiness.specs.inner.Phases.{notes}
use Rattle.records.specs.declared.Port.{Port}
use Rattle.records.specs.State.{State}
use Rattle.records.specs.MadeReady.{readied_over}
use Rattle.demand3.specs.Held.{Held, carried_of}
use Rattle.demand3.specs.Feeding.{bench}
use Rattle.feed.specs.declared.FedPort.{FedPort}

-- no number applies before a byte is looked at: none of 1 to 5, and the port is not broken
abbrev pub NotRefused : Setup → (defaults : List ℕ) → Held → Type 0
NotRefused setup defaults h = refusal_or31 (bench setup defaults) h ≡ 0

-- the first record of a call's trace is whole, has so many bytes, and there is room for its answer
abbrev pub Completes : Port → (input : List ℕ) → (room size : ℕ) → Type 0
Completes port input room size = (0 < size) × (size ≡ whole_size room (next (carried_of port ++ input)))

-- what a call gives that completes no record
abbrev pub carries_on : Port → (input : List ℕ) → FedPort
carries_on port input =
    let rest = carried_of port ++ input in
    let number = end_number (next rest) in
    let count = end_count rest (next rest) in
    record {
      number = number;
      consumed = count - port.carried_len;
      written = 0;
      port = record { dev = port.dev; carried = pad 16 (take count rest); carried_len = count; broken = eqb number 31 };
    }

-- how a call begins: the first number for which it is refused; else the size of the first record that it completes, if it completes one
abbrev pub Opens : Setup → (defaults : List ℕ) → Held → (input : List ℕ) → (room : ℕ) → Result (Option ℕ) ℕ → Type 0
Opens setup defaults h input room (Err number) = (number ≡ refusal_or31 (bench setup defaults) h) × (number ≢ 0)
Opens setup defaults h input room (Ok None) = NotRefused setup defaults h × (whole_size room (next (carried_of h.port ++ input)) ≡ 0)
Opens setup defaults h input room (Ok (Some size)) = NotRefused setup defaults h × Completes h.port input room size

-- the moments after a call on whole records, with room for all their answers: those of before, with the ready times of all slots that they make Ready
abbrev pub NotesRecords : Setup → (defaults : List ℕ) → State → (input : List ℕ) → (room : ℕ) → (moments after : List ℕ) → Type 0
NotesRecords setup defaults s input room moments after =
    (records : List (List ℕ)) → AllWhole records → input ≡ joined_up records → 8 * length records ≤ room → after ≡ notes (readied_over setup defaults s records) moments
