-- The entries on a port and an array of statuses held by value, of which the first n are lent.
use Rattle.std.specs.Prelude.{ℕ, List, ◌++◌, take, drop}
use Rattle.trace.specs.Lent.{Left}
use Rattle.readiness.specs.declared.Setup.{Setup}
use Rattle.demand3.specs.Held.{Held, held}
use Rattle.demand3.specs.SettingUp.{Prepared, sets_up}
use Rattle.demand3.specs.Feeding.{feeds}

-- only the first n statuses are lent
abbrev pub first_of : ℕ → Held → Held
first_of n h = held h.port (take n h.statuses) h.live h.cells

-- what was left of those, and the statuses past them as they were
abbrev pub and_rest : ℕ → (before after : Held) → Held
and_rest n before after = held after.port (after.statuses ++ drop n before.statuses) after.live after.cells

-- SET-UP with the first n statuses
abbrev pub sets_up_first : ℕ → Setup → (defaults : List ℕ) → Held → Prepared
sets_up_first n setup defaults h =
    let x = sets_up setup defaults (first_of n h) in
    record { number = x.number; held = and_rest n h x.held }

-- FEED with the first n statuses
abbrev pub feeds_first : ℕ → Setup → (defaults : List ℕ) → Held → (input answers : List ℕ) → Left Held
feeds_first n setup defaults h input answers =
    let x = feeds setup defaults (first_of n h) input answers in
    record { number = x.number; consumed = x.consumed; written = x.written; held = and_rest n h x.held; answers = x.answers }
