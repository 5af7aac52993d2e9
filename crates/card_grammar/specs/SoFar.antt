-- What lines have named, as a set-up and a queue length, and a refusal with these.
use Rattle.std.specs.Prelude.{ℕ, List, map, Option, unwrap_or}
use Rattle.readiness.specs.declared.Slot.{Slot}
use Rattle.readiness.specs.declared.Setup.{Setup}
use Rattle.readiness.specs.Blank.{blank_slot}
use Rattle.card_grammar.specs.declared.Reason.{Reason}
use Rattle.card_grammar.specs.declared.Named.{Named}
use Rattle.card_grammar.specs.declared.CardError.{CardError}

-- a slot not named has codes 000 and no FRS
unfoldable pub entries_from : List (Option Slot) → List Slot
entries_from entries = map (λ e. unwrap_or e blank_slot) entries

-- the set-up as far as it is named: slots, bus and port are 0 where they aren't
unfoldable pub setup_from : Named → Setup
setup_from named =
    record { slots = unwrap_or named.slots 0; entries = entries_from named.entries; bus = unwrap_or named.bus 0; port_id = unwrap_or named.port 0 }

-- the queue length, 0 where it isn't named
abbrev pub queue_from : Named → ℕ
queue_from named = unwrap_or named.queue 0

-- a refusal at a line, with what was named before it
abbrev pub refusal : (line : ℕ) → Reason → Named → CardError
refusal line why named = record { line = line; reason = why; setup = setup_from named; queue = queue_from named }
