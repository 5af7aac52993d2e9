-- The FRS messages that arrive in one record, by the rules.
use Rattle.std.specs.Prelude.{ℕ, List, [], ◌∷◌, ◌++◌, Option, Some, None}
use Rattle.messages.specs.declared.Message.{Message}
use Rattle.messages.specs.declared.Message.TheVariants.{Drs, Frs}
use Rattle.frs_queue.specs.declared.Frs as queue_frs
use Rattle.frs_queue.specs.Queue.{no_tally}
use Rattle.readiness.specs.declared.Setup.{Setup}
use Rattle.readiness.specs.Root.{frs_of_drs}
use Rattle.readiness.specs.Settle.{frs_sent}
use Rattle.records.specs.declared.Record.{Record}
use Rattle.records.specs.declared.Record.TheVariants.{Advance, Read, Write, Message as MessageRecord, LinkUp, LinkDown, ColdReset, ReadQueue, RemoveOldest, ClearBits, Control, HardwareSet, ReadBits, NoKind}
use Rattle.records.specs.State.{State, scene_of}
use Rattle.records.specs.Answer.{Effect, refused, does}
use Rattle.records.specs.Run.{effect}

-- an FRS that comes as a message; with a DRS, the port's own if it is signalled so
abbrev pub of_message : Setup → State → Option Message → List queue_frs.Frs
of_message setup s None = []
of_message setup s (Some (Drs id)) = frs_of_drs setup.port_id s.port
of_message setup s (Some (Frs id reason)) = record { id = id; reason = reason } ∷ []

abbrev pub of_record : Setup → State → Record → List queue_frs.Frs
of_record setup s (Advance by) = []
of_record setup s (Read q) = []
of_record setup s (Write q value) = []
of_record setup s (MessageRecord m) = of_message setup s m
of_record setup s LinkUp = []
of_record setup s LinkDown = []
of_record setup s ColdReset = []
of_record setup s ReadQueue = []
of_record setup s RemoveOldest = []
of_record setup s (ClearBits mask) = []
of_record setup s (Control b) = []
of_record setup s (HardwareSet slot word mask) = []
of_record setup s ReadBits = []
of_record setup s NoKind = []

-- then those of the slots that become Ready, and of an owed DRS; none in a record that isn't done
abbrev pub arrivals_in : Setup → List queue_frs.Frs → Effect State → List queue_frs.Frs
arrivals_in setup own (refused completion data_word) = []
arrivals_in setup own (does t tally data_word) = own ++ frs_sent setup (scene_of t no_tally)

unfoldable pub arrivals : Setup → (defaults : List ℕ) → State → Record → List queue_frs.Frs
arrivals setup defaults s r = arrivals_in setup (of_record setup s r) (effect setup defaults s r)
