-- What is asked of a record so that it keeps a sound state sound; what is kept is kept from record to record.
use Prim.Native.Nat.{ℕ, ◌<◌}
use mathlib.Core.Path.{◌≡◌, refl, ◌∙◌}
use mathlib.Core.Bool.{true}
use mathlib.Core.List.{List}
use Rattle.messages.specs.Messages.{frs_allowed}
use Rattle.std.specs.Prelude.{Option, Some, None}
use Rattle.messages.specs.declared.Message.{Message}
use Rattle.messages.specs.declared.Message.TheVariants.{Drs, Frs}
use Rattle.readiness.specs.declared.Setup.{Setup}
use Rattle.records.specs.declared.Record.{Record}
use Rattle.records.specs.declared.Record.TheVariants.{Advance, Read, Write, Message as MessageRecord, LinkUp, LinkDown, ColdReset, ReadQueue, RemoveOldest, ClearBits, Control, HardwareSet, ReadBits, NoKind}
use Rattle.records.specs.State.{State}
use Rattle.records.specs.Sound.{Sound, Fitting}
use Rattle.records.specs.StaysSound.{Keeps}

-- ---- what is asked

-- a message that fits a queue cell: an ID of 16 bits and a reason that an FRS may have
abbrev pub SoundMessage : Option Message → Type 0
SoundMessage None = Unit {0}
SoundMessage (Some (Drs id)) = Unit {0}
SoundMessage (Some (Frs id reason)) = (id < 65536) × (frs_allowed reason ≡ true)

abbrev pub SoundRecord : Record → Type 0
SoundRecord (MessageRecord m) = SoundMessage m
SoundRecord (Advance by) = Unit {0}
SoundRecord (Read q) = Unit {0}
SoundRecord (Write q value) = Unit {0}
SoundRecord LinkUp = Unit {0}
SoundRecord LinkDown = Unit {0}
SoundRecord ColdReset = Unit {0}
SoundRecord ReadQueue = Unit {0}
SoundRecord RemoveOldest = Unit {0}
SoundRecord (ClearBits mask) = Unit {0}
SoundRecord (Control b) = Unit {0}
SoundRecord (HardwareSet slot word mask) = Unit {0}
SoundRecord ReadBits = Unit {0}
SoundRecord NoKind = Unit {0}

-- ---- what is kept

-- a state keeps itself
pub keeps_itself : (setup : Setup) (defaults : List ℕ) (s : State) → Sound setup s → Fitting setup defaults s → Keeps setup defaults s s
keeps_itself setup defaults s h f = record { sound = h; fits = f; cells = refl; live = refl; statuses = refl }

pub keeps_on : (setup : Setup) (defaults : List ℕ) (s t u : State) → Keeps setup defaults s t → Keeps setup defaults t u → Keeps setup defaults s u
keeps_on setup defaults s t u h k =
    record { sound = k.sound; fits = k.fits; cells = k.cells ∙ h.cells; live = k.live ∙ h.live; statuses = k.statuses ∙ h.statuses }
