-- How a record takes its turn.
use Rattle.std.specs.Prelude.{ℕ, ◌<◌, ◌≡◌, Bool, true, List, Some}
use Rattle.times.specs.declared.Nanos.{Nanos}
use Rattle.times.specs.Moments.{sum_of}
use Rattle.messages.specs.declared.Message.TheVariants as message
use Rattle.records.specs.declared.Record.{Record}
use Rattle.records.specs.declared.Record.TheVariants as variants
use Rattle.records.specs.declared.Part.TheVariants.{PortAlone, WholeCard}
use Rattle.readiness.specs.declared.Setup.{Setup}
use Rattle.records.specs.State.{State}
use Rattle.records.specs.declared.Reply.{Reply}
use Rattle.records.specs.Run.{run}
use Rattle.records.specs.MadeReady.{readied}
use Rattle.readiness.specs.inner.Phases.{notes}
use Rattle.records.specs.Sound.{Sound, Fitting}
use Rattle.records.specs.inner.Parts.{part_of}
use Rattle.feed.specs.declared.Turn.{Turn}
use Rattle.feed.specs.declared.Turn.TheVariants as turn

-- what holds of a record that takes its turn so, with no slot that becomes Ready before `earliest`
abbrev pub Takes : (slots : ℕ) → (earliest clock : Nanos) → (link : Bool) → Record → Turn → Type 0
Takes slots earliest clock link r (turn.Read q) = (r ≡ variants.Read q) × (q.slot < slots)
Takes slots earliest clock link r (turn.Write q value) = (r ≡ variants.Write q value) × (q.slot < slots)
Takes slots earliest clock link r (turn.Hardware i word mask) = (r ≡ variants.HardwareSet i word mask) × (i < slots)
Takes slots earliest clock link r turn.Port = (setup : Setup) → setup.slots ≡ slots → part_of setup r ≡ PortAlone
Takes slots earliest clock link r (turn.Frs f) = (r ≡ variants.Message (Some (message.Frs f.id f.reason))) × (link ≡ true)
Takes slots earliest clock link r (turn.Clock by) = (r ≡ variants.Advance by) × ((sum_of clock by).0 < earliest.0)
Takes slots earliest clock link r turn.Card = (setup : Setup) → setup.slots ≡ slots → part_of setup r ≡ WholeCard

-- what a record's turn leaves, and its answer, are those of its run
pub record Turned (setup : Setup) (defaults : List ℕ) (s : State) (r : Record) (t : State) (a : Reply) : Type 0 where
  pub state : t ≡ (run setup defaults s r).after
  pub reply : a ≡ (run setup defaults s r).reply

-- so it is in every sound state
abbrev pub TakesTurn : (setup : Setup) (defaults : List ℕ) (s : State) (r : Record) (t : State) (a : Reply) → Type 0
TakesTurn setup defaults s r t a = Sound setup s → Fitting setup defaults s → Turned setup defaults s r t a

-- and the moments that it leaves are those of before, with the ready times of the slots that the record makes Ready
abbrev pub NotesTurn : (setup : Setup) (defaults : List ℕ) (s : State) (r : Record) (moments after : List ℕ) → Type 0
NotesTurn setup defaults s r moments after = Sound setup s → Fitting setup defaults s → after ≡ notes (readied setup defaults s r) moments
