-- What happens of what is left to happen once a record has done its part.
use Rattle.std.specs.Prelude.{ℕ, List, [], take}
use Rattle.frs_queue.specs.Queue.{no_tally}
use Rattle.readiness.specs.declared.Setup.{Setup}
use Rattle.readiness.specs.declared.Status.{Status}
use Rattle.readiness.specs.declared.Dev.{Dev}
use Rattle.readiness.specs.Settle.{scene}
use Rattle.readiness.specs.inner.Phases.{statuses_in}
use Rattle.records.specs.State.{state}
use Rattle.happenings.specs.Happenings.{Happening, settling, by_message}
use Rattle.left_to_happen.specs.declared.Left.{Left}
use Rattle.left_to_happen.specs.declared.Left.TheVariants.{Nothing, Settling, Arriving}
use Rattle.left_to_happen.specs.declared.LeftToHappen.{LeftToHappen}

-- with the device and the statuses as the record's own part leaves them; a message as the record finds them
abbrev pub happens_of : Setup → (cells : List ℕ) → Dev → List Status → Left → List Happening
happens_of setup cells dev l Nothing = []
happens_of setup cells dev l Settling = settling setup (scene l cells (record { dev = dev; tally = no_tally }))
happens_of setup cells dev l (Arriving m) = by_message setup (state dev l [] cells) m

-- the first numbers are those of the card's slots
unfoldable pub left_happens : Setup → (cells : List ℕ) → LeftToHappen → List Happening
left_happens setup cells x = happens_of setup cells x.dev (take setup.slots (statuses_in x.phases)) x.left
