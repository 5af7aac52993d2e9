-- EVERY RECORD KEEPS A SOUND STATE SOUND (01, "Numbers given for no", 5), so that no call gives 5 after one that didn't.
use Rattle.std.specs.Prelude.{ℕ, ◌<◌, true, List, ◌≡◌, length}
use Rattle.times.specs.Codes.{allowed}
use Rattle.trace.specs.Format.{Bytes}
use Rattle.readiness.specs.declared.Slot.{Slot}
use Rattle.readiness.specs.declared.Setup.{Setup}
use Rattle.readiness.specs.Status.{entry_of}
use Rattle.records.specs.State.{State}
use Rattle.records.specs.Device.{device}
use Rattle.records.specs.Sound.{Sound, Fitting}

-- no code that is used is above A1Eh
pub record CodesAllowed (e : Slot) : Type 0 where
  pub dl_up : allowed e.dl_up ≡ true
  pub flr : allowed e.flr ≡ true
  pub d3hot : allowed e.d3hot ≡ true

-- a set-up with a bus number of 8 bits, a port ID of 16 bits and allowed codes
pub record SoundSetup (setup : Setup) : Type 0 where
  pub bus : setup.bus < 256
  pub port_id : setup.port_id < 65536
  pub codes : (i : ℕ) → i < setup.slots → CodesAllowed (entry_of setup i)

-- t is sound, and fits the set-up; the numbers of cells, live registers and statuses are those of s
pub record Keeps (setup : Setup) (defaults : List ℕ) (s t : State) : Type 0 where
  pub sound : Sound setup t
  pub fits : Fitting setup defaults t
  pub cells : length t.cells ≡ length s.cells
  pub live : length t.live ≡ length s.live
  pub statuses : length t.statuses ≡ length s.statuses

-- whatever bytes the record has
abbrev pub StaysSound : Setup → (defaults : List ℕ) → State → Type 0
StaysSound setup defaults s =
    SoundSetup setup → Sound setup s → Fitting setup defaults s → (bytes : List ℕ) → Bytes bytes → Keeps setup defaults s ((device setup defaults).run s bytes).state

-- for every set-up, all defaults and any state
abbrev pub EveryStaysSound : Type 0
EveryStaysSound = (setup : Setup) (defaults : List ℕ) (s : State) → StaysSound setup defaults s
