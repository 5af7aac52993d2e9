-- What an accepted sheet leaves: just the named slots' codes changed, whatever the order of its lines.
use Rattle.std.specs.Prelude.{ℕ, ◌≡◌, true, false, List, [], length, get_or}
use Rattle.bits.specs.Orders.{Among, Reordered}
use Rattle.times.specs.Codes.{nanos_of, allowed}
use Rattle.times.specs.Claims.{claimed_nanos}
use Rattle.times.specs.Encodes.{LeastCovering}
use Rattle.readiness.specs.declared.Slot.{Slot}
use Rattle.readiness.specs.declared.Setup.{Setup}
use Rattle.readiness.specs.Blank.{blank_slot}
use Rattle.sheet_grammar.specs.declared.SheetLine.{SheetLine}
use Rattle.sheet_grammar.specs.Grammar.{Sheet}
use Rattle.sheet_grammar.specs.Reading.{sheet_of}
use Rattle.sheet_grammar.specs.Exactly.{named_by, AllFit}

-- the entry of a slot
abbrev pub entry_of : Setup → ℕ → Slot
entry_of setup slot = get_or setup.entries slot blank_slot

-- each code of an entry is that of the least time that isn't below the claim, of several the lowest; else it is as it was
pub record Coded (l : SheetLine) (before after : Slot) : Type 0 where
  pub reset : LeastCovering (claimed_nanos l.reset) after.reset
  pub dl_up : LeastCovering (claimed_nanos l.dl_up) after.dl_up
  pub flr : LeastCovering (claimed_nanos l.flr) after.flr
  pub d3hot : LeastCovering (claimed_nanos l.d3hot) after.d3hot
  pub frs : after.sends_frs ≡ before.sends_frs

-- a set-up that differs in entries alone
pub record SameBut (before after : Setup) : Type 0 where
  pub slots : after.slots ≡ before.slots
  pub bus : after.bus ≡ before.bus
  pub port : after.port_id ≡ before.port_id
  pub entries : length after.entries ≡ length before.entries

-- four times claimed that are just those of an entry's codes
pub record Writes (l : SheetLine) (s : Slot) : Type 0 where
  pub reset : claimed_nanos l.reset ≡ nanos_of s.reset
  pub dl_up : claimed_nanos l.dl_up ≡ nanos_of s.dl_up
  pub flr : claimed_nanos l.flr ≡ nanos_of s.flr
  pub d3hot : claimed_nanos l.d3hot ≡ nanos_of s.d3hot

-- an entry without a code above A1Eh
pub record Allowed (s : Slot) : Type 0 where
  pub reset : allowed s.reset ≡ true
  pub dl_up : allowed s.dl_up ≡ true
  pub flr : allowed s.flr ≡ true
  pub d3hot : allowed s.d3hot ≡ true

-- two entries whose codes have the same times
pub record SameTimes (s t : Slot) : Type 0 where
  pub reset : nanos_of s.reset ≡ nanos_of t.reset
  pub dl_up : nanos_of s.dl_up ≡ nanos_of t.dl_up
  pub flr : nanos_of s.flr ≡ nanos_of t.flr
  pub d3hot : nanos_of s.d3hot ≡ nanos_of t.d3hot

-- what holds of an accepted sheet on a set-up of 32 entries
pub record Results (text : List ℕ) (ls : List SheetLine) (setup : Setup) : Type 0 where
  -- a slot that a line names has the codes of that line's times
  pub named : (l : SheetLine) → Among l ls → Coded l (entry_of setup l.slot) (entry_of (sheet_of text setup).setup l.slot)
  -- a slot not named keeps its codes
  pub kept : (slot : ℕ) → named_by ls slot ≡ false → entry_of (sheet_of text setup).setup slot ≡ entry_of setup slot
  pub others : SameBut setup (sheet_of text setup).setup
  -- exact times read back as those times
  pub comes_back : (l : SheetLine) (s : Slot) → Among l ls → Allowed s → Writes l s → SameTimes (entry_of (sheet_of text setup).setup l.slot) s
  -- the lines in another order, and anyhow written, give the same
  pub any_order : (other : List ℕ) (ms : List SheetLine) → Sheet other ms → Reordered ls ms → sheet_of other setup ≡ sheet_of text setup

-- for every text that is accepted
abbrev pub Accepts : Type 0
Accepts =
    (text : List ℕ) (ls : List SheetLine) (setup : Setup) → Sheet text ls → AllFit setup [] ls → length setup.entries ≡ 32
    → Results text ls setup
