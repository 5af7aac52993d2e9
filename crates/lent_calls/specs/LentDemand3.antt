-- DEMAND 3, for the entries over lent memory:
--
--     For every list of feed calls (refused ones, any cuts, any room) from a sound, unbroken port with nothing carried:
--     joined answers, each call's number and counts, and the whole state are those of the plain bench on the joined
--     consumed bytes.
--
-- The calls were made one after the other on the same memory: of each all that is known is the contract of `bench::feed`, at
-- what is lent in and what is there at exit (Chain.Chained). Two advances are demand3/Demand3's, on the same plain bench.
use Rattle.std.specs.Prelude.{ℕ, List}
use Rattle.trace.specs.Lent.{Start}
use Rattle.trace.specs.Calls.{BytesIn, gave}
use Rattle.trace.specs.OneTrace.{OneTrace}
use Rattle.readiness.specs.declared.Status.{Status}
use Rattle.readiness.specs.declared.Setup.{Setup}
use Rattle.records.specs.declared.Port.{Port}
use Rattle.demand3.specs.Held.{Held, held}
use Rattle.demand3.specs.Feeding.{bench, plain_bench}
use Rattle.demand3.specs.Compared.{Typed, Shows}
use Rattle.lent_calls.specs.Chain.{LentCall, all_lent_to, came_to, Chained, WasSetUp}

pub record LentDemand3Of (setup : Setup) (defaults : List ℕ) (lent : Held) : Type 0 where
  -- EVERY LIST OF FEED CALLS, of bytes, is one trace on the plain bench
  pub lists : (made : List LentCall) → BytesIn (all_lent_to made) → Chained setup defaults lent made
      → OneTrace (bench setup defaults) lent (all_lent_to made) (came_to lent made)
  -- THE WHOLE STATE, part by part
  pub parts : (made : List LentCall) → BytesIn (all_lent_to made) → Chained setup defaults lent made → Start (bench setup defaults) lent
      → (let came = came_to lent made in Shows came.held (plain_bench setup defaults lent came.bytes (gave 31 came.outcomes)))
  -- A call of `bench::set_up` that gave 0 leaves a sound, unbroken port with nothing carried, whatever was lent to it
  pub from_set_up : (port : Port) (statuses : List Status) (live cells : List ℕ) → WasSetUp setup defaults lent 0 port statuses live cells
      → Start (bench setup defaults) (held port statuses live cells)

-- THE STATEMENT: for every set-up and all that is lent
abbrev pub LentDemand3 : Type 0
LentDemand3 = (setup : Setup) (defaults : List ℕ) (lent : Held) → Typed setup lent → LentDemand3Of setup defaults lent
