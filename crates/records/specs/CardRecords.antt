-- Records that touch every slot: advance clock, link up, link down, cold reset (01, "Trace records", "Readiness").
use Rattle.std.specs.Prelude.{ℕ, ◌+◌, cond, List, leb}
use Rattle.times.specs.declared.Nanos.{Nanos}
use Rattle.times.specs.Moments.{sum_of, clock_end}
use Rattle.config_space.specs.Functions.{link_reset_all, cold_reset}
use Rattle.frs_queue.specs.Queue.{no_tally}
use Rattle.readiness.specs.declared.Setup.{Setup}
use Rattle.readiness.specs.Fields.{with_clock}
use Rattle.readiness.specs.Status.{started_by_link_up, after_link_up, stopped_by_reset, after_link_down, after_cold_reset}
use Rattle.records.specs.declared.Completion.TheVariants as completion
use Rattle.records.specs.State.{State, state, slot_kind}
use Rattle.records.specs.Answer.{Effect, refused, does}

-- advance clock; 22 if the clock would pass 10^15
unfoldable pub advance_effect : Nanos → State → Effect State
advance_effect by s =
    let t = sum_of s.port.clock by in
    cond (leb t.0 clock_end) (does (state (with_clock s.port t) s.statuses s.live s.cells) no_tally 0) (refused completion.ClockEnd 0)

-- link up: every slot Pending until c + DL Up Time, a DRS is owed; 23 when up
unfoldable pub link_up_effect : Setup → State → Effect State
link_up_effect setup s =
    cond s.port.link (refused completion.WrongState 0)
    (does (state (after_link_up s.port) (started_by_link_up setup s.port s.statuses) s.live s.cells) no_tally 0)

-- link down: each slot's registers take their link_down_lem reset; 23 when down
unfoldable pub link_down_effect : Setup → (defaults : List ℕ) → State → Effect State
link_down_effect setup defaults s =
    cond s.port.link
    (does (state (after_link_down s.port) (stopped_by_reset setup s.port s.statuses) (link_reset_all (slot_kind setup) s.live defaults) s.cells) no_tally 0)
    (refused completion.WrongState 0)

-- cold reset: live registers equal the defaults
unfoldable pub cold_reset_effect : Setup → (defaults : List ℕ) → State → Effect State
cold_reset_effect setup defaults s =
    does (state (after_cold_reset s.port) (stopped_by_reset setup s.port s.statuses) (cold_reset s.live defaults) s.cells) no_tally 0
