-- `text_hex::pack` meets its contract: a turn for each step.
use Rattle.text_hex.proofs.Loop.{passes, room_left, puts, ends_all, ends_early}
use Rattle.text_hex.proofs.pack.Goals as goal
use Rattle.text_hex.proofs.pack.Goals.{in-Passes, in-Puts}

pub returns-in-Stops : goal.returns-in-Stops
returns-in-Stops c = ends_early _ _ _ _ _ _ _ c.loop-i.invariant c.loop-i-test.true c.step_at.ensures _ c.in-Stops.is

pub bounds-room-w : goal.bounds-room-w
bounds-room-w c = room_left _ _ _ _ _ _ _ c.loop-i.invariant c.loop-i-test.true c.step_at.ensures _ _ c.in-Puts.is

pub loop-i-preserved : goal.loop-i-preserved
loop-i-preserved c =
    elim c.match-step_at.branch [
      | in-Passes w ↦ rw (w.room-is, w.p-is, w.w-is) (passes _ _ _ _ _ _ _ c.loop-i.invariant c.loop-i-test.true c.step_at.ensures _ w.in-Passes.is)
      | in-Puts w ↦ rw (w.room-is, w.p-is, w.w-is) (puts _ _ _ _ _ _ _ c.loop-i.invariant c.loop-i-test.true c.step_at.ensures _ _ w.in-Puts.is)
    ]

pub returns : goal.returns
returns c = ends_all _ _ _ _ _ _ _ c.loop-i.invariant c.loop-i-test.false
