-- Where a replay stands: offsets in the file, how much ran, and what ended it early.
use Rattle.std.specs.Prelude.{ℕ, ◌+◌, ◌-◌, ◌%◌, ◌^◌, Bool, ◌&&◌, cond, eqb, ltb, get_or, false, Option, Some, None}
use Rattle.ticks.specs.declared.Stamp.{Stamp}
use Rattle.ticks.specs.Ticks.{difference}
use Rattle.trace.specs.Format.{size_of}
use Rattle.capture.specs.Advances.{stamp_in}
use Rattle.capture.specs.Lent.{earlier_of}
use Rattle.capture_lines.specs.declared.CaptureFault.{CaptureFault}
use Rattle.capture_lines.specs.Stamps.{advance_count}
use Rattle.capture_lines.specs.Faults.{kind_fault, end_fault}
use Rattle.cli_replay.specs.declared.session.ReplaySession.{ReplaySession}

-- how many bytes of a record are in hand
abbrev pub carried_of : ReplaySession → ℕ
carried_of s = s.session.port.carried_len

-- ---- Byte offsets
-- of the stamp that is taken next, or in part
unfoldable pub stamp_offset : ReplaySession → ℕ
stamp_offset s = s.session.offset - s.replay.stamp_len

-- of the kind of the record that is carried, or comes next
unfoldable pub kind_offset : ReplaySession → ℕ
kind_offset s = cond (ltb 0 (carried_of s)) (s.session.offset - carried_of s) ((stamp_offset s + 4) % 2 ^ 64)

-- ---- How much ran
-- each kind byte began a record, and all have run but one that is carried
unfoldable pub records_run : ReplaySession → ℕ
records_run s = cond (ltb 0 (carried_of s)) (s.kinds.begun - 1) s.kinds.begun

-- the other answers are those of advances
unfoldable pub advances_run : ReplaySession → ℕ
advances_run s = s.session.records - records_run s

-- whether the next answer is that of an advance, before this stamp's record
abbrev pub owes_after : Option Stamp → ReplaySession → Stamp → Bool
owes_after None s stamp = false
owes_after (Some earlier) s stamp = eqb (carried_of s) 0 && ltb s.replay.answered (advance_count (difference earlier stamp))

unfoldable pub owes_advance : ReplaySession → Stamp → Bool
owes_advance s stamp = owes_after (earlier_of s.replay) s stamp

-- ---- What ended it early
-- the stamp of what is in hand: of a record, or else the stamp itself
unfoldable pub stamp_in_hand : ReplaySession → Stamp
stamp_in_hand s = cond (ltb 0 (carried_of s)) s.replay.earlier (stamp_in s.replay.stamp)

-- at a kind byte
unfoldable pub fault_at_kind : ReplaySession → Option CaptureFault
fault_at_kind s =
    kind_fault (earlier_of s.replay) (stamp_in s.replay.stamp) s.session.stopped_at (size_of s.session.stopped_at)

-- at the end of the file
unfoldable pub fault_at_end : ReplaySession → Option CaptureFault
fault_at_end s =
    let kind = get_or s.session.port.carried 0 0 in
    end_fault (stamp_in_hand s) s.replay.stamp_len kind (carried_of s) (size_of kind)

-- 31, 32 and 33 come at a kind byte
unfoldable pub fault_of : ReplaySession → Option CaptureFault
fault_of s = cond (ltb 30 s.session.number) (fault_at_kind s) (fault_at_end s)
