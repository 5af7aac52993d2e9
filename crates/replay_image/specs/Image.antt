-- A replay image (case stream, version 2), 12 bytes: how the state of a replay is written, and how it is read. Numbers are low byte first.
use Rattle.std.specs.Prelude.{ℕ, Bool, cond, Option, Some, None, is_some, List, [], ◌∷◌, ◌++◌}
use Rattle.bits.specs.Bits.{one}
use Rattle.bits.specs.Bytes.{byte_at}
use Rattle.ticks.specs.declared.Stamp.{Stamp}
use Rattle.capture.specs.declared.Replay.{Replay}
use Rattle.capture.specs.Lent.{earlier_of, stamp_or0}
use Rattle.state_layout.specs.Numbers.{low_first, number_at, yes}
use Rattle.state_layout.specs.Image.{up_to}
use Rattle.state_layout.specs.Reading.{yes_or_no, bytes_from}

-- ---- What is written
-- a stamp's number; 0 if there is none
abbrev pub number_or0 : Option Stamp → ℕ
number_or0 None = 0
number_or0 (Some stamp) = stamp.0

-- the earlier stamp
abbrev pub earlier_number : Replay → ℕ
earlier_number r = number_or0 (earlier_of r)

-- THE REPLAY: whether there is an earlier stamp; the earlier stamp; count of stamp bytes taken; the stamp bytes, past the count as 0; advances answered; ended
unfoldable pub replay_bytes : Replay → List ℕ
replay_bytes r =
    one (is_some (earlier_of r))
    ∷ low_first 4 (earlier_number r)
    ++ low_first 1 r.stamp_len
    ++ up_to r.stamp_len r.stamp
    ++ r.answered
    ∷ r.ended
    ∷ []

-- ---- What is read
-- A GOOD IMAGE: whether there is an earlier stamp is yes or no; any other byte may be lent
unfoldable pub is_good : List ℕ → Bool
is_good l = yes_or_no 0 l

-- an earlier stamp is ignored if there is none
abbrev pub earlier_in : List ℕ → Option Stamp
earlier_in l = cond (yes 0 l) (Some (record { 0 = number_at 4 1 l })) None

-- so are stamp bytes past the count
abbrev pub stamp_bytes_in : List ℕ → List ℕ
stamp_bytes_in l = up_to (byte_at l 5) (bytes_from 4 6 l)

-- THE REPLAY
unfoldable pub replay_in : List ℕ → Replay
replay_in l =
    record { begun = is_some (earlier_in l); earlier = stamp_or0 (earlier_in l); stamp_len = byte_at l 5; stamp = stamp_bytes_in l; answered = byte_at l 10; ended = byte_at l 11 }
