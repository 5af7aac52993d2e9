-- What stands next in a call's trace, for code that goes record by record.
use Rattle.std.specs.Prelude.{ℕ, ◌-◌, List, length, ltb}
use Rattle.trace.specs.Format.{when◌then◌else◌, Next, complete, incomplete, unknown}

-- how many bytes the record in front has, if it is whole and there is room for its answer; 0 where the call ends
abbrev pub whole_size : (room : ℕ) → Next → ℕ
whole_size room (complete r) = when ltb room 8 then 0 else length r
whole_size room incomplete = 0
whole_size room unknown = 0

-- where it ends: its number
abbrev pub end_number : Next → ℕ
end_number (complete r) = 30
end_number incomplete = 0
end_number unknown = 31

-- and how many of the bytes bs are carried: of a whole record, for which there is no room, all but the last
abbrev pub end_count : (bs : List ℕ) → Next → ℕ
end_count bs (complete r) = length r - 1
end_count bs incomplete = length bs
end_count bs unknown = 0
