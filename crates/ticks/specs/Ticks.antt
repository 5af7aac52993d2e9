-- The recorder's clock (02, Q-5): "a 32-bit tick count, 4 ns a tick, that wraps to 0".
use Rattle.std.specs.Prelude.{ℕ, ◌+◌, ◌-◌, ◌*◌, ◌%◌, Bool, nat_le}
use Rattle.times.specs.declared.Nanos.{Nanos}
use Rattle.ticks.specs.declared.Stamp.{Stamp}
use Rattle.ticks.specs.declared.Ticks.{Ticks}

-- 2^32: the count wraps to 0 here
abbrev pub wraps : ℕ
wraps = 4294967296

-- from one stamp to the next, wrapped
unfoldable pub difference : (earlier stamp : Stamp) → Ticks
difference earlier stamp = record { 0 = (stamp.0 + (wraps - earlier.0)) % wraps }

-- "a difference of 2^31 ticks or more means the recorder went back"
unfoldable pub went_back : Ticks → Bool
went_back d = nat_le 2147483648 d.0

-- 4 ns a tick
unfoldable pub in_nanos : Ticks → Nanos
in_nanos d = record { 0 = 4 * d.0 }
