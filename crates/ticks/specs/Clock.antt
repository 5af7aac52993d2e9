-- What the recorder's clock means, exactly: the difference of two stamps, a step back, and the time of a tick.
use Rattle.std.specs.Prelude.{◌≡◌, ℕ, ◌+◌, ◌%◌, ◌^◌, ◌<◌, ◌≤◌, true, false}
use Rattle.ticks.specs.declared.Stamp.{Stamp}
use Rattle.ticks.specs.declared.Ticks.{Ticks}
use Rattle.ticks.specs.Ticks.{difference, went_back, in_nanos}

abbrev pub stamp_of : ℕ → Stamp
stamp_of n = record { 0 = n }

abbrev pub ticks_of : ℕ → Ticks
ticks_of n = record { 0 = n }

-- the stamp after k more ticks: it wraps to 0 at 2^32
abbrev pub ticks_on : Stamp → ℕ → Stamp
ticks_on s k = stamp_of ((s.0 + k) % 2 ^ 32)

-- the number of a stamp has 32 bits
abbrev pub Has32Bits : Stamp → Type 0
Has32Bits s = s.0 < 2 ^ 32

pub record Clock : Type 0 where
  -- THE DIFFERENCE is below 2^32 and leads from the earlier stamp to the later one
  pub below : (earlier stamp : Stamp) → Has32Bits earlier → Has32Bits stamp → (difference earlier stamp).0 < 2 ^ 32
  pub leads : (earlier stamp : Stamp) → Has32Bits earlier → Has32Bits stamp → ticks_on earlier (difference earlier stamp).0 ≡ stamp
  -- it is the only number below 2^32 that does so
  pub only : (earlier stamp : Stamp) → Has32Bits earlier → Has32Bits stamp → (k : ℕ) → k < 2 ^ 32 → ticks_on earlier k ≡ stamp → difference earlier stamp ≡ ticks_of k
  -- so from any stamp to the one k ticks on it is k
  pub forward : (earlier : Stamp) → Has32Bits earlier → (k : ℕ) → k < 2 ^ 32 → difference earlier (ticks_on earlier k) ≡ ticks_of k
  -- and it is 0 exactly if the stamps are equal
  pub none : (s : Stamp) → Has32Bits s → difference s s ≡ ticks_of 0
  pub equal : (earlier stamp : Stamp) → Has32Bits earlier → Has32Bits stamp → difference earlier stamp ≡ ticks_of 0 → earlier ≡ stamp
  -- THE RECORDER WENT BACK exactly if it is 2^31 ticks or more
  pub back : (d : Ticks) → 2 ^ 31 ≤ d.0 → went_back d ≡ true
  pub not_back : (d : Ticks) → d.0 < 2 ^ 31 → went_back d ≡ false
  -- ITS TIME is 4 ns for each tick: below 2^33 ns, if the recorder did not go back
  pub nanos : (d : Ticks) → (in_nanos d).0 ≡ d.0 + d.0 + d.0 + d.0
  pub short : (d : Ticks) → went_back d ≡ false → (in_nanos d).0 < 2 ^ 33
  -- EXAMPLES: from FFFFFFFFh to 00000002h are 3 ticks, 12 ns
  pub wrapped : difference (stamp_of 0xFFFFFFFF) (stamp_of 2) ≡ ticks_of 3
  pub wrapped_nanos : (in_nanos (difference (stamp_of 0xFFFFFFFF) (stamp_of 2))).0 ≡ 12
  pub wrapped_forward : went_back (difference (stamp_of 0xFFFFFFFF) (stamp_of 2)) ≡ false
  -- 2^31 - 1 ticks are a step forward, also around the wrap, and 2^31 ticks a step back
  pub most_forward : went_back (difference (stamp_of 0x00000010) (stamp_of 0x8000000F)) ≡ false
  pub most_wrapped : went_back (difference (stamp_of 0x80000010) (stamp_of 0x0000000F)) ≡ false
  pub least_back : went_back (difference (stamp_of 0x00000010) (stamp_of 0x80000010)) ≡ true
  -- one tick less is a step back of 2^32 - 1 ticks
  pub one_back : difference (stamp_of 0x00000010) (stamp_of 0x0000000F) ≡ ticks_of 0xFFFFFFFF
