-- What is claimed of the codes that claims are turned into (02, Q-1), and of the units.
use Rattle.std.specs.Prelude.{◌≡◌, true, ℕ, ◌*◌, ◌≤◌, ◌<◌, Some, None}
use Rattle.times.specs.declared.Code.{Code}
use Rattle.times.specs.declared.Nanos.{Nanos}
use Rattle.times.specs.declared.Unit.{Unit}
use Rattle.times.specs.declared.Unit.TheVariants.{Ns, Us, Ms}
use Rattle.times.specs.Codes.{nanos_of, allowed, greatest_time}
use Rattle.times.specs.Claims.{claimed_nanos}
use Rattle.times.specs.Encoder.{encoded, next_lower}

-- no code with a lower number has the same time
abbrev pub Lowest : Code → Type 0
Lowest c = (d : Code) → d.0 < c.0 → (nanos_of d).0 ≡ (nanos_of c).0 → ⊥

-- the code that 02 asks for: allowed (never above A1Eh), not below the time, of the least such time, and of several the lowest
pub record LeastCovering (t : Nanos) (c : Code) : Type 0 where
  pub is_allowed : allowed c ≡ true
  pub covers : t.0 ≤ (nanos_of c).0
  pub least : (d : Code) → allowed d ≡ true → t.0 ≤ (nanos_of d).0 → (nanos_of c).0 ≤ (nanos_of d).0
  pub lowest : Lowest c

-- d is the code of the next smaller time below that of c: allowed, smaller, with nothing between, and of several the lowest
pub record NextSmaller (c d : Code) : Type 0 where
  pub is_allowed : allowed d ≡ true
  pub smaller : (nanos_of d).0 < (nanos_of c).0
  pub next : (e : Code) → allowed e ≡ true → (nanos_of e).0 < (nanos_of c).0 → (nanos_of e).0 ≤ (nanos_of d).0
  pub lowest : Lowest d

pub record Encodes : Type 0 where
  -- the code given is that one, and that one is given
  pub given : (t : Nanos) (c : Code) → encoded t ≡ Some c → LeastCovering t c
  pub only : (t : Nanos) (c : Code) → LeastCovering t c → encoded t ≡ Some c
  -- there is one exactly if the time is at most 1,006,632,960 ns
  pub some : (t : Nanos) → t.0 ≤ greatest_time → (c : Code) × (encoded t ≡ Some c)
  pub none : (t : Nanos) → greatest_time < t.0 → encoded t ≡ None
  pub none_above : (t : Nanos) → encoded t ≡ None → greatest_time < t.0
  -- a time that an allowed code has comes back as that time
  pub comes_back : (d c : Code) → allowed d ≡ true → encoded (nanos_of d) ≡ Some c → (nanos_of c).0 ≡ (nanos_of d).0
  -- a longer claim has no shorter time
  pub monotone : (t u : Nanos) (c d : Code) → t.0 ≤ u.0 → encoded t ≡ Some c → encoded u ≡ Some d → (nanos_of c).0 ≤ (nanos_of d).0
  -- the next lower code of a code that is given is that of the next smaller time, and there is none only below 0
  pub lower_is : (t : Nanos) (c d : Code) → encoded t ≡ Some c → next_lower c ≡ Some d → NextSmaller c d
  pub lower_none : (t : Nanos) (c : Code) → encoded t ≡ Some c → next_lower c ≡ None → (nanos_of c).0 ≡ 0

-- the nanoseconds of a claim
abbrev pub nanos_for : ℕ → Unit → ℕ
nanos_for n unit = (claimed_nanos (record { number = n; unit = unit })).0

-- a number of up to ten digits is never cut short; 1,000 ns are 1 us, and 1,000 us are 1 ms
pub record Units : Type 0 where
  pub ns : (n : ℕ) → n ≤ 9999999999 → nanos_for n Ns ≡ n
  pub us : (n : ℕ) → n ≤ 9999999999 → nanos_for n Us ≡ 1000 * n
  pub ms : (n : ℕ) → n ≤ 9999999999 → nanos_for n Ms ≡ 1000000 * n
  pub ns_in_us : (n : ℕ) → 1000 * n ≤ 9999999999 → claimed_nanos (record { number = 1000 * n; unit = Ns }) ≡ claimed_nanos (record { number = n; unit = Us })
  pub us_in_ms : (n : ℕ) → 1000 * n ≤ 9999999999 → claimed_nanos (record { number = 1000 * n; unit = Us }) ≡ claimed_nanos (record { number = n; unit = Ms })
