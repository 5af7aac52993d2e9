-- The moments that an accepted file gives, slot by slot.
use Rattle.times.specs.declared.Nanos.{Nanos}
use Rattle.std.specs.Prelude.{ℕ, ◌*◌, ◌<◌, ◌≡◌, true, false, cond, ◌↔◌, List, [], ◌∷◌, eqb, get_or, Option, None, Some}
use Rattle.times.specs.declared.Unit.TheVariants.{Ns, Us, Ms}
use Rattle.times.specs.declared.ClaimedTime.{ClaimedTime}
use Rattle.times.specs.Claims.{nanos_in, claimed_nanos}
use Rattle.readiness.specs.MadeReady.{moments_of}
use Rattle.seen_grammar.specs.declared.SeenLine.{SeenLine}
use Rattle.seen_grammar.specs.Grammar.{File}
use Rattle.seen_grammar.specs.Reading.{is_too_long, seen_of}
use Rattle.seen_grammar.specs.Exactly.{AllFit}

-- when a slot was seen by these lines, or as before them
unfoldable pub seen_by : List SeenLine → (slot : ℕ) → (before : Option Nanos) → Option Nanos
seen_by [] slot before = before
seen_by (l ∷ ls) slot before = seen_by ls slot (cond (eqb l.slot slot) (Some (claimed_nanos l.time)) before)

pub record Results : Type 0 where
  -- a slot has the time of the line that names it, and none without such a line
  pub moments : (text : List ℕ) (slots : ℕ) (ls : List SeenLine) → File text ls → AllFit slots [] ls → (slot : ℕ) → slot < 32
      → get_or (moments_of (seen_of text slots).times) slot None ≡ seen_by ls slot None
  -- a time is its number in its unit, in nanoseconds, and too long exactly if that is above 2 · 10^15
  pub exact : (c : ClaimedTime) → is_too_long c ≡ false → (claimed_nanos c).0 ≡ c.number * nanos_in c.unit
  pub too_long : (c : ClaimedTime) → (is_too_long c ≡ true) ↔ (2000000000000000 < c.number * nanos_in c.unit)
  -- 1 us is 1,000 ns, and 1 ms 1,000,000
  pub in_ns : nanos_in Ns ≡ 1
  pub in_us : nanos_in Us ≡ 1000
  pub in_ms : nanos_in Ms ≡ 1000000
