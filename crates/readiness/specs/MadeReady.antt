-- When slots were last made Ready (02, Q-7).
use Rattle.std.specs.Prelude.{ℕ, suc, Bool, ◌||◌, cond, List, [], ◌∷◌, eqb, set, replicate, Option, None, Some}
use Rattle.bits.specs.Bits.{bit, word}
use Rattle.times.specs.declared.Nanos.{Nanos}
use Rattle.readiness.specs.declared.Moments.{Moments}
use Rattle.readiness.specs.Events.{Event}

-- ---- The kept moments
-- the moment that is there, if there is one
abbrev pub moment_in : (made : Bool) → (nanos : ℕ) → Option Nanos
moment_in made t = cond made (Some (record { 0 = t })) None

-- bit i of a word says whether slot i has one
unfoldable pub moments_from : (slot made : ℕ) → List ℕ → List (Option Nanos)
moments_from slot made [] = []
moments_from slot made (t ∷ l) = moment_in (bit made slot) t ∷ moments_from (suc slot) made l

-- a moment for each slot
abbrev pub moments_of : Moments → List (Option Nanos)
moments_of m = moments_from 0 m.made m.at_ns

-- no slot was made Ready
abbrev pub no_moments : Moments
no_moments = record { made = 0; at_ns = replicate 32 0 }

-- a word with bit k set
unfoldable pub with_bit : (w k : ℕ) → ℕ
with_bit w k = word λ i. eqb k i || bit w i

-- the moments with that of a slot
abbrev pub with_moment : (slot : ℕ) → Nanos → Moments → Moments
with_moment slot t m = record { made = with_bit m.made slot; at_ns = set m.at_ns slot t.0 }

-- ---- What is noted
-- when the first of these became Ready, if any did
abbrev pub made_by : List Event → Option Nanos
made_by [] = None
made_by (e ∷ es) = Some e.time

-- THE MOMENT at which a slot becomes Ready is its ready time; the last one is kept
unfoldable pub noted : List Event → List (Option Nanos) → List (Option Nanos)
noted [] l = l
noted (e ∷ es) l = noted es (set l e.slot (Some e.time))
