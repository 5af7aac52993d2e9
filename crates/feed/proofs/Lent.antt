-- Laws of statuses that are lent as numbers, three to a status.
use Prim.Native.Nat.{ℕ, ◌*◌, ◌≤◌}
use mathlib.Core.Path.{◌≡◌, refl, ap, sym, ◌∙◌}
use mathlib.Core.List.{List, ◌++◌}
use native.Mathlib.Omega.{arith}
use lib.ListN.{length, take, length-append}
use lib.Seq.{take_at}
use Rattle.readiness.specs.declared.Status.{Status}
use Rattle.readiness.specs.declared.Setup.{Setup}
use Rattle.readiness.specs.inner.Phases.{statuses_in}
use Rattle.readiness.proofs.PhaseNumbers.{statuses_length, statuses_take}
use Rattle.trace.specs.Lent.{Left}
use Rattle.records.specs.declared.Port.{Port}
use Rattle.feed.specs.declared.FedPort.{FedPort}
use Rattle.demand3.specs.Held.{Held, held, lent_of}
use Rattle.demand3.specs.Feeding.{feeds}
use Rattle.set_up.specs.Lent.{held_in}
use Rattle.feed.specs.Left.{left_in_place}
use Rattle.set_up.proofs.Lent.{lent-take}

-- the first n
pub lent-numbers : (n k : ℕ) (l : List ℕ) → k ≡ 4 * n → k ≤ length l → statuses_in (take k l) ≡ lent_of n (statuses_in l)
lent-numbers n k l e h =
    ap (λ (j : ℕ). statuses_in (take j l)) e ∙ statuses_take n l ∙ sym (lent-take n (statuses_in l) (omega (arith, statuses_length l)))

-- what stands after them doesn't matter
pub numbers-lent : (n : ℕ) (l m : List ℕ) → length l ≡ 4 * n → lent_of n (statuses_in (l ++ m)) ≡ statuses_in l
numbers-lent n l m e =
    sym (lent-numbers n (4 * n) (l ++ m) refl (omega (arith, length-append l m))) ∙ ap statuses_in (take_at l m (4 * n) e)

-- a call that changes the lent numbers in place is a call on the lent statuses
pub in_place_lent : (setup : Setup) (defaults : List ℕ) (n k : ℕ) (phases : List ℕ) (port : Port) (live cells input answers : List ℕ) (r : FedPort) (lent' after live' cells' answers' : List ℕ)
    → k ≡ 4 * n → k ≤ length phases → length lent' ≡ k
    → left_in_place r lent' live' cells' answers' ≡ feeds setup defaults (held_in port (take k phases) live cells) input answers
    → ◌≡◌ {A = Left Held}
    (record { number = r.number; consumed = r.consumed; written = r.written; held = held r.port (lent_of n (statuses_in (lent' ++ after))) live' cells'; answers = answers' })
    (feeds setup defaults (held port (lent_of n (statuses_in phases)) live cells) input answers)
in_place_lent setup defaults n k phases port live cells input answers r lent' after live' cells' answers' e h m x =
    ap {B = Left Held}
    (λ (l : List Status). record { number = r.number; consumed = r.consumed; written = r.written; held = held r.port l live' cells'; answers = answers' })
    (numbers-lent n lent' after (m ∙ e))
    ∙ x
    ∙ ap (λ (l : List Status). feeds setup defaults (held port l live cells) input answers) (lent-numbers n k phases e h)
