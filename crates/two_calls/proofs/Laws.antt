-- Two calls of feed, each known by its contract, as one list of calls, and as the plain bench.
use Prim.Native.Nat.{ℕ}
use mathlib.Core.Path.{◌≡◌, ap, ◌∙◌}
use mathlib.Core.List.{List, [], ◌∷◌}
use Rattle.trace.specs.Calls.{Call, Came, BytesIn}
use Rattle.readiness.specs.declared.Setup.{Setup}
use Rattle.demand3.specs.Held.{Held}
use Rattle.demand3.specs.Feeding.{calls}
use Rattle.demand3.specs.Compared.{Typed}
use Rattle.demand3.proofs.Demand3.{shows, demand_3}
use Rattle.lent_calls.specs.Chain.{LentCall, Chained}
use Rattle.lent_calls.proofs.Theorem.{chained}
use Rattle.two_calls.specs.declared.Both.{Both}
use Rattle.two_calls.specs.Twice.{lend, came, ByPlainBench}

-- TWO CALLS, the second on what the first left, come to what the list of them comes to
pub two_calls : (setup : Setup) (defaults : List ℕ) (h : Held) (c d : LentCall) → Chained setup defaults h (c ∷ d ∷ [])
    → (r : Both) → r ≡ record { first = c.outcome; second = d.outcome; port = d.port; statuses = d.statuses; live = d.live; cells = d.cells }
    → came r c.input d.input c.answers_left d.answers_left ≡ calls setup defaults h (lend c.input c.answers ∷ lend d.input d.answers ∷ [])
two_calls setup defaults h c d k r e = ap (λ (s : Both). came s c.input d.input c.answers_left d.answers_left) e ∙ chained setup defaults h (c ∷ d ∷ []) k

-- A LIST OF CALLS is said by the plain bench
pub by_plain_bench : (setup : Setup) (defaults : List ℕ) (h : Held) → Typed setup h → (cs : List Call) → BytesIn cs → (z : Came Held) → z ≡ calls setup defaults h cs → ByPlainBench setup defaults h z
by_plain_bench setup defaults h t cs i z e = rw e (λ r. let q = ((demand_3 setup defaults h t).lists cs i).carrying r in (q.answers, shows _ _ q.state))
