-- DEMAND 3 FOR THE LENT ENTRIES, proved as specs/LentDemand3.antt states it.
use Prim.Native.Nat.{ℕ}
use mathlib.Core.Path.{◌≡◌, ap, sym, ◌∙◌}
use mathlib.Core.List.{List, [], ◌∷◌}
use Rattle.trace.specs.Calls.{before}
use Rattle.trace.proofs.Laws.{called, called_none}
use Rattle.readiness.specs.declared.Setup.{Setup}
use Rattle.demand3.specs.Held.{Held}
use Rattle.demand3.specs.SettingUp.{Prepared}
use Rattle.demand3.specs.Feeding.{bench, calls}
use Rattle.demand3.proofs.Demand3.{demand_3}
use Rattle.lent_calls.specs.Chain.{LentCall, left_by, lent_to, all_lent_to, came_to, Chained}
use Rattle.lent_calls.specs.LentDemand3.{LentDemand3}

module _ (setup : Setup) (defaults : List ℕ) where
  -- CALLS THAT MEET THEIR CONTRACTS, chained, come to what lists of calls come to
  pub chained : (h : Held) (cs : List LentCall) → Chained setup defaults h cs → came_to h cs ≡ calls setup defaults h (all_lent_to cs)
  chained h [] k = sym (called_none (bench setup defaults) h)
  chained h (c ∷ cs) k =
      ap (before (lent_to c) (left_by c)) (chained (left_by c).held cs k.1)
      ∙ sym (called (bench setup defaults) h (lent_to c) (all_lent_to cs) (left_by c) k.0)

-- DEMAND 3
pub lent_demand_3 : LentDemand3
lent_demand_3 setup defaults h t =
    let d = demand_3 setup defaults h t in
    record {
      lists = λ cs i k. rw (chained setup defaults h cs k) (d.lists (all_lent_to cs) i);
      parts = λ cs i k. rw (chained setup defaults h cs k) (d.parts (all_lent_to cs) i);
      from_set_up = λ port statuses live cells e.
          rw (ap (λ (x : Prepared). x.held) e) (d.from_set_up (ap (λ (x : Prepared). x.number) (sym e)));
    }
