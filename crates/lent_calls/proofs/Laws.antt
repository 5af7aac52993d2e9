-- What holds of the lent entries and of the copies that they make.
use Prim.Native.Nat.{ℕ, suc, ◌<◌}
use mathlib.Core.Path.{◌≡◌, refl, ap, sym, ◌∙◌}
use mathlib.Core.List.{List}
use lib.ListN.{length}
use Rattle.trace.specs.Lent.{unchanged}
use Rattle.trace.proofs.Refusing.{stops_refused, feeds_stopped}
use Rattle.readiness.specs.declared.Status.{Status}
use Rattle.readiness.specs.declared.Setup.{Setup}
use Rattle.records.specs.declared.Port.{Port}
use Rattle.demand3.specs.Held.{Held, held, lent_of}
use Rattle.demand3.specs.Refusals.{set_up_refusal}
use Rattle.demand3.specs.SettingUp.{Prepared, sets_up}
use Rattle.demand3.specs.Feeding.{bench, refusal_of, feeds}
use Rattle.set_up.proofs.Lent.{length-lent}
use Rattle.demand3.proofs.Prepared.{set_up_number, set_up_refused}
use Rattle.lent_statuses.specs.Statuses.{stored_over}
use Rattle.lent_calls.specs.Chain.{LentCall, left_by, WasSetUp}
use Rattle.bits.proofs.Numbers.{by_le}
use Rattle.bench.proofs.Padding.{given_few, stored_few, stored_many, set_up_many, fed_many}

-- COPIED IN AND OUT AGAIN: nothing changes, whatever is lent
pub copied_back : (l : List Status) → stored_over l (lent_of 32 l) ≡ l
copied_back l =
    by_le (length l) 32
    (λ h. stored_few l (lent_of 32 l) h (length-lent 32 l) ∙ given_few l h)
    (λ h. stored_many l (lent_of 32 l) h (length-lent 32 l) refl)

-- ---- Refusals
module _ (setup : Setup) (defaults : List ℕ) (h : Held) where
  -- A REFUSED CALL of feed gives its number, consumes and writes nothing, and every lent byte is as it was
  pub refused_call : (c : LentCall) (n : ℕ) → refusal_of setup defaults h ≡ suc n → left_by c ≡ feeds setup defaults h c.input c.answers → left_by c ≡ unchanged h c.answers (suc n)
  refused_call c n r e = e ∙ feeds_stopped (bench setup defaults) h c.input c.answers n (stops_refused (bench setup defaults) h n r)

  -- A REFUSED SET-UP changes nothing
  pub refused_set_up : (n : ℕ) (port : Port) (statuses : List Status) (live cells : List ℕ) → WasSetUp setup defaults h (suc n) port statuses live cells → held port statuses live cells ≡ h
  refused_set_up n port statuses live cells e =
      let r : set_up_refusal setup defaults h ≡ suc n = sym (set_up_number setup defaults h) ∙ ap (λ (x : Prepared). x.number) (sym e) in
      ap (λ (x : Prepared). x.held) (e ∙ set_up_refused setup defaults h n r)

  -- MORE THAN 32 STATUSES are refused with 1, and nothing changes
  pub too_many_set_up : 32 < length h.statuses → sets_up setup defaults h ≡ record { number = 1; held = h }
  too_many_set_up m = set_up_many setup defaults h m

  pub too_many_fed : (input answers : List ℕ) → 32 < length h.statuses → feeds setup defaults h input answers ≡ unchanged h answers 1
  too_many_fed input answers m = fed_many setup defaults h input answers m
