-- What the entries do with the first n of an array's statuses, at most all 32.
use Prim.Native.Nat.{ℕ, min}
use mathlib.Core.Path.{◌≡◌, ap, ◌∙◌}
use mathlib.Core.List.{List, ◌++◌}
use lib.ListN.{length, take, drop}
use Rattle.bits.proofs.Lists.{take_min, drop_min}
use Rattle.trace.specs.Lent.{Left}
use Rattle.readiness.specs.declared.Status.{Status}
use Rattle.readiness.specs.declared.Setup.{Setup}
use Rattle.records.specs.declared.Port.{Port}
use Rattle.demand3.specs.Held.{Held, held}
use Rattle.demand3.specs.SettingUp.{Prepared, sets_up}
use Rattle.demand3.specs.Feeding.{feeds}
use Rattle.bench.specs.declared.Outcome.{Outcome}
use Rattle.bench.specs.Entries.{left_by_set_up, left_by_feed}
use Rattle.bench_by_value.specs.First.{and_rest, sets_up_first, feeds_first}

take_most : (n k : ℕ) (xs : List Status) → k ≡ min n (length xs) → take k xs ≡ take n xs
take_most n k xs e = ap (λ (j : ℕ). take j xs) e ∙ take_min n xs

drop_most : (n k : ℕ) (xs : List Status) → k ≡ min n (length xs) → drop k xs ≡ drop n xs
drop_most n k xs e = ap (λ (j : ℕ). drop j xs) e ∙ drop_min n xs

module _ (setup : Setup) (defaults : List ℕ) (port : Port) (xs : List Status) (live cells : List ℕ) (n k : ℕ) (few : k ≡ min n (length xs)) (p : Port) (ss : List Status) (live₁ cells₁ : List ℕ) where
  abbrev at_entry : Held
  at_entry = held port xs live cells

  pub set_up_first : (m : ℕ) → left_by_set_up m p ss live₁ cells₁ ≡ sets_up setup defaults (held port (take k xs) live cells)
      → left_by_set_up m p (ss ++ drop k xs) live₁ cells₁ ≡ sets_up_first n setup defaults at_entry
  set_up_first m e =
      ap (λ (r : List Status). left_by_set_up m p (ss ++ r) live₁ cells₁) (drop_most n k xs few)
      ∙ ap (λ (x : Prepared). record { number = x.number; held = and_rest n at_entry x.held })
      (e ∙ ap (λ (s : List Status). sets_up setup defaults (held port s live cells)) (take_most n k xs few))

  pub fed_first : (input answers answers₁ : List ℕ) (o : Outcome) → left_by_feed o p ss live₁ cells₁ answers₁ ≡ feeds setup defaults (held port (take k xs) live cells) input answers
      → left_by_feed o p (ss ++ drop k xs) live₁ cells₁ answers₁ ≡ feeds_first n setup defaults at_entry input answers
  fed_first input answers answers₁ o e =
      ap (λ (r : List Status). left_by_feed o p (ss ++ r) live₁ cells₁ answers₁) (drop_most n k xs few)
      ∙ ap (λ (x : Left Held). record { number = x.number; consumed = x.consumed; written = x.written; held = and_rest n at_entry x.held; answers = x.answers })
      (e ∙ ap (λ (s : List Status). feeds setup defaults (held port s live cells) input answers) (take_most n k xs few))
