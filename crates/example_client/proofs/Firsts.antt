-- An array of one status, and the first of an array of 32.
use Prim.Native.Nat.{ℕ, ◌<◌}
use mathlib.Core.Path.{◌≡◌, refl, ap, sym, ◌∙◌}
use mathlib.Core.List.{List, [], ◌∷◌, ◌++◌}
use native.Mathlib.Omega.{arith}
use lib.ListN.{length, get_or, take, drop, replicate, length-append}
use lib.Seq.{take_all, take-suc, take-append_seam}
use Rattle.trace.specs.Lent.{Left}
use mir.Val.{Val}
use denote.Laws.{Is}
use denote.Struct.Laws as LL
use Rattle.readiness.specs.declared.Status.{Status}
use Rattle.readiness.specs.Status.{down}
use Rattle.readiness.specs.declared.Setup.{Setup}
use Rattle.records.specs.declared.Port.{Port}
use Rattle.feed.specs.declared.Fed.{Fed}
use Rattle.feed.specs.contracts.Fed as F
use Rattle.feed.proofs.Fed.TheLaws as F'
use Rattle.demand3.specs.Held.{Held, held}
use Rattle.demand3.specs.Feeding.{feeds}
use Rattle.bench.specs.declared.Outcome.{Outcome}
use Rattle.bench.specs.Entries.{left_by_feed}
use Rattle.bench_by_value.specs.First.{feeds_first}

-- what feed gave holds an array of 32
pub all_32 : (r : Fed) (vs : List Val) → Is F.the_row r vs → length r.statuses ≡ 32
all_32 r vs is = (LL.owed F.the_type F'.the_laws r vs is).1.1.1.1.0.1.0.1

-- the first of an array that isn't empty
pub first_of : (xs : List Status) → 0 < length xs → get_or xs 0 down ∷ [] ≡ take 1 xs
first_of xs l = sym (take-suc xs 0 down l)

-- an array of one
pub one_of : (xs : List Status) → length xs ≡ 1 → get_or xs 0 down ∷ [] ≡ xs
one_of xs l = first_of xs (omega (arith, l)) ∙ take_all 1 xs (omega (arith, l))

-- the one in front of 31 others
pub in_front : (xs rest : List Status) → length rest ≡ 31 → length (xs ++ rest) ≡ 32 → take 1 (xs ++ rest) ≡ xs
in_front xs rest k l =
    let e : length xs ≡ 1 = omega (arith, length-append xs rest, k, l) in
    ap (λ (n : ℕ). take n (xs ++ rest)) (sym e) ∙ take-append_seam xs rest

-- FEED with the first of an array of 32, each the same status, is feed with that status
module _ (setup : Setup) (defaults : List ℕ) (port : Port) (s : Status) (live cells input answers : List ℕ) where
  abbrev array : List Status
  array = replicate 32 s

  pub fed_one : (o : Outcome) (p : Port) (ss : List Status) (live₁ cells₁ answers₁ : List ℕ) → length ss ≡ 32
      → left_by_feed o p ss live₁ cells₁ answers₁ ≡ feeds_first 1 setup defaults (held port array live cells) input answers
      → left_by_feed o p (take 1 ss) live₁ cells₁ answers₁ ≡ feeds setup defaults (held port (s ∷ []) live cells) input answers
  fed_one o p ss live₁ cells₁ answers₁ l e =
      let x = feeds setup defaults (held port (s ∷ []) live cells) input answers in
      let es : ss ≡ x.held.statuses ++ drop 1 array = ap (λ (y : Left Held). y.held.statuses) e in
      ap (λ (y : Left Held). record { number = y.number; consumed = y.consumed; written = y.written; held = held y.held.port (take 1 y.held.statuses) y.held.live y.held.cells; answers = y.answers }) e
      ∙ ap (λ (r : List Status). record { number = x.number; consumed = x.consumed; written = x.written; held = held x.held.port r x.held.live x.held.cells; answers = x.answers }) (in_front x.held.statuses (drop 1 array) refl (ap length (sym es) ∙ l))
