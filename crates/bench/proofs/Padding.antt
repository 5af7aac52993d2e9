-- What the by-value core does with the statuses that are lent, padded with Ready to 32 or cut to 32, is what is said of the statuses
-- that are lent: the padding is never seen, and a slice of more than 32 is refused for its length alone.
use Prim.Native.Nat.{ℕ, ◌-◌, ◌<◌, ◌≤◌}
use mathlib.Core.Path.{◌≡◌, ap, sym, ◌∙◌}
use mathlib.Core.List.{List, ◌++◌, append-nil}
use native.Mathlib.Omega.{arith}
use lib.ListN.{length, take, drop, replicate, length-append, drop_of_length-le, take-append-drop}
use lib.Seq.{take_all, take_at, take-append_seam}
use Rattle.bits.proofs.Numbers.{by_le}
use Rattle.trace.specs.Lent.{Left, unchanged, unless}
use Rattle.trace.proofs.Refusing.{refusal_set_up, stops_refused, feeds_stopped}
use Rattle.readiness.specs.declared.Status.{Status}
use Rattle.readiness.specs.declared.Setup.{Setup}
use Rattle.readiness.specs.Status.{ready}
use Rattle.records.specs.declared.Port.{Port}
use Rattle.feed.specs.declared.Fed.{Fed}
use Rattle.set_up.specs.declared.SetUp.{SetUp}
use Rattle.demand3.specs.Held.{Held, held, lent_of}
use Rattle.demand3.specs.SettingUp.{Prepared, fresh_held, sets_up}
use Rattle.set_up.specs.Prepared.{prepared}
use Rattle.demand3.specs.Feeding.{bench, feeds}
use Rattle.feed.specs.Left.{left}
use Rattle.set_up.proofs.Lent.{length-lent, lent-take}
use Rattle.set_up.proofs.Stopping.{too_many}
use Rattle.bench.specs.declared.Outcome.{Outcome}
use Rattle.lent_statuses.specs.Statuses.{stored_over}
use Rattle.bench.specs.Entries.{left_by_set_up, left_by_feed, outcome_is}

-- the statuses as the core has them
abbrev pub given : List Status → List Status
given l = lent_of (length l) (lent_of 32 l)

lent_all : (n : ℕ) (l : List Status) → length l ≤ n → lent_of n l ≡ l ++ replicate (n - length l) ready
lent_all n l h = ap (λ (t : List Status). t ++ replicate (n - length t) ready) (take_all n l h)

-- ---- at most 32: the padding is never seen
pub given_few : (l : List Status) → length l ≤ 32 → given l ≡ l
given_few l h =
    let p = replicate (32 - length l) ready in
    let k : length l ≤ length (l ++ p) = omega (arith, length-append l p) in
    ap (lent_of (length l)) (lent_all 32 l h) ∙ lent-take (length l) (l ++ p) k ∙ take-append_seam l p

pub stored_few : (l array : List Status) → length l ≤ 32 → length array ≡ 32 → stored_over l array ≡ lent_of (length l) array
stored_few l array h e =
    let k : length l ≤ length array = omega arith in
    ap (λ (r : List Status). take (length l) array ++ r) (drop_of_length-le l k) ∙ append-nil (take (length l) array) ∙ sym (lent-take (length l) array k)

-- ---- more than 32: refused with 1, and nothing changes
front : (n : ℕ) (array : List Status) → 32 < n → length array ≡ 32 → take 32 (lent_of n array) ≡ array
front n array h e = ap (take 32) (lent_all n array (omega arith)) ∙ take_at array (replicate (n - length array) ready) 32 e

pub stored_many : (l array : List Status) → 32 < length l → length array ≡ 32 → lent_of (length l) array ≡ given l → stored_over l array ≡ l
stored_many l array h e s =
    let whole : array ≡ take 32 l =
    sym (front (length l) array h e) ∙ ap (take 32) s ∙ front (length l) (lent_of 32 l) h (length-lent 32 l) ∙ lent-take 32 l (omega arith) in
    ap (λ (r : List Status). r ++ drop (length array) l) (take_all (length l) array (omega arith))
    ∙ ap (λ (m : ℕ). array ++ drop m l) e
    ∙ ap (λ (r : List Status). r ++ drop 32 l) whole
    ∙ take-append-drop 32 l

pub set_up_many : (setup : Setup) (defaults : List ℕ) (h : Held) → 32 < length h.statuses → sets_up setup defaults h ≡ record { number = 1; held = h }
unfolding sets_up
set_up_many setup defaults h m =
    ap (λ (n : ℕ). unless n (λ (k : ℕ). record { number = k; held = h }) (record { number = 0; held = fresh_held setup defaults h })) (sym (too_many setup defaults h m))

pub fed_many : (setup : Setup) (defaults : List ℕ) (h : Held) (input answers : List ℕ) → 32 < length h.statuses → feeds setup defaults h input answers ≡ unchanged h answers 1
fed_many setup defaults h input answers m =
    let L = bench setup defaults in
    feeds_stopped L h input answers 0 (stops_refused L h 0 (refusal_set_up L h 0 (sym (too_many setup defaults h m))))

-- ---- so what the core gives for the array is what is said of the statuses that are lent
module _ (setup : Setup) (defaults : List ℕ) (port : Port) (l : List Status) (live cells : List ℕ) where
  abbrev at_entry : List Status → Held
  at_entry statuses = held port statuses live cells

  many : 32 < length l → 32 < length (given l)
  many m = omega (arith, length-lent (length l) (lent_of 32 l))

  -- SET-UP
  pub set_up_as_lent : (r : SetUp) (live₁ cells₁ : List ℕ) → length r.statuses ≡ 32 → prepared (length l) r live₁ cells₁ ≡ sets_up setup defaults (at_entry (given l))
      → left_by_set_up r.number r.port (stored_over l r.statuses) live₁ cells₁ ≡ sets_up setup defaults (at_entry l)
  set_up_as_lent r live₁ cells₁ n e =
      by_le (length l) 32
      (λ h. ap (λ (s : List Status). left_by_set_up r.number r.port s live₁ cells₁) (stored_few l r.statuses h n) ∙ e ∙ ap (λ (s : List Status). sets_up setup defaults (at_entry s)) (given_few l h))
      (λ h.
      let same = e ∙ set_up_many setup defaults (at_entry (given l)) (many h) in
      let s = stored_many l r.statuses h n (ap (λ (x : Prepared). x.held.statuses) same) in
      (λ i. left_by_set_up (same i).number (same i).held.port (s i) (same i).held.live (same i).held.cells) ∙ sym (set_up_many setup defaults (at_entry l) h))

  -- FEED
  pub fed_as_lent : (input answers : List ℕ) (r : Fed) (o : Outcome) (live₁ cells₁ answers₁ : List ℕ) → length r.statuses ≡ 32 → o ≡ outcome_is r
      → left (length l) r live₁ cells₁ answers₁ ≡ feeds setup defaults (at_entry (given l)) input answers
      → left_by_feed o r.port (stored_over l r.statuses) live₁ cells₁ answers₁ ≡ feeds setup defaults (at_entry l) input answers
  fed_as_lent input answers r o live₁ cells₁ answers₁ n eo e =
      by_le (length l) 32
      (λ h.
      ap (λ (p : Outcome). left_by_feed p r.port (stored_over l r.statuses) live₁ cells₁ answers₁) eo
      ∙ ap (λ (s : List Status). left_by_feed (outcome_is r) r.port s live₁ cells₁ answers₁) (stored_few l r.statuses h n)
      ∙ e
      ∙ ap (λ (s : List Status). feeds setup defaults (at_entry s) input answers) (given_few l h))
      (λ h.
      let same = e ∙ fed_many setup defaults (at_entry (given l)) input answers (many h) in
      let s = stored_many l r.statuses h n (ap (λ (x : Left Held). x.held.statuses) same) in
      ap (λ (p : Outcome). left_by_feed p r.port (stored_over l r.statuses) live₁ cells₁ answers₁) eo
      ∙ (λ i. record { number = (same i).number; consumed = (same i).consumed; written = (same i).written; held = held (same i).held.port (s i) (same i).held.live (same i).held.cells; answers = (same i).answers })
      ∙ sym (fed_many setup defaults (at_entry l) input answers h))
