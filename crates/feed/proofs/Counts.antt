-- The counts of a call: within what was lent, and with 0 the whole input.
use Prim.Native.Nat.{ℕ, zero, suc, ◌-◌, ◌≤◌}
use mathlib.Core.Path.{◌≡◌, refl}
use mathlib.Core.Bool.{false}
use mathlib.Core.List.{List, [], ◌∷◌, ◌++◌}
use native.Mathlib.Omega.{arith}
use lib.ListN.{length, length-append, length-drop}
use Rattle.trace.specs.Bench.{Device, Bench}
use Rattle.trace.specs.Feed.{Fed, feed_open}
use Rattle.trace.specs.Lent.{Left, refusal_or31, leaves, unchanged}
use Rattle.trace.proofs.Feeding.{Way, way, carries, full, ends, unknown}
use Rattle.trace.proofs.OneCall.{feed_open_lem}
use Rattle.trace.proofs.Refusing.{goes_on, feeds_stopped, feeds_open}
use Rattle.trace.proofs.Laws.{Within, within}
use Rattle.readiness.specs.declared.Setup.{Setup}
use Rattle.records.specs.State.{State}
use Rattle.demand3.specs.Held.{Held, bench_of}
use Rattle.records.specs.Device.{device}
use Rattle.demand3.specs.Feeding.{bench, feeds}

module _ {S : Type 0} (D : Device S) where
  abbrev AllIn : List ℕ → Fed S → Type 0
  AllIn input f = f.number ≡ 0 → f.consumed ≡ length input

  -- a call that gives 0 has consumed its whole input
  open_all : (p : Bench S) (room : ℕ) (input : List ℕ) → AllIn input (feed_open D p room input)
  unfolding feed_open
  open_all p room [] = λ e. refl
  open_all p room (b ∷ bs) = go (way D p room b) (λ p' room'. open_all p' room' bs)
    where
      go : Way D p room b → ((p' : Bench S) (room' : ℕ) → AllIn bs (feed_open D p' room' bs)) → AllIn (b ∷ bs) (feed_open D p room (b ∷ bs))
      go (carries e j w) ih =
          let i = ih (record { state = p.state; carried = p.carried ++ b ∷ []; broken = false }) (room - 0) in
          rw w (λ q. omega (arith, i q))
      go (full e j r w) ih = rw w (λ q. absurd (omega arith))
      go (ends e j r w) ih =
          let x = D.run p.state (p.carried ++ b ∷ []) in
          let i = ih (record { state = x.state; carried = []; broken = false }) (room - length x.answer) in
          rw w (λ q. omega (arith, i q))
      go (unknown e w) ih = rw w (λ q. absurd (omega arith))

-- THE COUNTS of a call that left x
pub record Counts (input answers : List ℕ) (x : Left Held) : Type 0 where
  pub consumed : x.consumed ≤ length input
  pub written : x.written ≤ length answers
  pub slice : length x.answers ≡ length answers
  pub all : x.number ≡ 0 → x.consumed ≡ length input

module _ (setup : Setup) (defaults : List ℕ) (h : Held) (input answers : List ℕ) where
  abbrev ran : Fed State
  ran = feed_open (device setup defaults) (bench_of h) (length answers) input

  counts_open : Within (device setup defaults) (length answers) input ran → Counts input answers (leaves (bench setup defaults) ran answers)
  counts_open w =
      record {
        consumed = w.consumed;
        written = w.written;
        slice = simp (length-append, length-drop) (omega (arith, w.written));
        all = open_all (device setup defaults) (bench_of h) (length answers) input;
      }

  counts_no : (n : ℕ) → Counts input answers (unchanged h answers (suc n))
  counts_no n = record { consumed = omega arith; written = omega arith; slice = refl; all = λ e. absurd (omega arith) }

  by_refusal : (n : ℕ) → refusal_or31 (bench setup defaults) h ≡ n → Counts input answers (feeds setup defaults h input answers)
  by_refusal zero e =
      let b = (goes_on (bench setup defaults) h e).1 in
      rw (feeds_open (bench setup defaults) h input answers e)
      (counts_open (rw (feed_open_lem (device setup defaults) (bench_of h) (length answers) input b) at (within (device setup defaults) (bench_of h) (length answers) input)))
  by_refusal (suc n) e = rw (feeds_stopped (bench setup defaults) h input answers n e) (counts_no n)

  pub counts : Counts input answers (feeds setup defaults h input answers)
  counts = by_refusal _ refl
