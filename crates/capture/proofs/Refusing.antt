-- A call of replay by what stops it first, and lists of calls that are refused.
use Prim.Native.Nat.{ℕ, suc}
use mathlib.Core.Path.{◌≡◌, refl, ap, ◌∙◌}
use mathlib.Core.Bool.{true, false}
use mathlib.Core.List.{List, [], ◌∷◌}
use lib.ListN.{length}
use Rattle.trace.specs.Format.{when◌then◌else◌}
use Rattle.trace.specs.Outcome.{first}
use Rattle.trace.specs.Lent.{Lent, Left, unchanged, unless, refusal}
use Rattle.trace.specs.Calls.{Call, before, all_refused}
use Rattle.trace.proofs.Tests.{if_true, if_false}
use Rattle.trace.proofs.Refusing.{refusal_set_up, refusal_unsound, refusal_none}
use Rattle.capture.specs.Replay.{replay_open}
use Rattle.capture.specs.Lent.{Held, progress_in, bench_in, matching, refusal_with, stops_first, leaves, replays}
use Rattle.capture.specs.Calls.{replay_calls}
use Rattle.capture.specs.AsOneTrace.{Refusals}

module _ {S H : Type 0} (L : Lent S H) where
  abbrev after_refusal : Held H → ℕ → ℕ
  after_refusal h n = first n (first (progress_in h.replay).ended (when (L.view h.port).broken then 31 else 0))

  pub refuses-first : (h : Held H) (n : ℕ) → refusal L h.port ≡ suc n → refusal_with L h ≡ suc n
  unfolding refusal_with
  refuses-first h n e = ap (λ (m : ℕ). first m (when matching L h then 0 else 5)) e

  pub refuses_unmatched : (h : Held H) → refusal L h.port ≡ 0 → matching L h ≡ false → refusal_with L h ≡ 5
  unfolding refusal_with
  refuses_unmatched h e f = ap (λ (m : ℕ). first m (when matching L h then 0 else 5)) e ∙ if_false (matching L h) 0 5 f

  pub refuses_not : (h : Held H) → refusal L h.port ≡ 0 → matching L h ≡ true → refusal_with L h ≡ 0
  unfolding refusal_with
  refuses_not h e f = ap (λ (m : ℕ). first m (when matching L h then 0 else 5)) e ∙ if_true (matching L h) 0 5 f

  pub stops_refused : (h : Held H) (n : ℕ) → refusal_with L h ≡ suc n → stops_first L h ≡ suc n
  unfolding stops_first
  stops_refused h n e = ap (after_refusal h) e

  pub stops_ended : (h : Held H) (n : ℕ) → refusal_with L h ≡ 0 → (progress_in h.replay).ended ≡ suc n → stops_first L h ≡ suc n
  unfolding stops_first
  stops_ended h n e f = ap (after_refusal h) e ∙ ap (λ (m : ℕ). first m (when (L.view h.port).broken then 31 else 0)) f

  pub stops_broken : (h : Held H) → refusal_with L h ≡ 0 → (progress_in h.replay).ended ≡ 0 → (bench_in L h).broken ≡ true → stops_first L h ≡ 31
  unfolding stops_first
  stops_broken h e f b =
      ap (after_refusal h) e
      ∙ ap (λ (m : ℕ). first m (when (L.view h.port).broken then 31 else 0)) f
      ∙ if_true (L.view h.port).broken 31 0 b

  pub stops_not : (h : Held H) → refusal_with L h ≡ 0 → (progress_in h.replay).ended ≡ 0 → (bench_in L h).broken ≡ false → stops_first L h ≡ 0
  unfolding stops_first
  stops_not h e f b =
      ap (after_refusal h) e
      ∙ ap (λ (m : ℕ). first m (when (L.view h.port).broken then 31 else 0)) f
      ∙ if_false (L.view h.port).broken 31 0 b

  module _ (h : Held H) (input answers : List ℕ) where
    abbrev by : ℕ → Left (Held H)
    by n = unless n (unchanged h answers) (leaves L (replay_open L.device (L.view h.port) (progress_in h.replay) (length answers) input) answers)

    pub replays_stopped : (n : ℕ) → stops_first L h ≡ suc n → replays L h input answers ≡ unchanged h answers (suc n)
    unfolding replays
    replays_stopped n e = ap by e

    pub replays_open : stops_first L h ≡ 0 → replays L h input answers ≡ leaves L (replay_open L.device (L.view h.port) (progress_in h.replay) (length answers) input) answers
    unfolding replays
    replays_open e = ap by e

  pub all_stopped : (n : ℕ) (h : Held H) (cs : List Call) → stops_first L h ≡ suc n → replay_calls L h cs ≡ all_refused (suc n) h cs
  unfolding replay_calls
  all_stopped n h [] e = refl
  all_stopped n h (c ∷ cs) e = rw (replays_stopped h c.input c.answers n e) (ap (before c (unchanged h c.answers (suc n))) (all_stopped n h cs e))

  -- REFUSED CALLS
  pub refusals : (h : Held H) (cs : List Call) → Refusals L h cs (replay_calls L h cs)
  refusals h cs =
      record {
        set_up = λ n e. all_stopped n h cs (stops_refused h n (refuses-first h n (refusal_set_up L h.port n e)));
        unsound = λ e f. all_stopped 4 h cs (stops_refused h 4 (refuses-first h 4 (refusal_unsound L h.port e f)));
        unmatched = λ e f g. all_stopped 4 h cs (stops_refused h 4 (refuses_unmatched h (refusal_none L h.port e f) g));
        ended = λ e n f. all_stopped n h cs (stops_ended h n e f);
        broken = λ e f b. all_stopped 30 h cs (stops_broken h e f b);
      }
