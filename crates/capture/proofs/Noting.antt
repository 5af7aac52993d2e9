-- A device that keeps something beside its state: what is kept after a list of calls, and that the bench is as it is where nothing is kept.
use Prim.Native.Nat.{ℕ, zero, suc}
use mathlib.Core.Path.{◌≡◌, refl, ap, sym, ◌∙◌}
use mathlib.Core.List.{List, [], ◌∷◌, ◌++◌}
use lib.ListN.{length}
use Rattle.trace.specs.Bench.{Device, Ran, Bench, Benched, cut, runs, plain}
use Rattle.trace.specs.Lent.{Lent, unless, unchanged, refusal}
use Rattle.trace.specs.Calls.{Call, BytesIn}
use Rattle.trace.specs.inner.Keeps.{Keeps}
use Rattle.capture.specs.Replay.{Replayed, replay_open}
use Rattle.capture.specs.Lent.{Held, bench_in, progress_in, refusal_with, stops_first, leaves, replays, Fresh}
use Rattle.capture.specs.Calls.{replay_calls, trace_of}
use Rattle.capture.specs.AsOneTrace.{OneReplay}
use Rattle.capture.specs.Noting.{Noting, noting, kept_over, noting_lent, base_held, base_left, KeptAsFold}
use Rattle.capture.proofs.Alike.{Alike, replayed_on, alike_open}
use Rattle.capture.proofs.Theorem.{one_replay}

module _ {S K : Type 0} (D : Device S) (note : S → List ℕ → K → K) where
  -- records one after the other
  pub runs_noting : (x : Noting S K) (rs : List (List ℕ))
      → ◌≡◌ {A = Ran (Noting S K)} (runs (noting D note) x rs)
      (record { state = record { base = (runs D x.base rs).state; kept = kept_over D note x.base rs x.kept }; answer = (runs D x.base rs).answer })
  unfolding runs kept_over
  runs_noting x [] = refl
  runs_noting x (r ∷ rs) =
      ap (λ (y : Ran (Noting S K)). record { state = y.state; answer = (D.run x.base r).answer ++ y.answer })
      (runs_noting (record { base = (D.run x.base r).state; kept = note x.base r x.kept }) rs)

  -- the plain bench that notes is the plain bench, with what its records leave beside it
  plain_noting : (x : Noting S K) (bs : List ℕ)
      → ◌≡◌ {A = Benched (Noting S K)} (plain (noting D note) x bs)
      (record { state = record { base = (plain D x.base bs).state; kept = kept_over D note x.base (cut bs).wholes x.kept }; carried = (plain D x.base bs).carried; answers = (plain D x.base bs).answers })
  unfolding plain
  plain_noting x bs = ap (λ (y : Ran (Noting S K)). record { state = y.state; carried = (cut bs).left; answers = y.answer }) (runs_noting x (cut bs).wholes)

  pub like_base : Alike (noting D note) D (λ x. x.base) (λ a. a)
  like_base = record { state = λ s r. refl; answer = λ s r. refl; none = refl; append = λ a b. refl; long = λ a. refl }

module _ {S H K : Type 0} (L : Lent S H) (note : S → List ℕ → K → K) where
  abbrev N : Lent (Noting S K) (Noting H K)
  N = noting_lent L note

  -- no number looks at what is kept
  pub same_stops : (h : Held (Noting H K)) → stops_first N h ≡ stops_first L (base_held L note h)
  unfolding stops_first refusal_with refusal
  same_stops h = refl

  -- ONE CALL, without what is kept, is the call where nothing is kept
  pub replays_base : (h : Held (Noting H K)) (input answers : List ℕ) → base_left L note (replays N h input answers) ≡ replays L (base_held L note h) input answers
  unfolding replays stops_first refusal_with refusal
  replays_base h input answers = go (stops_first L (base_held L note h))
    where
      f : Replayed (Noting S K)
      f = replay_open N.device (bench_in N h) (progress_in h.replay) (length answers) input

      opened : replayed_on (λ (x : Noting S K). x.base) (λ a. a) f ≡ replay_open L.device (bench_in L (base_held L note h)) (progress_in h.replay) (length answers) input
      opened = alike_open N.device L.device (λ x. x.base) (λ a. a) (like_base L.device note) (bench_in N h) (progress_in h.replay) (length answers) input

      go : (n : ℕ) → base_left L note (unless n (unchanged h answers) (leaves N f answers))
          ≡ unless n (unchanged (base_held L note h) answers) (leaves L (replay_open L.device (bench_in L (base_held L note h)) (progress_in h.replay) (length answers) input) answers)
      go zero = ap (λ (y : Replayed S). leaves L y answers) opened
      go (suc n) = refl

  -- ---- lists of calls
  module _ (h : Held (Noting H K)) (Good : S → Type 0) (keeps : Keeps L h.port.base Good) where
    same_refusal : (g : Noting H K) → refusal N g ≡ refusal L g.base
    unfolding refusal
    same_refusal g = refl

    keeps_noting : Keeps N h.port (λ x. Good x.base)
    keeps_noting =
        record {
          good = λ e. keeps.good (sym (same_refusal h.port) ∙ e);
          carries = λ e. keeps.carries (sym (same_refusal h.port) ∙ e);
          run = λ x r w b g. keeps.run x.base r w b g;
          kept = λ p g b. (λ i.
              let v = keeps.kept (record { state = p.state.base; carried = p.carried; broken = p.broken }) g b in
              record { state = record { base = (v i).state; kept = p.state.kept }; carried = (v i).carried; broken = (v i).broken });
          accepted = λ p g b. same_refusal (N.keep p) ∙ keeps.accepted (record { state = p.state.base; carried = p.carried; broken = p.broken }) g b;
        }

    -- all that Q-5 says of replay
    pub noting_replay : (list : List Call) → BytesIn list → OneReplay N h list (replay_calls N h list)
    noting_replay list inputs = one_replay N h (λ x. Good x.base) keeps_noting list inputs

    -- WHAT IS KEPT
    pub kept_as_fold : (list : List Call) → BytesIn list → Fresh N h → KeptAsFold L note h (replay_calls N h list)
    kept_as_fold list inputs f =
        let q = (noting_replay list inputs).claim f in
        let e = plain_noting L.device note (bench_in N h).state (trace_of N (replay_calls N h list)) in
        record {
          kept = ap (λ (p : Bench (Noting S K)). p.state.kept) q.state ∙ ap (λ (y : Benched (Noting S K)). y.state.kept) e;
          state = ap (λ (p : Bench (Noting S K)). p.state.base) q.state ∙ ap (λ (y : Benched (Noting S K)). y.state.base) e;
          answers = q.answers ∙ ap (λ (y : Benched (Noting S K)). y.answers) e;
        }
