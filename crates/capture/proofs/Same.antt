-- A call's number, its counts and the state of the replay that it leaves do not depend on the device: they are the blank device's.
use Prim.Native.Nat.{ℕ}
use mathlib.Core.Path.{◌≡◌, refl, ap, sym, ◌∙◌}
use mathlib.Core.List.{List, ◌++◌}
use lib.ListN.{length, replicate, length-append, length-replicate, replicate-append-replicate}
use Rattle.trace.specs.Bench.{Device, Bench}
use Rattle.capture.specs.Replay.{Progress, Replayed, replay}
use Rattle.capture.specs.Calls.{blank}
use Rattle.capture.proofs.Alike.{Alike, alike_call}

abbrev zeros : ℕ → List ℕ
zeros n = replicate n 0

zeros_append : (a b : List ℕ) → zeros (length (a ++ b)) ≡ zeros (length a) ++ zeros (length b)
zeros_append a b = ap zeros (length-append a b) ∙ sym (replicate-append-replicate {A = ℕ} (length a) (length b) 0)

module _ {S : Type 0} where
  abbrev pub blank_bench : Bench S → Bench (Unit {0})
  blank_bench p = record { state = tt; carried = p.carried; broken = p.broken }

  abbrev pub blanked : Replayed S → Replayed (Unit {0})
  blanked f = record { bench = blank_bench f.bench; progress = f.progress; number = f.number; consumed = f.consumed; answers = zeros (length f.answers) }

module _ {S : Type 0} (D : Device S) where
  like_blank : Alike D blank (λ s. tt) (λ a. zeros (length a))
  like_blank =
      record {
        state = λ s r. refl;
        answer = λ s r. ap zeros (D.eight s r);
        none = refl;
        append = zeros_append;
        long = λ a. length-replicate {A = ℕ} (length a) 0;
      }

  -- ONE CALL: on the blank device it gives the same number and counts, and leaves the same state of the replay, bytes carried, and broken or not
  pub same_call : (p : Bench S) (r : Progress) (room : ℕ) (input : List ℕ) → blanked (replay D p r room input) ≡ replay blank (blank_bench p) r room input
  same_call p r room input = alike_call D blank (λ s. tt) (λ a. zeros (length a)) like_blank p r room input
