-- One step, written out.
use Prim.Native.Nat.{ℕ, ◌-◌, ◌≤◌}
use mathlib.Core.Path.{◌≡◌, refl, ap, sym, ◌∙◌, subst}
use mathlib.Core.Bool.{true}
use mathlib.Core.List.{List, [], ◌∷◌, append-nil}
use native.Mathlib.Omega.{arith}
use lib.ListN.{length, drop}
use Rattle.std.specs.Prelude.{Result}
use Rattle.trace.specs.Format.{Bytes}
use Rattle.trace.specs.Bench.{runs}
use Rattle.replay.specs.inner.Noted.{Noted, noting_device}
use Rattle.capture.specs.declared.Replay.{Replay}
use Rattle.capture.specs.Replay.{later, replay_open}
use Rattle.capture.specs.Lent.{progress_in}
use Rattle.replay.specs.declared.Step.{Step}
use Rattle.replay.specs.declared.End.{End}
use Rattle.replay.specs.inner.Steps.{step_bytes, step_of}
use Rattle.replay.specs.inner.Calls.{Between}
use Rattle.replay.specs.inner.Stretches.{open_in, WrittenOut}
use Rattle.replay.proofs.NextStep.{take_few, Runs, Does, does_step}

module _ (r : Replay) (space at : ℕ) (input : List ℕ) (bytes : Bytes input) (b : Between r) (within : at ≤ length input) where
  -- it runs, or the call ends
  pub step_does : (x : Result Step End) → x ≡ step_of (progress_in r) space at input → Does input bytes (progress_in r) space at x
  step_does x e =
      subst (Does input bytes (progress_in r) space at) (sym e)
      (does_step input bytes (progress_in r) space at (omega (arith, take_few r.stamp_len r.stamp, b.few)) b.answered within)

  pub one_written : (step : Step) → Runs input bytes (progress_in r) space at step → WrittenOut (progress_in r) space at input (progress_in step.replay) step.at 8 (step_bytes step input)
  unfolding runs
  one_written step d =
      let w = step_bytes step input in
      record {
        records = w ∷ [];
        wholes = (d.is, tt);
        joined = sym (append-nil w);
        are_bytes = d.bytes;
        eight = refl;
        room = d.room;
        from = d.from;
        to = d.to;
        goes =
            λ k defaults s.
            let D = noting_device k defaults in
            let x = D.run s w in
            d.goes k defaults s
            ∙ ap (λ (a : List ℕ). later (step.at - at) a (replay_open D (open_in x.state) (progress_in step.replay) (space - 8) (drop step.at input))) (sym (append-nil x.answer));
      }
