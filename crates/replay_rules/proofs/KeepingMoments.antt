-- Q-7 AT THE BENCH, proved as specs/KeepingMoments.antt states it.
use Rattle.times.specs.declared.Nanos.{Nanos}
use Rattle.std.specs.Prelude.{Option, Some}
use Prim.Native.Nat.{ℕ}
use mathlib.Core.Path.{◌≡◌, refl, ap, sym, ◌∙◌}
use mathlib.Core.List.{List, [], ◌∷◌, ◌++◌}
use lib.ListN.{set}
use Rattle.trace.specs.Calls.{Call, no_call, before}
use Rattle.readiness.specs.declared.Setup.{Setup}
use Rattle.readiness.specs.Events.{Event}
use Rattle.readiness.specs.MadeReady.{noted}
use Rattle.records.specs.State.{State}
use Rattle.records.specs.Device.{device}
use Rattle.records.specs.MadeReady.{readied_in, readied_over}
use Rattle.capture.specs.Calls.{replay_calls as replay_calls_on}
use Rattle.capture.specs.Noting.{kept_over}
use Rattle.capture.proofs.Noting.{replays_base, noting_replay, kept_as_fold}
use Rattle.demand3.specs.Feeding.{bench}
use Rattle.demand3.proofs.StateKept.{Good, keeps}
use Rattle.replay_rules.specs.KeepingMoments.{notes_in, HeldNoting, replays_noting, replay_calls_noting, Q7}

-- moments noted one after the other
pub noted_append : (es fs : List Event) (l : List (Option Nanos)) → noted (es ++ fs) l ≡ noted fs (noted es l)
unfolding noted
noted_append [] fs l = refl
noted_append (e ∷ es) fs l = noted_append es fs (set l e.slot (Some e.time))

-- record by record, they are those of all slots that the records make Ready
pub noted_over : (setup : Setup) (defaults : List ℕ) (s : State) (rs : List (List ℕ)) (l : List (Option Nanos))
    → kept_over (device setup defaults) (notes_in setup defaults) s rs l ≡ noted (readied_over setup defaults s rs) l
unfolding kept_over readied_over noted
noted_over setup defaults s [] l = refl
noted_over setup defaults s (r ∷ rs) l =
    let t = ((device setup defaults).run s r).state in
    noted_over setup defaults t rs (noted (readied_in setup defaults s r) l) ∙ sym (noted_append (readied_in setup defaults s r) (readied_over setup defaults t rs) l)

module _ (setup : Setup) (defaults : List ℕ) (h : HeldNoting) where
  no_calls : replay_calls_noting setup defaults h [] ≡ no_call h
  unfolding replay_calls_on
  no_calls = refl

  one_more : (c : Call) (cs : List Call)
      → (let x = replays_noting setup defaults h c.input c.answers in replay_calls_noting setup defaults h (c ∷ cs) ≡ before c x (replay_calls_noting setup defaults x.held cs))
  unfolding replay_calls_on
  one_more c cs = refl

-- Q-7
pub q7 : Q7
q7 setup defaults h t =
    let L = bench setup defaults in
    let note = notes_in setup defaults in
    let good = Good setup defaults h.port.base t in
    let k = keeps setup defaults h.port.base t in
    record {
      kept = λ cs i f. (kept_as_fold L note h good k cs i f).kept ∙ noted_over setup defaults _ _ _;
      fold = kept_as_fold L note h good k;
      lists = noting_replay L note h good k;
      call = replays_base L note h;
      none = no_calls setup defaults h;
      more = one_more setup defaults h;
    }
