-- What slots that become Ready send doesn't depend on what was brought before; DRS Received and "owed" after they became Ready, and after a DRS that comes as a message.
use Prim.Native.Nat.{ℕ}
use mathlib.Core.Bool.{Bool, true, false, not, ◌&&◌, ◌||◌, cond, or-false, or-true, and-false, false≢true, true≢false}
use mathlib.Core.List.{List, [], ◌∷◌, ◌++◌}
use mathlib.Core.Path.{◌≡◌, refl, sym, ap, ap₂, ◌∙◌}
use lib.Dec.{eqb}
use lib.ListN.{set}
use Rattle.bits.proofs.Tests.{both, both_left, both_right}
use Rattle.frs_queue.specs.declared.Frs as queue_frs
use Rattle.frs_queue.specs.declared.Tally.{Tally}
use Rattle.frs_queue.specs.Queue.{no_tally}
use Rattle.readiness.specs.declared.Status.{Status}
use Rattle.readiness.specs.declared.Setup.{Setup}
use Rattle.readiness.specs.declared.Control as PortControl
use Rattle.readiness.specs.Status.{ready, all_ready}
use Rattle.readiness.specs.Root.{frs_arrive, frs_of_drs, drs_set, drs_arrives}
use Rattle.readiness.specs.Events.{Event, due, frs_of}
use Rattle.readiness.specs.Settle.{Scene, happens, happen_all, last_of_moment, moment_ends, drs_due, tells, settles, frs_told, frs_ending, frames_of, frs_sent}
use Rattle.std.specs.Prelude.{Some}
use Rattle.messages.specs.declared.Message.TheVariants.{Drs}
use Rattle.records.specs.declared.Completion.TheVariants as completion
use Rattle.records.specs.declared.Record.TheVariants.{Message as MessageRecord}
use Rattle.records.specs.Answer.{refused, answered}
use Rattle.records.specs.PortRecords.{message_done, message_effect}
use Rattle.records.specs.Run.{at_port, front_of, effect, run}
use Rattle.records.specs.Sound.{Sound, Fitting}
use Rattle.records.proofs.Leaving.{with_root}
use Rattle.records.proofs.Resting.{sound_rests}
use Rattle.readiness.proofs.Order.{set_ready, ready_by, due-ready}
use Rattle.readiness.proofs.Scenes.{told}
use Rattle.readiness.proofs.Laws.{settle_rest}
use Rattle.readiness.proofs.Sent.{all_made_ready}
use Rattle.records.specs.State.{State, root_of, scene_of}

-- two scenes with the same statuses, the same owed DRS, DRS Received and control
record Alike (x y : Scene) : Type 0 where
  statuses : x.statuses ≡ y.statuses
  owed : x.root.dev.owed ≡ y.root.dev.owed
  drs : x.root.dev.drs_received ≡ y.root.dev.drs_received
  control : x.root.dev.control ≡ y.root.dev.control

module _ (setup : Setup) where
  alike_happens : (e : Event) (x y : Scene) → Alike x y → Alike (happens setup e x) (happens setup e y)
  unfolding happens frs_arrive
  alike_happens e x y a = record { statuses = ap (λ (l : List Status). set l e.slot ready) a.statuses; owed = a.owed; drs = a.drs; control = a.control }

  alike_due : (x y : Scene) → Alike x y → drs_due setup x ≡ drs_due setup y
  alike_due x y a = ap₂ (λ (b : Bool) (l : List Status). b && all_ready setup l) a.owed a.statuses

  alike_tells : (x y : Scene) → Alike x y → Alike (tells setup x) (tells setup y)
  unfolding tells drs_arrives drs_set frs_arrive
  alike_tells x y a = by (drs_due setup x) (drs_due setup y) (alike_due x y a)
    where
      by : (b c : Bool) → b ≡ c → Alike (cond b (told setup x) x) (cond c (told setup y) y)
      by true true e = record { statuses = a.statuses; owed = refl; drs = refl; control = a.control }
      by false false e = a
      by true false e = absurd (true≢false e)
      by false true e = absurd (false≢true e)

  alike_ends : (e : Event) (es : List Event) (x y : Scene) → Alike x y → Alike (moment_ends setup e es x) (moment_ends setup e es y)
  unfolding moment_ends
  alike_ends e es x y a = by (last_of_moment e es)
    where
      by : (b : Bool) → Alike (cond b (tells setup x) x) (cond b (tells setup y) y)
      by true = alike_tells x y a
      by false = a

  -- send the same
  alike_told : (x y : Scene) → Alike x y → frs_told setup x ≡ frs_told setup y
  unfolding frs_told frs_of_drs
  alike_told x y a =
      ap₂ (λ (b : Bool) (l : List queue_frs.Frs). cond b l []) (alike_due x y a)
      (ap₂ (λ (b : Bool) (c : PortControl.Control). cond (not b && eqb c.signalling 2) (record { id = setup.port_id; reason = 1 } ∷ []) []) a.drs a.control)

  alike_frames : (es : List Event) (x y : Scene) → Alike x y → frames_of setup es x ≡ frames_of setup es y
  unfolding frames_of frs_ending
  alike_frames [] x y a = refl
  alike_frames (e ∷ es) x y a =
      let b = alike_happens e x y a in
      ap₂ (λ (l m : List queue_frs.Frs). (frs_of setup e ++ cond (last_of_moment e es) l []) ++ m) (alike_told _ _ b) (alike_frames es _ _ (alike_ends e es _ _ b))

pub sent_same : (setup : Setup) (t : State) (tally : Tally) → frs_sent setup (scene_of t tally) ≡ frs_sent setup (scene_of t no_tally)
unfolding frs_sent
sent_same setup t tally =
    let a : Alike (scene_of t tally) (scene_of t no_tally) = record { statuses = refl; owed = refl; drs = refl; control = refl } in
    ap₂ (λ (l m : List queue_frs.Frs). l ++ m) (alike_told setup _ _ a) (alike_frames setup (due t.port.clock t.statuses) _ _ (alike_tells setup _ _ a))

-- ---- DRS Received after slots became Ready

abbrev received : Scene → Bool
received x = x.root.dev.drs_received

-- a DRS is told once these events have happened, if not before
abbrev told_by : Setup → List Event → Scene → Bool
told_by setup es x = received x || (x.root.dev.owed && all_ready setup (set_ready es x.statuses))

tells-told : (setup : Setup) (es : List Event) (x : Scene) → told_by setup es (tells setup x) ≡ told_by setup es x
unfolding tells drs_arrives drs_set frs_arrive
tells-told setup es x = by (drs_due setup x) refl
  where
    by : (d : Bool) → drs_due setup x ≡ d → told_by setup es (cond d (told setup x) x) ≡ told_by setup es x
    by false e = refl
    by true e =
        sym (ap (λ (b : Bool). received x || b)
        (both _ _ (both_left x.root.dev.owed _ e) (all_made_ready setup es x.statuses (both_right x.root.dev.owed _ e)))
        ∙ or-true (received x))

tells_receives : (setup : Setup) (x : Scene) → received (tells setup x) ≡ (received x || drs_due setup x)
unfolding tells drs_arrives drs_set frs_arrive
tells_receives setup x = by (drs_due setup x)
  where
    by : (d : Bool) → received (cond d (told setup x) x) ≡ (received x || d)
    by true = sym (or-true (received x))
    by false = sym (or-false (received x))

happened_drs : (setup : Setup) (e : Event) (es : List Event) (x : Scene) → received (happen_all setup (e ∷ es) x) ≡ told_by setup (e ∷ es) x
unfolding happen_all moment_ends set_ready happens frs_arrive
happened_drs setup e [] x = tells_receives setup (happens setup e x)
happened_drs setup e (f ∷ es) x =
    happened_drs setup f es (moment_ends setup e (f ∷ es) (happens setup e x)) ∙ by (last_of_moment e (f ∷ es))
  where
    by : (b : Bool) → (let y = happens setup e x in told_by setup (f ∷ es) (cond b (tells setup y) y) ≡ told_by setup (f ∷ es) y)
    by true = tells-told setup (f ∷ es) (happens setup e x)
    by false = refl

all_drs_told : (setup : Setup) (es : List Event) (x : Scene) → received (happen_all setup es (tells setup x)) ≡ told_by setup es x
unfolding happen_all set_ready
all_drs_told setup [] x = tells_receives setup x
all_drs_told setup (e ∷ es) x = happened_drs setup e es (tells setup x) ∙ tells-told setup (e ∷ es) x

pub told-drs : (setup : Setup) (x : Scene)
    → received (settles setup x) ≡ (received x || (x.root.dev.owed && all_ready setup (ready_by x.root.dev.clock x.statuses)))
unfolding settles
told-drs setup x =
    all_drs_told setup (due x.root.dev.clock x.statuses) x
    ∙ ap (λ (l : List Status). received x || (x.root.dev.owed && all_ready setup l)) (due-ready x.root.dev.clock x.statuses)

-- ---- "owed" after slots became Ready

-- a DRS is still owed once these events have happened
abbrev owed_after : Setup → List Event → Scene → Bool
owed_after setup es x = x.root.dev.owed && not (all_ready setup (set_ready es x.statuses))

tells_keeps_owed : (setup : Setup) (es : List Event) (x : Scene) → owed_after setup es (tells setup x) ≡ owed_after setup es x
unfolding tells drs_arrives drs_set frs_arrive
tells_keeps_owed setup es x = by (drs_due setup x) refl
  where
    by : (d : Bool) → drs_due setup x ≡ d → owed_after setup es (cond d (told setup x) x) ≡ owed_after setup es x
    by false e = refl
    by true e =
        sym (ap (λ (b : Bool). x.root.dev.owed && not b) (all_made_ready setup es x.statuses (both_right x.root.dev.owed _ e)) ∙ and-false x.root.dev.owed)

-- where a DRS isn't to be told
still_owed : (owed all : Bool) → (owed && all) ≡ false → owed ≡ (owed && not all)
still_owed false all e = refl
still_owed true false e = refl
still_owed true true e = absurd (true≢false e)

tells_owes : (setup : Setup) (x : Scene) → (tells setup x).root.dev.owed ≡ owed_after setup [] x
unfolding tells drs_arrives drs_set frs_arrive set_ready
tells_owes setup x = by (drs_due setup x) refl
  where
    by : (d : Bool) → drs_due setup x ≡ d → (cond d (told setup x) x).root.dev.owed ≡ (x.root.dev.owed && not (all_ready setup x.statuses))
    by false e = still_owed x.root.dev.owed (all_ready setup x.statuses) e
    by true e = sym (ap (λ (b : Bool). x.root.dev.owed && not b) (both_right x.root.dev.owed _ e) ∙ and-false x.root.dev.owed)

happened_owed : (setup : Setup) (e : Event) (es : List Event) (x : Scene) → (happen_all setup (e ∷ es) x).root.dev.owed ≡ owed_after setup (e ∷ es) x
unfolding happen_all moment_ends set_ready happens frs_arrive
happened_owed setup e [] x = tells_owes setup (happens setup e x)
happened_owed setup e (f ∷ es) x =
    happened_owed setup f es (moment_ends setup e (f ∷ es) (happens setup e x)) ∙ by (last_of_moment e (f ∷ es))
  where
    by : (b : Bool) → (let y = happens setup e x in owed_after setup (f ∷ es) (cond b (tells setup y) y) ≡ owed_after setup (f ∷ es) y)
    by true = tells_keeps_owed setup (f ∷ es) (happens setup e x)
    by false = refl

all_owed : (setup : Setup) (es : List Event) (x : Scene) → (happen_all setup es (tells setup x)).root.dev.owed ≡ owed_after setup es x
unfolding happen_all set_ready
all_owed setup [] x = tells_owes setup x
all_owed setup (e ∷ es) x = happened_owed setup e es (tells setup x) ∙ tells_keeps_owed setup (e ∷ es) x

pub told_owed : (setup : Setup) (x : Scene)
    → (settles setup x).root.dev.owed ≡ (x.root.dev.owed && not (all_ready setup (ready_by x.root.dev.clock x.statuses)))
unfolding settles
told_owed setup x =
    all_owed setup (due x.root.dev.clock x.statuses) x
    ∙ ap (λ (l : List Status). x.root.dev.owed && not (all_ready setup l)) (due-ready x.root.dev.clock x.statuses)

-- A DRS that comes as a message sets DRS Received.
pub drs-sets : (setup : Setup) (defaults : List ℕ) (s : State) (id : ℕ) → s.port.link ≡ true → (run setup defaults s (MessageRecord (Some (Drs id)))).after.port.drs_received ≡ true
unfolding run effect message_effect message_done answered drs_arrives drs_set frs_arrive
drs-sets setup defaults s id e =
    let x = drs_arrives setup.port_id (root_of s no_tally) in
    ap (λ (b : Bool). (answered setup s (at_port s (cond b (message_done setup.port_id (Some (Drs id)) (front_of s)) (refused completion.WrongState 0)))).after.port.drs_received) e
    ∙ told-drs setup (scene_of (with_root x s) x.tally)

-- It leaves "owed", in a sound state.
pub drs_owed_lem : (setup : Setup) (defaults : List ℕ) (s : State) → Sound setup s → Fitting setup defaults s → (id : ℕ) → s.port.link ≡ true
    → (run setup defaults s (MessageRecord (Some (Drs id)))).after.port.owed ≡ s.port.owed
unfolding run effect message_effect message_done answered drs_arrives drs_set frs_arrive
drs_owed_lem setup defaults s sound fits id e =
    let x = drs_arrives setup.port_id (root_of s no_tally) in
    let rests = sound_rests setup defaults s sound fits in
    ap (λ (b : Bool). (answered setup s (at_port s (cond b (message_done setup.port_id (Some (Drs id)) (front_of s)) (refused completion.WrongState 0)))).after.port.owed) e
    ∙ ap (λ (y : Scene). y.root.dev.owed) (settle_rest setup (scene_of (with_root x s) x.tally) rests.due rests.drs)
