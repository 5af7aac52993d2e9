-- In a sound state no slot becomes Ready in a record other than 01, 03 and 05: what it does is the state after it, and its answer.
use Prim.Native.Nat.{ℕ}
use mathlib.Core.Bool.{Bool, true, false, true≢false}
use mathlib.Core.List.{List}
use mathlib.Core.Path.{◌≡◌, refl, sym, ap, ap₂, subst}
use Rattle.frs_queue.specs.declared.Tally.{Tally}
use Rattle.frs_queue.specs.Queue.{no_tally}
use Rattle.readiness.specs.declared.Setup.{Setup}
use Rattle.readiness.specs.Status.{after_reset, after_link_down, after_cold_reset}
use Rattle.readiness.specs.Root.{frs_arrive, drs_set, drs_arrives}
use Rattle.readiness.specs.Settle.{Scene}
use Rattle.readiness.proofs.Laws.{settle_rest}
use Rattle.records.specs.declared.Record.{Record}
use Rattle.records.specs.declared.Record.TheVariants as kind
use Rattle.records.specs.declared.Completion.TheVariants as completion
use Rattle.records.specs.State.{State, scene_of, with_live}
use Rattle.records.specs.Answer.{Effect, refused, does, Ran, reply, answered}
use Rattle.records.specs.PortRecords.{cleared_dev}
use Rattle.records.specs.Run.{effect, run}
use Rattle.records.specs.Sound.{Sound, Fitting}
use Rattle.records.specs.EachKind.{Does, Ends}
use Rattle.records.proofs.Leaving.{Leaves, Every, every}
use Rattle.records.proofs.Resting.{Resting, sound_rests, stopped_rests}

-- slots may become Ready in such a record
abbrev pub moves : Record → Bool
moves (kind.Advance by) = true
moves (kind.Read q) = false
moves (kind.Write q value) = true
moves (kind.Message m) = false
moves kind.LinkUp = true
moves kind.LinkDown = false
moves kind.ColdReset = false
moves kind.ReadQueue = false
moves kind.RemoveOldest = false
moves (kind.ClearBits mask) = false
moves (kind.Control b) = false
moves (kind.HardwareSet slot word mask) = false
moves kind.ReadBits = false
moves kind.NoKind = false

-- what a record does, answered as it stands
abbrev pub at_once : State → Effect State → Ran State
at_once s (refused c d) = record { after = s; reply = reply c no_tally d }
at_once s (does t tally d) = record { after = t; reply = reply completion.Done tally d }

module _ (setup : Setup) (defaults : List ℕ) (s : State) (sound : Sound setup s) (fits : Fitting setup defaults s) where
  abbrev Rests : Record → State → Tally → ℕ → Type 0
  Rests r t tally d = moves r ≡ false → Resting setup t.port.clock t.port.owed t.statuses

  each_rests : Every Rests setup defaults s
  unfolding frs_arrive drs_arrives drs_set cleared_dev after_reset after_link_down after_cold_reset
  each_rests =
      let rests = sound_rests setup defaults s sound fits in
      let stopped = stopped_rests setup defaults s fits in
      record {
        advance = λ by e n. absurd (true≢false n);
        read = λ q e n. rests;
        write = λ q value e n. absurd (true≢false n);
        drs = λ id e n. rests;
        frs = λ id reason e n. rests;
        link_up = λ e n. absurd (true≢false n);
        link_down = λ e n. stopped;
        cold_reset = λ n. stopped;
        read_queue = λ n. rests;
        remove_oldest = λ n. rests;
        clear_bits = λ mask n. rests;
        control = λ b n. rests;
        hardware_set = λ slot word mask e n. rests;
        read_bits = λ n. rests;
        no_kind = λ n. rests;
      }

  answered_at_once : (r : Record) (e : Effect State) → Leaves (Rests r) e → moves r ≡ false → answered setup s e ≡ at_once s e
  unfolding answered
  answered_at_once r (refused c d) h n = refl
  answered_at_once r (does t tally d) h n =
      let rests = h n in
      ap (λ (x : Scene). record { after = with_live x t.live; reply = reply completion.Done x.root.tally d }) (settle_rest setup (scene_of t tally) rests.due rests.drs)

  pub at_once_lem : (r : Record) → moves r ≡ false → run setup defaults s r ≡ at_once s (effect setup defaults s r)
  unfolding run
  at_once_lem r n = answered_at_once r (effect setup defaults s r) (every Rests setup defaults s each_rests r) n

  -- what holds before slots become Ready holds once the record is answered
  pub ends : (P : State → Type 0) (r : Record) → moves r ≡ false → Does P (effect setup defaults s r) → Ends P (run setup defaults s r)
  ends P r n h = subst (Ends P) (sym (at_once_lem r n)) (by (effect setup defaults s r) h)
    where
      by : (e : Effect State) → Does P e → Ends P (at_once s e)
      by (refused c d) l = absurd l
      by (does t tally d) l = record { state = l.0; answer = ap₂ (λ (t : Tally) (d : ℕ). reply completion.Done t d) l.1 l.2 }
