-- In a sound state nothing happens in a record other than 01, 03, 04 and 05; in a message its own arrival does, and in a write what the slot does that it starts.
use Prim.Native.Nat.{ℕ}
use mathlib.Core.Bool.{Bool, true, false, cond, true≢false}
use mathlib.Core.List.{List, [], ◌∷◌, ◌++◌, append-nil}
use mathlib.Core.Path.{◌≡◌, refl, sym, ap, ap₂, ◌∙◌}
use lib.ListN.{set}
use lib.Seq.{set-get_or}
use Rattle.bits.proofs.Choices.{either_way}
use Rattle.std.specs.Prelude.{Option, Some, None}
use Rattle.messages.specs.declared.Message.{Message}
use Rattle.messages.specs.declared.Message.TheVariants.{Drs, Frs}
use Rattle.frs_queue.specs.declared.Tally.{Tally}
use Rattle.frs_queue.specs.Queue.{no_tally}
use Rattle.registers.specs.declared.Kind.{Kind}
use Rattle.registers.specs.Rows.{flr_capability_word}
use Rattle.registers.specs.Words.{write_word}
use Rattle.readiness.specs.declared.Setup.{Setup}
use Rattle.readiness.specs.declared.Slot.{Slot}
use Rattle.readiness.specs.declared.Status.{Status}
use Rattle.readiness.specs.Status.{ready, entry_of, after_reset, after_link_down, after_cold_reset}
use Rattle.readiness.specs.Root.{Root, frs_arrive, drs_set, drs_arrives}
use Rattle.readiness.specs.Events.{Event, due}
use Rattle.readiness.specs.Settle.{Scene, drs_due, tells}
use Rattle.records.specs.declared.Record.{Record}
use Rattle.records.specs.declared.Record.TheVariants as kind
use Rattle.records.specs.declared.Request.{Request}
use Rattle.records.specs.declared.Completion.{Completion}
use Rattle.records.specs.declared.Completion.TheVariants as completion
use Rattle.records.specs.State.{State, Seat, seat, seat_of, put_back, scene_of, root_of, slot_kind}
use Rattle.records.specs.Answer.{Effect, refused, does}
use Rattle.records.specs.Requests.{word_at, written, after_flr, write_effect, write_seat}
use Rattle.records.specs.Route.{route_completion, is_access}
use Rattle.records.specs.PortRecords.{cleared_dev, message_effect, message_done}
use Rattle.records.specs.Run.{at_slot, at_port, front_of, effect}
use Rattle.records.specs.Sound.{Sound, Fitting}
use Rattle.records.proofs.Leaving.{Leaves, Every, every, routed, with_root}
use Rattle.records.proofs.Resting.{Resting, sound_rests, stopped_rests}
use Rattle.records.proofs.AtOnce.{moves}
use Rattle.happenings.specs.Happenings.{Happening, drs_happens, drs_told, slots_happen, settling, by_message, by_record, happenings_in, happenings}
use Rattle.happenings.specs.declared.Note.{Note}
use Rattle.happenings.specs.declared.Note.TheVariants.{Plain, FlrStarted, NoFlr, EntersD3hot, WakesReset, WakesKept}
use Rattle.happenings.specs.Writes.{note_of, left_by}
use Rattle.happenings.specs.inner.Started.{started_by}
use Rattle.happenings.proofs.Notes.{notes}

-- where nothing is due and no DRS is to be told, nothing happens
pub rests_quiet : (setup : Setup) (x : Scene) → due x.root.dev.clock x.statuses ≡ [] → drs_due setup x ≡ false → settling setup x ≡ []
unfolding settling drs_told slots_happen
rests_quiet setup x p q =
    ap₂ (λ (b : Bool) (es : List Event). cond b (drs_happens true x.root.dev.clock setup.port_id x.root) [] ++ slots_happen setup es (tells setup x)) q p

module _ (setup : Setup) (defaults : List ℕ) (s : State) (sound : Sound setup s) (fits : Fitting setup defaults s) where
  -- once the record has done its part
  abbrev Rests : Record → State → Tally → ℕ → Type 0
  Rests r t tally d = moves r ≡ false → Resting setup t.port.clock t.port.owed t.statuses

  quiet : (t : State) → Resting setup t.port.clock t.port.owed t.statuses → settling setup (scene_of t no_tally) ≡ []
  quiet t rests = rests_quiet setup (scene_of t no_tally) rests.due rests.drs

  each_rests : Every Rests setup defaults s
  unfolding frs_arrive drs_arrives drs_set cleared_dev after_reset after_link_down after_cold_reset
  each_rests =
      let rests = sound_rests setup defaults s sound fits in
      let stopped = stopped_rests setup defaults s fits in
      record {
        advance = λ by e n. absurd (true≢false n);
        read = λ q e n. rests;
        write = λ q value e n. absurd (true≢false n);
        drs = λ id e n. rests;
        frs = λ id reason e n. rests;
        link_up = λ e n. absurd (true≢false n);
        link_down = λ e n. stopped;
        cold_reset = λ n. stopped;
        read_queue = λ n. rests;
        remove_oldest = λ n. rests;
        clear_bits = λ mask n. rests;
        control = λ b n. rests;
        hardware_set = λ slot word mask e n. rests;
        read_bits = λ n. rests;
        no_kind = λ n. rests;
      }

  -- its own alone, if it is done
  abbrev own_in : List Happening → Effect State → List Happening
  own_in own (refused c d) = []
  own_in own (does t tally d) = own

  own_alone : (r : Record) (own : List Happening) (e : Effect State) → Leaves (Rests r) e → moves r ≡ false → happenings_in setup own e ≡ own_in own e
  own_alone r own (refused c d) h n = refl
  own_alone r own (does t tally d) h n = ap (λ (l : List Happening). own ++ l) (quiet t (h n)) ∙ append-nil own

  no_own : (e : Effect State) → own_in [] e ≡ []
  no_own (refused c d) = refl
  no_own (does t tally d) = refl

  -- nothing
  pub nothing-happens : (r : Record) → moves r ≡ false → by_record setup s r ≡ [] → happenings setup defaults s r ≡ []
  unfolding happenings
  nothing-happens r n o =
      own_alone r (by_record setup s r) (effect setup defaults s r) (every Rests setup defaults s each_rests r) n
      ∙ ap (λ (own : List Happening). own_in own (effect setup defaults s r)) o
      ∙ no_own (effect setup defaults s r)

  message_own : (m : Option Message) → own_in (by_message setup s m) (effect setup defaults s (kind.Message m)) ≡ cond s.port.link (by_message setup s m) []
  unfolding effect message_effect message_done
  message_own m = by s.port.link m
    where
      by : (b : Bool) (m : Option Message)
          → own_in (by_message setup s m) (at_port s (cond b (message_done setup.port_id m (front_of s)) (refused completion.WrongState 0))) ≡ cond b (by_message setup s m) []
      by true None = refl
      by true (Some (Drs id)) = refl
      by true (Some (Frs id reason)) = refl
      by false m = refl

  -- what arrives, with the link up
  pub message_happens : (m : Option Message) → happenings setup defaults s (kind.Message m) ≡ cond s.port.link (by_message setup s m) []
  unfolding happenings
  message_happens m =
      own_alone (kind.Message m) (by_message setup s m) (effect setup defaults s (kind.Message m)) (every Rests setup defaults s each_rests (kind.Message m)) refl
      ∙ message_own m

  -- a slot that keeps its status
  pub same_quiet : (slot : ℕ) → settling setup (record { statuses = set s.statuses slot (seat_of s slot).status; root = root_of s no_tally }) ≡ []
  same_quiet slot =
      ap (λ (l : List Status). settling setup (record { statuses = l; root = root_of s no_tally })) (set-get_or s.statuses slot ready)
      ∙ quiet s (sound_rests setup defaults s sound fits)

-- ---- a write

module _ (setup : Setup) (defaults : List ℕ) (s : State) (q : Request) (value : ℕ) where
  abbrev of : Kind
  of = slot_kind setup q.slot

  abbrev old : ℕ
  old = word_at s.live q.slot q.word

  abbrev new : ℕ
  new = write_word of q.word old value q.enables

  -- the status of the slot once the write has done its part
  abbrev then_status : Status
  then_status = started_by (note_of of q.word old new value q.enables (word_at defaults q.slot (flr_capability_word of))) s.port.clock (entry_of setup q.slot) (seat_of s q.slot).status

  -- what the slot's part is then
  left : (n : Note) (kind : Kind) (entry : Slot) (w : Seat)
      → (let y = left_by n kind entry defaults q.slot w in settling setup (scene_of (put_back s q.slot y) no_tally))
      ≡ settling setup (record { statuses = set s.statuses q.slot (started_by n w.dev.clock entry w.status); root = record { dev = w.dev; cells = w.cells; tally = no_tally } })
  unfolding left_by started_by after_flr
  left FlrStarted kind entry w = refl
  left WakesReset kind entry w = refl
  left WakesKept kind entry w = refl
  left NoFlr kind entry w = refl
  left EntersD3hot kind entry w = refl
  left Plain kind entry w = refl

  pub write_happens : happenings setup defaults s (kind.Write q value)
      ≡ cond (is_access (routed setup s false q)) (settling setup (record { statuses = set s.statuses q.slot then_status; root = root_of s no_tally })) []
  unfolding happenings effect write_effect
  write_happens = by (is_access (routed setup s false q)) (route_completion (routed setup s false q))
    where
      by : (b : Bool) (c : Completion) → happenings_in setup [] (at_slot s q.slot (cond b (does (write_seat of (entry_of setup q.slot) defaults q value (seat_of s q.slot)) no_tally 0) (refused c 0)))
          ≡ cond b (settling setup (record { statuses = set s.statuses q.slot then_status; root = root_of s no_tally })) []
      by true c =
          ap (λ (y : Seat). settling setup (scene_of (put_back s q.slot y) no_tally)) (notes of (entry_of setup q.slot) defaults q value (seat_of s q.slot))
          ∙ left (note_of of q.word old new value q.enables (word_at defaults q.slot (flr_capability_word of))) of (entry_of setup q.slot) (written q.slot q.word new (seat_of s q.slot))
      by false c = refl
