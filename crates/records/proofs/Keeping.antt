-- Every record keeps a sound state sound, and the lengths of all that is lent.
use Prim.Native.Nat.{ℕ, ◌/◌, ◌%◌, ◌≤◌, ◌<◌}
use native.Mathlib.Nat.{zero-add}
use native.Mathlib.Omega.{arith}
use mathlib.Core.Path.{◌≡◌, refl, ap, sym, subst, ◌∙◌}
use mathlib.Core.Bool.{Bool, true, false, not, ◌||◌, true≢false, false≢true}
use mathlib.Core.List.{List, [], ◌∷◌}
use lib.Dec.{eqb, leb, ltb}
use lib.ListN.{length, set, take, drop, length-set}
use lib.Seq.{get_or-set_other}
use borrow.Author.Tests.{ltb-true, leb-true, le-leb, eqb-false}
use Rattle.bits.proofs.Choices.{either_way}
use Rattle.bits.specs.Bits.{bit}
use Rattle.times.specs.declared.Nanos.{Nanos}
use Rattle.times.specs.Codes.{nanos_of, allowed}
use Rattle.times.specs.Moments.{sum_of, least_of, clock_end}
use Rattle.times.proofs.Laws.{allowed_most, sum_plain, sum_later, sum_code, least_both}
use Rattle.std.specs.Prelude.{Option, Some, None}
use Rattle.messages.specs.declared.Message.{Message}
use Rattle.messages.specs.declared.Message.TheVariants.{Drs, Frs}
use Rattle.bits.specs.Bytes.{Bytes, byte_at}
use Rattle.bits.proofs.Bytes.{byte_at_lem, bytes_take, bytes_drop}
use Rattle.messages.specs.Messages.{read_message}
use Rattle.messages.proofs.Cases.{cases}
use Rattle.registers.specs.declared.Kind.{Kind}
use Rattle.config_space.proofs.Slots.{link_reset_slot_length, flr_reset_slot_length, link_reset_all_length, cold_reset_defaults}
use Rattle.registers.specs.Words.{write_word}
use Rattle.config_space.specs.Functions.{link_reset_slot}
use Rattle.frs_queue.specs.declared.Frs as queue_frs
use Rattle.frs_queue.specs.Queue.{no_tally}
use Rattle.readiness.specs.declared.Cause.TheVariants as cause
use Rattle.readiness.specs.declared.Phase.{Phase}
use Rattle.readiness.specs.declared.Phase.TheVariants.{Down, Pending, Ready}
use Rattle.readiness.specs.declared.Status.{Status}
use Rattle.readiness.specs.declared.Slot.{Slot}
use Rattle.readiness.specs.declared.Setup.{Setup}
use Rattle.readiness.specs.declared.Dev.{Dev}
use Rattle.readiness.specs.Status.{ready, pending, is_ready, entry_of, each_from, ready_after_link_up, status_after_reset, after_reset, after_link_down, after_cold_reset, flr_most, started_by_flr, started_by_d3hot}
use Rattle.readiness.specs.Root.{frs_arrive, drs_arrives, drs_set}
use Rattle.readiness.proofs.Clauses.{each_at, each-length}
use Rattle.records.specs.declared.Request.{Request}
use Rattle.records.specs.declared.Record.{Record}
use Rattle.records.specs.declared.Record.TheVariants.{Advance, Read, Write, Message as MessageRecord, LinkUp, LinkDown, ColdReset, ReadQueue, RemoveOldest, ClearBits, Control, HardwareSet, ReadBits, NoKind}
use Rattle.records.specs.declared.Completion.TheVariants as completion
use Rattle.records.specs.State.{State, state, Seat, seat_of, status_at, scene_of, slot_kind}
use Rattle.records.specs.Decode.{decode}
use Rattle.records.specs.Answer.{Effect, refused, does, answered}
use Rattle.records.specs.Route.{route_of, is_access}
use Rattle.records.specs.Requests.{word_at, written, write_seat, after_flr, after_d3hot, read_effect, write_effect, hardware_effect}
use Rattle.records.specs.PortRecords.{Front, front_root, message_done, message_effect, read_queue_effect, remove_effect, cleared_dev, clear_effect, control_of, control_effect, read_bits_effect}
use Rattle.records.specs.CardRecords.{advance_effect, link_up_effect, link_down_effect, cold_reset_effect}
use Rattle.records.specs.Arrivals.{of_record, arrivals_in, arrivals}
use Rattle.records.specs.Run.{at_slot, at_port, front_of, effect, run}
use Rattle.records.specs.Sound.{sound_phase, matches_link, Sound, Fitting}
use Rattle.records.specs.StaysSound.{SoundSetup, Keeps}
use Rattle.records.proofs.SoundFacts.{flr_end_exactly, pending_exactly, phase_test, link_test, cell_test}
use Rattle.records.proofs.Leaving.{write_cases}
use Rattle.records.proofs.Parted.{no_slot_read, no_slot_write, no_slot_set, access_ready}
use Rattle.records.proofs.QueueKept.{SoundRing, AllSoundFrs, both_sound, cells-sound, drs-sound, sent_sound, frs_keeps, drs_keeps, frs-cells, drs-cells, removed_keeps, empty_sound}
use Rattle.records.proofs.SlotsKept.{set_keeps, each-past}
use Rattle.records.proofs.Kept.{SoundMessage, SoundRecord, keeps_itself, keeps_on}
use Rattle.records.proofs.Settled.{Starting, Settling, slots_due, settle_sound}

-- ---- what each record leaves before slots become Ready

-- a sound slot is Starting, also at a later clock
sound_starting : (clock : Nanos) (p : Phase) → sound_phase clock p ≡ true → Starting clock p
sound_starting clock Down e = tt
sound_starting clock Ready e = tt
sound_starting clock (Pending c t) e = let x = (pending_exactly clock c t).0 e in (x.1, (flr_end_exactly c t).1 x.2)

starting_later : (clock later : Nanos) → clock.0 ≤ later.0 → (p : Phase) → Starting clock p → Starting later p
starting_later clock later h Down e = tt
starting_later clock later h Ready e = tt
starting_later clock later h (Pending c t) e = (let m = e.0 in omega arith, e.1)

-- moments: a clock that isn't past its end has room for every code's time
flr_starting : (clock : Nanos) (e : Slot) → clock.0 ≤ clock_end → allowed e.flr ≡ true → Starting clock (started_by_flr clock e).phase
unfolding started_by_flr
flr_starting clock e h a =
    let t = nanos_of e.flr in
    let most = allowed_most e.flr a in
    let least = least_both t flr_most in
    let end = sum_plain clock (least_of t flr_most) (let m = least.0 in omega arith) in
    let time = sum_code clock e.flr (omega arith) in
    (omega arith, le-leb (sum_of clock (least_of t flr_most)).0 (sum_of clock t).0 (let m = least.0 in omega arith))

d3hot_starting : (clock : Nanos) (e : Slot) → clock.0 ≤ clock_end → allowed e.d3hot ≡ true → Starting clock (started_by_d3hot clock e).phase
unfolding started_by_d3hot
d3hot_starting clock e h a =
    let most = allowed_most e.d3hot a in
    let time = sum_code clock e.d3hot (omega arith) in
    (omega arith, refl)

module _ (setup : Setup) (good : SoundSetup setup) (defaults : List ℕ) (s : State) (h : Sound setup s) (fits : Fitting setup defaults s) where
  -- what is done is sound but for settling
  abbrev EffectKeeps : Effect State → Type 0
  EffectKeeps (refused c v) = Unit {0}
  EffectKeeps (does t tally v) = Settling setup defaults s t

  ring : SoundRing s.cells s.port.queue
  ring = record { start = h.start; depth = h.depth; values = cells-sound s.cells s.port.queue (cell_test h) }

  phases_starting : (i : ℕ) → i < setup.slots → Starting s.port.clock (status_at s.statuses i).phase
  phases_starting i l = sound_starting s.port.clock (status_at s.statuses i).phase (phase_test h i l)

  -- ---- the port alone
  record PortKeeps (y : Front) : Type 0 where
    clock : y.dev.clock ≡ s.port.clock
    link : y.dev.link ≡ s.port.link
    owed : y.dev.owed ≡ s.port.owed
    signalling : y.dev.control.signalling ≤ 2
    ring : SoundRing y.cells y.dev.queue
    cells : length y.cells ≡ length s.cells

  abbrev PortEffectKeeps : Effect Front → Type 0
  PortEffectKeeps (refused c v) = Unit {0}
  PortEffectKeeps (does y tally v) = PortKeeps y

  port_settling : (e : Effect Front) → PortEffectKeeps e → EffectKeeps (at_port s e)
  port_settling (refused c v) k = tt
  port_settling (does y tally v) k =
      record {
        clock = subst (λ (c : Nanos). c.0 ≤ clock_end) (sym k.clock) h.clock;
        ring = k.ring;
        signalling = k.signalling;
        phases = λ i l. subst (λ (c : Nanos). Starting c (status_at s.statuses i).phase) (sym k.clock) (phases_starting i l);
        links = λ i l. ap (λ (b : Bool). matches_link b (status_at s.statuses i).phase) k.link ∙ link_test h i l;
        owed = λ e. k.link ∙ h.owed_link (sym k.owed ∙ e);
        past = fits.past;
        cells = k.cells;
        live = refl;
        statuses = refl;
      }

  -- the port as it is
  port_same : PortKeeps (front_of s)
  port_same = record { clock = refl; link = refl; owed = refl; signalling = h.signalling; ring = ring; cells = refl }

  message_keeps : (m : Option Message) → SoundMessage m → PortEffectKeeps (message_done setup.port_id m (front_of s))
  unfolding message_done drs_arrives drs_set frs_arrive
  message_keeps None k = tt
  message_keeps (Some (Drs id)) k =
      record {
        clock = refl;
        link = refl;
        owed = refl;
        signalling = h.signalling;
        ring = drs_keeps setup.port_id (front_root (front_of s)) good.port_id ring;
        cells = drs-cells setup.port_id (front_root (front_of s));
      }
  message_keeps (Some (Frs id reason)) k =
      record {
        clock = refl;
        link = refl;
        owed = refl;
        signalling = h.signalling;
        ring = frs_keeps (record { id = id; reason = reason } ∷ []) (front_root (front_of s)) (k, tt) ring;
        cells = frs-cells (record { id = id; reason = reason } ∷ []) (front_root (front_of s));
      }

  control_keeps : (b : ℕ) → PortEffectKeeps (control_effect b (front_of s))
  unfolding control_effect control_of
  control_keeps b =
      either_way PortEffectKeeps (ltb 15 b || eqb (b / 4 % 4) 3) _ _ (λ e. tt)
      (λ e.
      record {
        clock = refl;
        link = refl;
        owed = refl;
        signalling = not_three (b / 4) (eqb-false (b / 4 % 4) 3 (second (ltb 15 b) (eqb (b / 4 % 4) 3) e));
        ring = ring;
        cells = refl;
      })
    where
      second : (a c : Bool) → (a || c) ≡ false → c ≡ false
      second true c e = absurd (true≢false e)
      second false c e = e

      not_three : (n : ℕ) → (n % 4 ≡ 3 → ⊥) → n % 4 ≤ 2
      not_three n f = omega arith

  -- ---- one slot
  record SlotKeeps (y : Seat) : Type 0 where
    dev : y.dev ≡ s.port
    cells : y.cells ≡ s.cells
    live : length y.live ≡ length s.live
    phase : Starting s.port.clock y.status.phase
    link : matches_link s.port.link y.status.phase ≡ true

  abbrev SlotEffectKeeps : Effect Seat → Type 0
  SlotEffectKeeps (refused c v) = Unit {0}
  SlotEffectKeeps (does y tally v) = SlotKeeps y

  slot_settling : (i : ℕ) → i < setup.slots → (e : Effect Seat) → SlotEffectKeeps e → EffectKeeps (at_slot s i e)
  slot_settling i l (refused c v) k = tt
  slot_settling i l (does y tally v) k =
      subst (λ (d : Dev). Settling setup defaults s (state d (set s.statuses i y.status) y.live y.cells)) (sym k.dev)
      (subst (λ (c : List ℕ). Settling setup defaults s (state s.port (set s.statuses i y.status) y.live c)) (sym k.cells)
      (record {
        clock = h.clock;
        ring = ring;
        signalling = h.signalling;
        phases = λ j m. set_keeps (λ (v : Status). Starting s.port.clock v.phase) s.statuses i j y.status k.phase (phases_starting j m);
        links = λ j m. set_keeps (λ (v : Status). matches_link s.port.link v.phase ≡ true) s.statuses i j y.status k.link (link_test h j m);
        owed = h.owed_link;
        past = λ j m. get_or-set_other s.statuses i j y.status ready (λ e. omega arith) ∙ fits.past j m;
        cells = refl;
        live = k.live;
        statuses = length-set s.statuses i y.status;
      }))

  module _ (i : ℕ) (l : i < setup.slots) where
    -- a slot whose registers change, but not their number
    words_keep : (live : List ℕ) → length live ≡ length s.live → SlotKeeps (record { dev = s.port; status = status_at s.statuses i; live = live; cells = s.cells })
    words_keep live e = record { dev = refl; cells = refl; live = e; phase = phases_starting i l; link = link_test h i l }

    link_up : status_at s.statuses i ≡ ready → s.port.link ≡ true
    link_up e = sym (ap (λ (v : Status). matches_link s.port.link v.phase) e) ∙ link_test h i l

    read_keeps : (q : Request) → SlotEffectKeeps (read_effect setup.slots (slot_kind setup i) q (seat_of s i))
    unfolding read_effect
    read_keeps q =
        either_way SlotEffectKeeps (is_access (route_of setup.slots (slot_kind setup i) s.port (status_at s.statuses i) true q)) _ _ (λ e. words_keep s.live refl) (λ e. tt)

    write_keeps : (q : Request) (value : ℕ) → SlotEffectKeeps (write_effect setup.slots (slot_kind setup i) (entry_of setup i) defaults q value (seat_of s i))
    unfolding write_effect after_flr after_d3hot started_by_flr started_by_d3hot
    write_keeps q value =
        either_way SlotEffectKeeps (is_access (route_of setup.slots (slot_kind setup i) s.port (status_at s.statuses i) false q)) _ _
        (λ e. done (link_up (access_ready setup.slots (slot_kind setup i) s.port (status_at s.statuses i) false q e))) (λ e. tt)
      where
        kind : Kind
        kind = slot_kind setup i

        new : ℕ
        new = write_word kind q.word (word_at s.live q.slot q.word) value q.enables

        w : Seat
        w = written q.slot q.word new (seat_of s i)

        words : length w.live ≡ length s.live
        words = length-set s.live _ new

        done : s.port.link ≡ true → SlotKeeps (write_seat kind (entry_of setup i) defaults q value (seat_of s i))
        done up =
            write_cases SlotKeeps kind (entry_of setup i) defaults q value (seat_of s i)
            (record {
              dev = refl;
              cells = refl;
              live = flr_reset_slot_length kind q.slot w.live defaults ∙ words;
              phase = flr_starting s.port.clock (entry_of setup i) h.clock (good.codes i l).flr;
              link = up;
            })
            (record {
              dev = refl;
              cells = refl;
              live = either_way (λ (m : List ℕ). length m ≡ length s.live) (bit new 3) w.live (link_reset_slot kind q.slot w.live defaults)
                  (λ e. words) (λ e. link_reset_slot_length kind q.slot w.live defaults ∙ words);
              phase = d3hot_starting s.port.clock (entry_of setup i) h.clock (good.codes i l).d3hot;
              link = up;
            })
            (words_keep w.live words)

    set_keeps_slot : (slot word mask : ℕ) → SlotEffectKeeps (hardware_effect setup.slots (slot_kind setup i) slot word mask (seat_of s i))
    unfolding hardware_effect
    set_keeps_slot slot word mask =
        either_way SlotEffectKeeps (not (ltb slot setup.slots)) _ _ (λ e. tt)
        (λ e. either_way SlotEffectKeeps (ltb 63 word) _ _ (λ e. tt)
        (λ e. either_way SlotEffectKeeps (not (is_ready (status_at s.statuses i))) _ _ (λ e. tt) (λ e. words_keep _ (length-set s.live _ _))))

  -- a slot that there is not is refused
  at_slot_keeps : (i : ℕ) (e : Effect Seat) → (i < setup.slots → SlotEffectKeeps e) → (ltb i setup.slots ≡ false → e ≡ refused completion.NoSlot 0) → EffectKeeps (at_slot s i e)
  at_slot_keeps i e f g = by (ltb i setup.slots) refl
    where
      by : (b : Bool) → ltb i setup.slots ≡ b → EffectKeeps (at_slot s i e)
      by true q = let l = ltb-true i setup.slots q in slot_settling i l e (f l)
      by false q = subst (λ (x : Effect Seat). EffectKeeps (at_slot s i x)) (sym (g q)) tt

  -- ---- the whole card
  advance_keeps : (by : Nanos) → EffectKeeps (advance_effect by s)
  unfolding advance_effect
  advance_keeps by =
      let t = sum_of s.port.clock by in
      either_way EffectKeeps (leb t.0 clock_end) _ _
      (λ e.
      record {
        clock = leb-true t.0 clock_end e;
        ring = ring;
        signalling = h.signalling;
        phases = λ i l. starting_later s.port.clock t (sum_later s.port.clock by (let c = h.clock in omega arith)) (status_at s.statuses i).phase (phases_starting i l);
        links = link_test h;
        owed = h.owed_link;
        past = fits.past;
        cells = refl;
        live = refl;
        statuses = refl;
      })
      (λ e. tt)

  -- every slot anew
  module _ (f : ℕ → Status) where
    all_anew : (P : Status → Type 0) → ((i : ℕ) → i < setup.slots → P (f i)) → (i : ℕ) → i < setup.slots → P (status_at (each_from 0 setup.slots f s.statuses) i)
    all_anew P p i l =
        let there : i < length s.statuses = let few = fits.slots in omega arith in
        subst P (sym (each_at setup.slots f 0 s.statuses i there (omega arith) ∙ ap f (zero-add i))) (p i l)

    past-anew : (i : ℕ) → setup.slots ≤ i → status_at (each_from 0 setup.slots f s.statuses) i ≡ ready
    past-anew i l = each-past setup.slots f 0 s.statuses i (omega arith) ∙ fits.past i l

  link_up_keeps : EffectKeeps (link_up_effect setup s)
  unfolding link_up_effect ready_after_link_up
  link_up_keeps =
      either_way EffectKeeps s.port.link _ _ (λ e. tt)
      (λ e.
      record {
        clock = h.clock;
        ring = ring;
        signalling = h.signalling;
        phases = all_anew starts (λ (v : Status). Starting s.port.clock v.phase) (λ i l. up i l);
        links = all_anew starts (λ (v : Status). matches_link true v.phase ≡ true) (λ i l. refl);
        owed = λ o. refl;
        past = past-anew starts;
        cells = refl;
        live = refl;
        statuses = each-length 0 setup.slots starts s.statuses;
      })
    where
      starts : ℕ → Status
      starts i = pending cause.LinkUp (ready_after_link_up setup s.port i)

      up : (i : ℕ) → i < setup.slots → Starting s.port.clock (starts i).phase
      up i l =
          let c = (entry_of setup i).dl_up in
          let clock = h.clock in
          let time = sum_code s.port.clock c (omega arith) in
          let most = allowed_most c (good.codes i l).dl_up in
          (omega arith, refl)

  some_cells : 0 < length s.cells
  some_cells = let l = h.start in omega arith

  link_down_keeps : EffectKeeps (link_down_effect setup defaults s)
  unfolding link_down_effect after_link_down after_reset
  link_down_keeps =
      either_way EffectKeeps s.port.link _ _
      (λ e.
      record {
        clock = h.clock;
        ring = empty_sound s.cells _ some_cells refl refl;
        signalling = h.signalling;
        phases = all_anew (status_after_reset setup s.port) (λ (v : Status). Starting s.port.clock v.phase) (λ i l. tt);
        links = all_anew (status_after_reset setup s.port) (λ (v : Status). matches_link false v.phase ≡ true) (λ i l. refl);
        owed = λ o. absurd (false≢true o);
        past = past-anew (status_after_reset setup s.port);
        cells = refl;
        live = link_reset_all_length (slot_kind setup) s.live defaults;
        statuses = each-length 0 setup.slots (status_after_reset setup s.port) s.statuses;
      })
      (λ e. tt)

  cold_reset_keeps : EffectKeeps (cold_reset_effect setup defaults s)
  unfolding cold_reset_effect after_cold_reset after_reset
  cold_reset_keeps =
      record {
        clock = h.clock;
        ring = empty_sound s.cells _ some_cells refl refl;
        signalling = omega arith;
        phases = all_anew (status_after_reset setup s.port) (λ (v : Status). Starting s.port.clock v.phase) (λ i l. tt);
        links = all_anew (status_after_reset setup s.port) (λ (v : Status). matches_link false v.phase ≡ true) (λ i l. refl);
        owed = λ o. absurd (false≢true o);
        past = past-anew (status_after_reset setup s.port);
        cells = refl;
        live = ap length (cold_reset_defaults s.live defaults (fits.words ∙ sym fits.default_words)) ∙ fits.default_words ∙ sym fits.words;
        statuses = each-length 0 setup.slots (status_after_reset setup s.port) s.statuses;
      }

  -- ---- every record
  effect_keeps : (r : Record) → SoundRecord r → EffectKeeps (effect setup defaults s r)
  unfolding effect message_effect cleared_dev
  effect_keeps (Advance by) k = advance_keeps by
  effect_keeps (Read q) k =
      at_slot_keeps q.slot _ (λ l. read_keeps q.slot l q) (no_slot_read setup.slots (slot_kind setup q.slot) (seat_of s q.slot) q)
  effect_keeps (Write q value) k =
      at_slot_keeps q.slot _ (λ l. write_keeps q.slot l q value)
      (no_slot_write setup.slots (slot_kind setup q.slot) (seat_of s q.slot) (entry_of setup q.slot) defaults q value)
  effect_keeps (HardwareSet slot word mask) k =
      at_slot_keeps slot _ (λ l. set_keeps_slot slot l slot word mask) (no_slot_set setup.slots (slot_kind setup slot) (seat_of s slot) slot word mask)
  effect_keeps (MessageRecord m) k = port_settling (message_effect setup.port_id m (front_of s)) (either_way PortEffectKeeps s.port.link _ _ (λ e. message_keeps m k) (λ e. tt))
  effect_keeps LinkUp k = link_up_keeps
  effect_keeps LinkDown k = link_down_keeps
  effect_keeps ColdReset k = cold_reset_keeps
  effect_keeps ReadQueue k = port_settling (read_queue_effect (front_of s)) port_same
  effect_keeps RemoveOldest k =
      port_settling (remove_effect (front_of s))
      (record { clock = refl; link = refl; owed = refl; signalling = h.signalling; ring = removed_keeps s.cells s.port.queue ring; cells = refl })
  effect_keeps (ClearBits mask) k =
      port_settling (clear_effect mask (front_of s))
      (record { clock = refl; link = refl; owed = refl; signalling = h.signalling; ring = record { start = h.start; depth = h.depth; values = cells-sound s.cells (cleared_dev mask s.port).queue (cell_test h) }; cells = refl })
  effect_keeps (Control b) k = port_settling (control_effect b (front_of s)) (control_keeps b)
  effect_keeps ReadBits k = port_settling (read_bits_effect (front_of s)) port_same
  effect_keeps NoKind k = port_settling (does (front_of s) no_tally 0) port_same

  answered_keeps : (e : Effect State) → EffectKeeps e → Keeps setup defaults s (answered setup s e).after
  unfolding answered
  answered_keeps (refused c v) k = keeps_itself setup defaults s h fits
  answered_keeps (does t tally v) k = settle_sound setup good defaults s fits t tally k

  -- EVERY RECORD KEEPS A SOUND STATE SOUND, and the numbers of cells, live registers and statuses.
  pub run_keeps : (r : Record) → SoundRecord r → Keeps setup defaults s (run setup defaults s r).after
  unfolding run
  run_keeps r k = answered_keeps (effect setup defaults s r) (effect_keeps r k)

  -- ---- what arrives
  own_sound : (r : Record) → SoundRecord r → AllSoundFrs (of_record setup s r)
  own_sound (MessageRecord None) k = tt
  own_sound (MessageRecord (Some (Drs id))) k = drs-sound setup.port_id s.port good.port_id
  own_sound (MessageRecord (Some (Frs id reason))) k = (k, tt)
  own_sound (Advance by) k = tt
  own_sound (Read q) k = tt
  own_sound (Write q value) k = tt
  own_sound LinkUp k = tt
  own_sound LinkDown k = tt
  own_sound ColdReset k = tt
  own_sound ReadQueue k = tt
  own_sound RemoveOldest k = tt
  own_sound (ClearBits mask) k = tt
  own_sound (Control b) k = tt
  own_sound (HardwareSet slot word mask) k = tt
  own_sound ReadBits k = tt
  own_sound NoKind k = tt

  in_effect : (own : List queue_frs.Frs) → AllSoundFrs own → (e : Effect State) → EffectKeeps e → AllSoundFrs (arrivals_in setup own e)
  in_effect own o (refused c v) k = tt
  in_effect own o (does t tally v) k =
      both_sound own _ o (sent_sound setup good.bus good.port_id (scene_of t no_tally) (slots_due setup good defaults s fits t k))

  -- WHAT ARRIVES IN A RECORD has an ID of 16 bits and a reason that an FRS may have.
  pub arrivals-sound : (r : Record) → SoundRecord r → AllSoundFrs (arrivals setup defaults s r)
  unfolding arrivals
  arrivals-sound r k = in_effect (of_record setup s r) (own_sound r k) (effect setup defaults s r) (effect_keeps r k)

-- ---- records of bytes

message_sound : (m : List ℕ) → Bytes m → SoundMessage (read_message m)
message_sound m b = cases SoundMessage m (λ l. tt) (λ l a. (omega (arith, byte_at_lem m 4 b, byte_at_lem m 5 b), a)) tt

-- A record that is read from bytes, any bytes, has an ID of 16 bits and a reason that an FRS may have.
pub decode-sound : (r : List ℕ) → Bytes r → SoundRecord (decode r)
unfolding decode
decode-sound r b =
    either_way SoundRecord (eqb (byte_at r 0) 0x01) _ _ (λ e. tt)
    (λ n. either_way SoundRecord (eqb (byte_at r 0) 0x02) _ _ (λ e. tt)
    (λ n. either_way SoundRecord (eqb (byte_at r 0) 0x03) _ _ (λ e. tt)
    (λ n. either_way SoundRecord (eqb (byte_at r 0) 0x04) _ _ (λ e. message_sound (take 16 (drop 1 r)) (bytes_take 16 (drop 1 r) (bytes_drop 1 r b)))
    (λ n. either_way SoundRecord (eqb (byte_at r 0) 0x05) _ _ (λ e. tt)
    (λ n. either_way SoundRecord (eqb (byte_at r 0) 0x06) _ _ (λ e. tt)
    (λ n. either_way SoundRecord (eqb (byte_at r 0) 0x07) _ _ (λ e. tt)
    (λ n. either_way SoundRecord (eqb (byte_at r 0) 0x08) _ _ (λ e. tt)
    (λ n. either_way SoundRecord (eqb (byte_at r 0) 0x09) _ _ (λ e. tt)
    (λ n. either_way SoundRecord (eqb (byte_at r 0) 0x0A) _ _ (λ e. tt)
    (λ n. either_way SoundRecord (eqb (byte_at r 0) 0x0B) _ _ (λ e. tt)
    (λ n. either_way SoundRecord (eqb (byte_at r 0) 0x0C) _ _ (λ e. tt)
    (λ n. either_way SoundRecord (eqb (byte_at r 0) 0x0D) _ _ (λ e. tt) (λ n. tt)))))))))))))

-- ---- from record to record

-- A record of bytes keeps what records before it kept.
pub bytes_keep : (setup : Setup) (defaults : List ℕ) (s t : State) → SoundSetup setup → Keeps setup defaults s t → (r : List ℕ) → Bytes r
    → Keeps setup defaults s (run setup defaults t (decode r)).after
bytes_keep setup defaults s t good k r b =
    keeps_on setup defaults s t _ k (run_keeps setup good defaults t k.sound k.fits (decode r) (decode-sound r b))
