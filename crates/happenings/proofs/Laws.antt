-- The happenings of a record: which slots become Ready in them, which FRS arrive, what they leave, and their order.
use Prim.Native.Nat.{ℕ, ◌≤◌}
use native.Mathlib.Omega.{arith}
use mathlib.Core.Bool.{Bool, true, false, cond}
use mathlib.Core.List.{List, [], ◌∷◌, ◌++◌, append_assoc}
use mathlib.Core.Logic.{inl, inr}
use mathlib.Core.Path.{◌≡◌, refl, sym, ap, ap₂, ◌∙◌}
use lib.Dec.{ltb}
use lib.ListN.{length, set}
use Rattle.times.specs.declared.Nanos.{Nanos}
use Rattle.std.specs.Prelude.{Option, Some, None}
use Rattle.messages.specs.declared.Message.{Message}
use Rattle.messages.specs.declared.Message.TheVariants.{Drs, Frs}
use Rattle.frs_queue.specs.declared.Frs as queue_frs
use Rattle.frs_queue.specs.Queue.{no_tally, queues, drops, arrives, arrive_all}
use Rattle.readiness.specs.declared.Setup.{Setup}
use Rattle.readiness.specs.Status.{ready}
use Rattle.readiness.specs.Root.{Root, ring_of, with_ring, frs_arrive, frs_of_drs, drs_set, drs_arrives, nothing_owed}
use Rattle.readiness.specs.Events.{Event, due, frs_of}
use Rattle.readiness.specs.Settle.{Scene, happens, happen_all, drs_due, tells, settles, last_of_moment, moment_ends, frs_told, frs_ending, frames_of, frs_sent}
use Rattle.readiness.proofs.Order.{Before, Each, Ordered, each_map}
use Rattle.readiness.proofs.Laws.{due_order, tells_quiet}
use Rattle.records.specs.declared.Record.{Record}
use Rattle.records.specs.declared.Record.TheVariants as kind
use Rattle.records.specs.State.{State, root_of, scene_of}
use Rattle.records.specs.Answer.{Effect, refused, does}
use Rattle.records.specs.Run.{effect}
use Rattle.records.specs.Arrivals.{of_message, of_record, arrivals_in, arrivals}
use Rattle.records.specs.MadeReady.{readied_by, readied}
use Rattle.happenings.specs.Happenings.{What, becomes_ready, frs_queued, frs_dropped, drs_received, Happening, arrival, frs_happen, drs_happens, drs_told, slot_happens, end_happens, slots_happen, settling, by_message, by_record, happenings_in, happenings}
use Rattle.happenings.specs.Telling.{ready_at, ready_in, frs_at, frs_in, plays, plays_all, Settling, InOrder, Told, Telling}

-- ---- lists in two parts

frs_append : (a b : List Happening) → frs_in (a ++ b) ≡ frs_in a ++ frs_in b
unfolding frs_in
frs_append [] b = refl
frs_append (h ∷ a) b = ap (λ (l : List queue_frs.Frs). frs_at h.what ++ l) (frs_append a b) ∙ sym (append_assoc (frs_at h.what) (frs_in a) (frs_in b))

ready_append : (a b : List Happening) → ready_in (a ++ b) ≡ ready_in a ++ ready_in b
unfolding ready_in
ready_append [] b = refl
ready_append (h ∷ a) b = ap (λ (l : List Event). ready_at h.at h.what ++ l) (ready_append a b) ∙ sym (append_assoc (ready_at h.at h.what) (ready_in a) (ready_in b))

plays_append : (a b : List Happening) (x : Scene) → plays_all (a ++ b) x ≡ plays_all b (plays_all a x)
unfolding plays_all
plays_append [] b x = refl
plays_append (h ∷ a) b x = plays_append a b (plays h.what x)

-- what holds of a list and of none, holds of the list where it applies
if_any : (B : Type 0) (f : List Happening → B) (none : B) → f [] ≡ none → (b : Bool) (l : List Happening) → f (cond b l []) ≡ cond b (f l) none
if_any B f none e true l = refl
if_any B f none e false l = e

-- ---- the FRS that arrive

frs-arrival : (b : Bool) (frs : queue_frs.Frs) → frs_at (cond b (frs_queued frs) (frs_dropped frs)) ≡ frs ∷ []
frs-arrival true frs = refl
frs-arrival false frs = refl

frs_happen_lem : (t : Nanos) (l : List queue_frs.Frs) (x : Root) → frs_in (frs_happen t l x) ≡ l
unfolding frs_in frs_happen
frs_happen_lem t [] x = refl
frs_happen_lem t (frs ∷ more) x = ap₂ (λ (a b : List queue_frs.Frs). a ++ b) (frs-arrival (ltb x.dev.queue.depth (length x.cells)) frs) (frs_happen_lem t more (frs_arrive (frs ∷ []) x))

frs-drs : (owed : Bool) (t : Nanos) (port_id : ℕ) (x : Root) → frs_in (drs_happens owed t port_id x) ≡ frs_of_drs port_id x.dev
unfolding frs_in drs_happens
frs-drs owed t port_id x = frs_happen_lem t (frs_of_drs port_id x.dev) (drs_set x)

module _ (setup : Setup) where
  frs-told : (t : Nanos) (x : Scene) → frs_in (drs_told setup t x) ≡ frs_told setup x
  unfolding drs_told frs_told frs_in
  frs-told t x =
      if_any (List queue_frs.Frs) frs_in [] refl (drs_due setup x) (drs_happens true t setup.port_id x.root)
      ∙ ap (λ (l : List queue_frs.Frs). cond (drs_due setup x) l []) (frs-drs true t setup.port_id x.root)

  frs_slot : (e : Event) (x : Scene) → frs_in (slot_happens setup e x) ≡ frs_of setup e
  unfolding frs_in slot_happens
  frs_slot e x = frs_happen_lem e.time (frs_of setup e) x.root

  frs_end : (e : Event) (es : List Event) (x : Scene) → frs_in (end_happens setup e es x) ≡ frs_ending setup e es x
  unfolding end_happens frs_ending frs_in
  frs_end e es x =
      if_any (List queue_frs.Frs) frs_in [] refl (last_of_moment e es) (drs_told setup e.time x)
      ∙ ap (λ (l : List queue_frs.Frs). cond (last_of_moment e es) l []) (frs-told e.time x)

  frs_slots : (es : List Event) (x : Scene) → frs_in (slots_happen setup es x) ≡ frames_of setup es x
  unfolding slots_happen frames_of frs_in
  frs_slots [] x = refl
  frs_slots (e ∷ es) x =
      let y = happens setup e x in
      frs_append (slot_happens setup e x ++ end_happens setup e es y) (slots_happen setup es (moment_ends setup e es y))
      ∙ ap₂ (λ (a b : List queue_frs.Frs). a ++ b)
      (frs_append (slot_happens setup e x) (end_happens setup e es y) ∙ ap₂ (λ (a b : List queue_frs.Frs). a ++ b) (frs_slot e x) (frs_end e es y))
      (frs_slots es (moment_ends setup e es y))

  frs-settling : (x : Scene) → frs_in (settling setup x) ≡ frs_sent setup x
  unfolding settling frs_sent
  frs-settling x =
      frs_append (drs_told setup x.root.dev.clock x) (slots_happen setup (due x.root.dev.clock x.statuses) (tells setup x))
      ∙ ap₂ (λ (a b : List queue_frs.Frs). a ++ b) (frs-told x.root.dev.clock x) (frs_slots (due x.root.dev.clock x.statuses) (tells setup x))

  frs_message : (s : State) (m : Option Message) → frs_in (by_message setup s m) ≡ of_message setup s m
  unfolding frs_in
  frs_message s None = refl
  frs_message s (Some (Drs id)) = frs-drs false s.port.clock setup.port_id (root_of s no_tally)
  frs_message s (Some (Frs id reason)) = frs_happen_lem s.port.clock (record { id = id; reason = reason } ∷ []) (root_of s no_tally)

  frs_own : (s : State) (r : Record) → frs_in (by_record setup s r) ≡ of_record setup s r
  unfolding frs_in
  frs_own s (kind.Advance by) = refl
  frs_own s (kind.Read q) = refl
  frs_own s (kind.Write q value) = refl
  frs_own s (kind.Message m) = frs_message s m
  frs_own s kind.LinkUp = refl
  frs_own s kind.LinkDown = refl
  frs_own s kind.ColdReset = refl
  frs_own s kind.ReadQueue = refl
  frs_own s kind.RemoveOldest = refl
  frs_own s (kind.ClearBits mask) = refl
  frs_own s (kind.Control b) = refl
  frs_own s (kind.HardwareSet slot word mask) = refl
  frs_own s kind.ReadBits = refl
  frs_own s kind.NoKind = refl

  frs_in_lem : (own : List Happening) (e : Effect State) → frs_in (happenings_in setup own e) ≡ arrivals_in setup (frs_in own) e
  unfolding frs_in
  frs_in_lem own (refused completion data_word) = refl
  frs_in_lem own (does t tally data_word) =
      frs_append own (settling setup (scene_of t no_tally)) ∙ ap (λ (l : List queue_frs.Frs). frs_in own ++ l) (frs-settling (scene_of t no_tally))

-- ---- the slots that become Ready

ready-arrival : (t : Nanos) (b : Bool) (frs : queue_frs.Frs) → ready_at t (cond b (frs_queued frs) (frs_dropped frs)) ≡ []
ready-arrival t true frs = refl
ready-arrival t false frs = refl

ready-frs : (t : Nanos) (l : List queue_frs.Frs) (x : Root) → ready_in (frs_happen t l x) ≡ []
unfolding ready_in frs_happen
ready-frs t [] x = refl
ready-frs t (frs ∷ more) x = ap₂ (λ (a b : List Event). a ++ b) (ready-arrival t (ltb x.dev.queue.depth (length x.cells)) frs) (ready-frs t more (frs_arrive (frs ∷ []) x))

ready-drs : (owed : Bool) (t : Nanos) (port_id : ℕ) (x : Root) → ready_in (drs_happens owed t port_id x) ≡ []
unfolding ready_in drs_happens
ready-drs owed t port_id x = ready-frs t (frs_of_drs port_id x.dev) (drs_set x)

none_either : (b : Bool) → cond {A = List Event} b [] [] ≡ []
none_either true = refl
none_either false = refl

module _ (setup : Setup) where
  ready-told : (t : Nanos) (x : Scene) → ready_in (drs_told setup t x) ≡ []
  unfolding drs_told ready_in
  ready-told t x =
      if_any (List Event) ready_in [] refl (drs_due setup x) (drs_happens true t setup.port_id x.root)
      ∙ ap (λ (l : List Event). cond (drs_due setup x) l []) (ready-drs true t setup.port_id x.root)
      ∙ none_either (drs_due setup x)

  ready_slot : (e : Event) (x : Scene) → ready_in (slot_happens setup e x) ≡ e ∷ []
  unfolding ready_in slot_happens
  ready_slot e x = ap (λ (l : List Event). e ∷ l) (ready-frs e.time (frs_of setup e) x.root)

  ready_end : (e : Event) (es : List Event) (x : Scene) → ready_in (end_happens setup e es x) ≡ []
  unfolding end_happens ready_in
  ready_end e es x =
      if_any (List Event) ready_in [] refl (last_of_moment e es) (drs_told setup e.time x)
      ∙ ap (λ (l : List Event). cond (last_of_moment e es) l []) (ready-told e.time x)
      ∙ none_either (last_of_moment e es)

  ready_slots : (es : List Event) (x : Scene) → ready_in (slots_happen setup es x) ≡ es
  unfolding slots_happen ready_in
  ready_slots [] x = refl
  ready_slots (e ∷ es) x =
      let y = happens setup e x in
      ready_append (slot_happens setup e x ++ end_happens setup e es y) (slots_happen setup es (moment_ends setup e es y))
      ∙ ap₂ (λ (a b : List Event). a ++ b)
      (ready_append (slot_happens setup e x) (end_happens setup e es y) ∙ ap₂ (λ (a b : List Event). a ++ b) (ready_slot e x) (ready_end e es y))
      (ready_slots es (moment_ends setup e es y))

  ready-settling : (x : Scene) → ready_in (settling setup x) ≡ due x.root.dev.clock x.statuses
  unfolding settling
  ready-settling x =
      ready_append (drs_told setup x.root.dev.clock x) (slots_happen setup (due x.root.dev.clock x.statuses) (tells setup x))
      ∙ ap₂ (λ (a b : List Event). a ++ b) (ready-told x.root.dev.clock x) (ready_slots (due x.root.dev.clock x.statuses) (tells setup x))

  ready_message : (s : State) (m : Option Message) → ready_in (by_message setup s m) ≡ []
  unfolding ready_in
  ready_message s None = refl
  ready_message s (Some (Drs id)) = ready-drs false s.port.clock setup.port_id (root_of s no_tally)
  ready_message s (Some (Frs id reason)) = ready-frs s.port.clock (record { id = id; reason = reason } ∷ []) (root_of s no_tally)

  ready_own : (s : State) (r : Record) → ready_in (by_record setup s r) ≡ []
  unfolding ready_in
  ready_own s (kind.Advance by) = refl
  ready_own s (kind.Read q) = refl
  ready_own s (kind.Write q value) = refl
  ready_own s (kind.Message m) = ready_message s m
  ready_own s kind.LinkUp = refl
  ready_own s kind.LinkDown = refl
  ready_own s kind.ColdReset = refl
  ready_own s kind.ReadQueue = refl
  ready_own s kind.RemoveOldest = refl
  ready_own s (kind.ClearBits mask) = refl
  ready_own s (kind.Control b) = refl
  ready_own s (kind.HardwareSet slot word mask) = refl
  ready_own s kind.ReadBits = refl
  ready_own s kind.NoKind = refl

  ready_in_lem : (own : List Happening) (e : Effect State) → ready_in own ≡ [] → ready_in (happenings_in setup own e) ≡ readied_by e
  unfolding ready_in
  ready_in_lem own (refused completion data_word) q = refl
  ready_in_lem own (does t tally data_word) q =
      ready_append own (settling setup (scene_of t no_tally)) ∙ ap₂ (λ (a b : List Event). a ++ b) q (ready-settling (scene_of t no_tally))

-- ---- what they leave

-- a scene with another root port
abbrev rooted : Scene → Root → Scene
rooted x r = record { statuses = x.statuses; root = r }

plays-arrival : (frs : queue_frs.Frs) (x : Scene) → plays (arrival frs x.root) x ≡ rooted x (frs_arrive (frs ∷ []) x.root)
unfolding frs_arrive arrive_all arrives
plays-arrival frs x = by (ltb x.root.dev.queue.depth (length x.root.cells))
  where
    by : (b : Bool) → plays (cond b (frs_queued frs) (frs_dropped frs)) x
        ≡ rooted x (with_ring (cond b (queues x.root.dev.control.frs_interrupt frs (ring_of x.root)) (drops x.root.dev.control.frs_interrupt (ring_of x.root))) x.root)
    by true = refl
    by false = refl

plays-frs : (t : Nanos) (l : List queue_frs.Frs) (x : Scene) → plays_all (frs_happen t l x.root) x ≡ rooted x (frs_arrive l x.root)
unfolding plays_all frs_happen frs_arrive arrive_all
plays-frs t [] x = refl
plays-frs t (frs ∷ more) x =
    ap (plays_all (frs_happen t more (frs_arrive (frs ∷ []) x.root))) (plays-arrival frs x)
    ∙ plays-frs t more (rooted x (frs_arrive (frs ∷ []) x.root))

-- that a DRS is owed changes nothing of what an FRS does
frs_owed : (t : Nanos) (l : List queue_frs.Frs) (x : Root) → frs_happen t l (nothing_owed x) ≡ frs_happen t l x
unfolding frs_happen frs_arrive arrive_all
frs_owed t [] x = refl
frs_owed t (frs ∷ more) x = ap (λ (hs : List Happening). record { at = t; what = arrival frs x } ∷ hs) (frs_owed t more (frs_arrive (frs ∷ []) x))

plays-drs : (t : Nanos) (port_id : ℕ) (x : Scene) → plays_all (drs_happens true t port_id x.root) x ≡ rooted x (nothing_owed (drs_arrives port_id x.root))
unfolding plays_all drs_happens drs_arrives frs_arrive
plays-drs t port_id x =
    let frs = frs_of_drs port_id x.root.dev in
    let y = drs_set x.root in
    ap (λ (hs : List Happening). plays_all hs (rooted x (nothing_owed y))) (sym (frs_owed t frs y))
    ∙ plays-frs t frs (rooted x (nothing_owed y))

module _ (setup : Setup) where
  plays-told : (t : Nanos) (x : Scene) → plays_all (drs_told setup t x) x ≡ tells setup x
  unfolding drs_told tells plays_all
  plays-told t x = by (drs_due setup x)
    where
      by : (b : Bool) → plays_all (cond b (drs_happens true t setup.port_id x.root) []) x ≡ cond b (rooted x (nothing_owed (drs_arrives setup.port_id x.root))) x
      by true = plays-drs t setup.port_id x
      by false = refl

  plays_slot : (e : Event) (x : Scene) → plays_all (slot_happens setup e x) x ≡ happens setup e x
  unfolding plays_all slot_happens happens
  plays_slot e x = plays-frs e.time (frs_of setup e) (record { statuses = set x.statuses e.slot ready; root = x.root })

  plays_end : (e : Event) (es : List Event) (x : Scene) → plays_all (end_happens setup e es x) x ≡ moment_ends setup e es x
  unfolding end_happens moment_ends plays_all
  plays_end e es x = by (last_of_moment e es)
    where
      by : (b : Bool) → plays_all (cond b (drs_told setup e.time x) []) x ≡ cond b (tells setup x) x
      by true = plays-told e.time x
      by false = refl

  plays_slots : (es : List Event) (x : Scene) → plays_all (slots_happen setup es x) x ≡ happen_all setup es x
  unfolding slots_happen happen_all plays_all
  plays_slots [] x = refl
  plays_slots (e ∷ es) x =
      let y = happens setup e x in
      let z = moment_ends setup e es y in
      plays_append (slot_happens setup e x ++ end_happens setup e es y) (slots_happen setup es z) x
      ∙ ap (plays_all (slots_happen setup es z)) (plays_append (slot_happens setup e x) (end_happens setup e es y) x ∙ ap (plays_all (end_happens setup e es y)) (plays_slot e x) ∙ plays_end e es y)
      ∙ plays_slots es z

  pub plays-settling : (x : Scene) → Settling setup x
  unfolding settling settles
  plays-settling x =
      let es = due x.root.dev.clock x.statuses in
      plays_append (drs_told setup x.root.dev.clock x) (slots_happen setup es (tells setup x)) x
      ∙ ap (plays_all (slots_happen setup es (tells setup x))) (plays-told x.root.dev.clock x)
      ∙ plays_slots es (tells setup x)

-- ---- their order

-- at one moment
abbrev At : ℕ → List Happening → Type 0
At t [] = Unit {0}
At t (h ∷ hs) = (h.at.0 ≡ t) × At t hs

at_append : (t : ℕ) (a b : List Happening) → At t a → At t b → At t (a ++ b)
at_append t [] b p q = q
at_append t (h ∷ a) b p q = (p.0, at_append t a b p.1 q)

at_if : (t : ℕ) (b : Bool) (l : List Happening) → At t l → At t (cond b l [])
at_if t true l p = p
at_if t false l p = tt

frs_at_lem : (t : Nanos) (l : List queue_frs.Frs) (x : Root) → At t.0 (frs_happen t l x)
unfolding frs_happen
frs_at_lem t [] x = tt
frs_at_lem t (frs ∷ more) x = (refl, frs_at_lem t more (frs_arrive (frs ∷ []) x))

told_at : (setup : Setup) (t : Nanos) (x : Scene) → At t.0 (drs_told setup t x)
unfolding drs_told drs_happens
told_at setup t x = at_if t.0 (drs_due setup x) _ (refl, frs_at_lem t (frs_of_drs setup.port_id x.root.dev) (drs_set x.root))

slot_at : (setup : Setup) (e : Event) (x : Scene) → At e.time.0 (slot_happens setup e x)
unfolding slot_happens
slot_at setup e x = (refl, frs_at_lem e.time (frs_of setup e) x.root)

end_at : (setup : Setup) (e : Event) (es : List Event) (x : Scene) → At e.time.0 (end_happens setup e es x)
unfolding end_happens
end_at setup e es x = at_if e.time.0 (last_of_moment e es) _ (told_at setup e.time x)

-- things at one moment, and then others from that moment on
then_order : (from t : ℕ) (a b : List Happening) → from ≤ t → At t a → InOrder t b → InOrder from (a ++ b)
unfolding InOrder
then_order from t [] b h p q = lower b q
  where
    lower : (b : List Happening) → InOrder t b → InOrder from b
    lower [] q = tt
    lower (k ∷ b) q = (omega (arith, q.0), q.1)
then_order from t (k ∷ a) b h p q = (omega (arith, p.0), then_order k.at.0 t a b (omega (arith, p.0)) p.1 q)

not_earlier : (e f : Event) → Before e f → e.time.0 ≤ f.time.0
not_earlier e f (inl h) = omega arith
not_earlier e f (inr h) = omega arith

slots_order : (setup : Setup) (es : List Event) (x : Scene) (from : ℕ) → Each (λ e. from ≤ e.time.0) es → Ordered es → InOrder from (slots_happen setup es x)
unfolding slots_happen InOrder
slots_order setup [] x from h o = tt
slots_order setup (e ∷ es) x from h o =
    let y = happens setup e x in
    then_order from e.time.0 (slot_happens setup e x ++ end_happens setup e es y) _ h.0
    (at_append e.time.0 (slot_happens setup e x) (end_happens setup e es y) (slot_at setup e x) (end_at setup e es y))
    (slots_order setup es (moment_ends setup e es y) e.time.0 (each_map (Before e) (λ f. e.time.0 ≤ f.time.0) (not_earlier e) es o.0) o.1)

all_from : (es : List Event) → Each (λ e. 0 ≤ e.time.0) es
all_from [] = tt
all_from (e ∷ es) = (omega arith, all_from es)

settling_order : (setup : Setup) (x : Scene) → drs_due setup x ≡ false → InOrder 0 (settling setup x)
unfolding settling drs_told
settling_order setup x quiet =
    let es = due x.root.dev.clock x.statuses in
    rw quiet (slots_order setup es (tells setup x) 0 (all_from es) (due_order x.root.dev.clock x.statuses).ordered)

-- WHAT IS CLAIMED
pub telling : Telling
unfolding happenings arrivals readied
telling =
    record {
      told = λ setup defaults s r.
          record {
            ready = ready_in_lem setup (by_record setup s r) (effect setup defaults s r) (ready_own setup s r);
            frs = frs_in_lem setup (by_record setup s r) (effect setup defaults s r) ∙ ap (λ (l : List queue_frs.Frs). arrivals_in setup l (effect setup defaults s r)) (frs_own setup s r);
          };
      leaves = plays-settling;
      in_order = settling_order;
    }
