-- A sound queue stays sound: through arrivals, a DRS, a removal, emptying, and settling.
use Prim.Native.Nat.{ℕ, zero, suc, ◌+◌, ◌≤◌, ◌<◌}
use native.Mathlib.Omega.{arith}
use mathlib.Core.Path.{◌≡◌, refl, ap, sym, subst, ◌∙◌}
use mathlib.Core.Bool.{Bool, true, not, ◌&&◌}
use mathlib.Core.List.{List, [], ◌∷◌, ◌++◌, Memᴰ}
use lib.Dec.{eqb, ltb}
use lib.ListN.{length, get_or, length-drop}
use lib.Seq.{get_or-drop}
use borrow.Author.Tests.{lt-ltb}
use Rattle.bits.proofs.Choices.{either_way}
use Rattle.bits.proofs.Lists.{get_or-listed}
use Rattle.bits.proofs.Tests.{both}
use Rattle.messages.specs.Messages.{frs_allowed}
use Rattle.messages.proofs.Laid.{allowed_small}
use Rattle.messages.proofs.Laws.{any_reason}
use Rattle.frs_queue.specs.declared.Frs.{Frs}
use Rattle.frs_queue.specs.declared.Queue.{Queue}
use Rattle.frs_queue.specs.Queue.{Ring, place_of, cell_of, arrives, arrive_all, is_empty, moved_on, removed, messages_of}
use Rattle.frs_queue.proofs.Places.{place_lt}
use Rattle.frs_queue.proofs.Laws.{held_by, messages_length, arrives_appends, arrives-length, arrive_all-length, arrives-start, arrives_depth, removed_takes_head, reason_in_cell}
use Rattle.readiness.specs.declared.Cause.{Cause}
use Rattle.readiness.specs.declared.Cause.TheVariants.{LinkUp, Flr, D3hot}
use Rattle.readiness.specs.declared.Setup.{Setup}
use Rattle.readiness.specs.declared.Dev.{Dev}
use Rattle.readiness.specs.Status.{entry_of}
use Rattle.readiness.specs.Root.{Root, ring_of, frs_arrive, frs_of_drs, drs_set, drs_arrives}
use Rattle.readiness.specs.Events.{Event, due, function_id, reason_after, frs_with, frs_of_slot, frs_of}
use Rattle.readiness.specs.Settle.{Scene, happens, happen_all, last_of_moment, moment_ends, drs_due, tells, settles, frs_told, frs_ending, frames_of, frs_sent}
use Rattle.records.specs.Sound.{sound_cell}

-- each value is that of a sound cell
abbrev pub AllSound : List ℕ → Type 0
AllSound l = (k : ℕ) → k < length l → sound_cell (get_or l k 0) ≡ true

-- start below the length, depth within it, every message's cell sound
pub record SoundRing (cells : List ℕ) (q : Queue) : Type 0 where
  pub start : q.start < length cells
  pub depth : q.depth ≤ length cells
  pub values : AllSound (messages_of cells q)

-- ---- the live cells are the messages

module _ (cells : List ℕ) (q : Queue) where
  at : ℕ → ℕ
  at k = get_or cells (place_of (length cells) q.start k) 0

  pub cells-sound : ((k : ℕ) → k < q.depth → sound_cell (get_or cells (place_of (length cells) q.start k) 0) ≡ true) → AllSound (messages_of cells q)
  unfolding messages_of at
  cells-sound h k l =
      let m : k < q.depth = omega (arith, messages_length cells q) in
      ap sound_cell (get_or-listed q.depth at k m) ∙ h k m

  pub sound-cells : AllSound (messages_of cells q) → (k : ℕ) → k < q.depth → sound_cell (get_or cells (place_of (length cells) q.start k) 0) ≡ true
  unfolding messages_of at
  sound-cells h k l = sym (ap sound_cell (get_or-listed q.depth at k l)) ∙ h k (omega (arith, messages_length cells q))

-- ---- messages that arrive

-- an ID of 16 bits, and a reason that an FRS may have
abbrev pub SoundFrs : Frs → Type 0
SoundFrs f = (f.id < 65536) × (frs_allowed f.reason ≡ true)

abbrev pub AllSoundFrs : List Frs → Type 0
AllSoundFrs [] = Unit {0}
AllSoundFrs (f ∷ fs) = SoundFrs f × AllSoundFrs fs

pub both_sound : (a b : List Frs) → AllSoundFrs a → AllSoundFrs b → AllSoundFrs (a ++ b)
both_sound [] b h k = k
both_sound (f ∷ fs) b h k = (h.0, both_sound fs b h.1 k)

-- its cell is sound
pub frs_cell : (f : Frs) → SoundFrs f → sound_cell (cell_of f) ≡ true
frs_cell f h =
    let i = h.0 in
    let r = allowed_small f.reason h.1 in
    both _ _ (lt-ltb (cell_of f) 1048576 (omega arith)) (ap frs_allowed (reason_in_cell f i) ∙ h.1)

all_append : (l : List ℕ) (v : ℕ) → AllSound l → sound_cell v ≡ true → AllSound (l ++ (v ∷ []))
all_append [] v h p zero l = p
all_append [] v h p (suc k) l = absurd (omega arith)
all_append (x ∷ xs) v h p zero l = h 0 (omega arith)
all_append (x ∷ xs) v h p (suc k) l = all_append xs v (λ j m. h (suc j) (omega arith)) p k (omega arith)

ring-arrives : (enabled : Bool) (f : Frs) (r : Ring) → SoundFrs f → SoundRing r.cells r.queue
    → SoundRing (arrives enabled f r).cells (arrives enabled f r).queue
ring-arrives enabled f r v h =
    record {
      start = let s = h.start in omega (arith, arrives-length enabled f r, arrives-start enabled f r);
      depth = arrives_depth enabled f r h.depth;
      values = subst AllSound (sym (arrives_appends enabled f r))
          (either_way AllSound (ltb r.queue.depth (length r.cells)) (held_by r ++ (cell_of f ∷ [])) (held_by r) (λ e. all_append (held_by r) (cell_of f) h.values (frs_cell f v)) (λ e. h.values));
    }

ring-arrive_all : (enabled : Bool) (fs : List Frs) (r : Ring) → AllSoundFrs fs → SoundRing r.cells r.queue
    → SoundRing (arrive_all enabled fs r).cells (arrive_all enabled fs r).queue
unfolding arrive_all
ring-arrive_all enabled [] r v h = h
ring-arrive_all enabled (f ∷ fs) r v h = ring-arrive_all enabled fs (arrives enabled f r) v.1 (ring-arrives enabled f r v.0 h)

-- the port's queue is sound
abbrev pub SoundRoot : Root → Type 0
SoundRoot x = SoundRing x.cells x.dev.queue

-- FRS messages keep it so
pub frs_keeps : (fs : List Frs) (x : Root) → AllSoundFrs fs → SoundRoot x → SoundRoot (frs_arrive fs x)
unfolding frs_arrive
frs_keeps fs x v h = ring-arrive_all x.dev.control.frs_interrupt fs (ring_of x) v h

-- the port's own message has an allowed reason
pub drs-sound : (port_id : ℕ) (d : Dev) → port_id < 65536 → AllSoundFrs (frs_of_drs port_id d)
unfolding frs_of_drs
drs-sound port_id d p =
    either_way AllSoundFrs (not d.drs_received && eqb d.control.signalling 2) (record { id = port_id; reason = 1 } ∷ []) []
    (λ e. ((p, any_reason 1 (omega arith)), tt)) (λ e. tt)

-- a DRS too
pub drs_keeps : (port_id : ℕ) (x : Root) → port_id < 65536 → SoundRoot x → SoundRoot (drs_arrives port_id x)
unfolding drs_arrives drs_set
drs_keeps port_id x p h = frs_keeps (frs_of_drs port_id x.dev) (drs_set x) (drs-sound port_id x.dev p) h

-- and the number of cells
pub frs-cells : (fs : List Frs) (x : Root) → length (frs_arrive fs x).cells ≡ length x.cells
unfolding frs_arrive
frs-cells fs x = arrive_all-length x.dev.control.frs_interrupt fs (ring_of x)

pub drs-cells : (port_id : ℕ) (x : Root) → length (drs_arrives port_id x).cells ≡ length x.cells
unfolding drs_arrives drs_set
drs-cells port_id x = frs-cells (frs_of_drs port_id x.dev) (drs_set x)

-- ---- removing and emptying

pub removed_keeps : (cells : List ℕ) (q : Queue) → SoundRing cells q → SoundRing cells (removed (length cells) q)
unfolding removed
removed_keeps cells q h =
    record {
      start = either_way (λ (p : Queue). p.start < length cells) (is_empty (length cells) q) q (moved_on (length cells) q)
          (λ e. h.start) (λ e. place_lt (length cells) q.start 1 (let s = h.start in omega arith));
      depth = either_way (λ (p : Queue). p.depth ≤ length cells) (is_empty (length cells) q) q (moved_on (length cells) q)
          (λ e. h.depth) (λ e. let d = h.depth in omega arith);
      values = subst AllSound (sym (removed_takes_head cells q h.depth))
          (λ k l. ap sound_cell (get_or-drop 1 (messages_of cells q) k 0) ∙ h.values (1 + k) (omega (arith, length-drop 1 (messages_of cells q))));
    }

-- an empty queue at cell 0
pub empty_sound : (cells : List ℕ) (q : Queue) → 0 < length cells → q.start ≡ 0 → q.depth ≡ 0 → SoundRing cells q
empty_sound cells q some s d =
    record {
      start = omega arith;
      depth = omega arith;
      values = cells-sound cells q (λ k l. absurd (omega arith));
    }

-- ---- settling

-- AN FRS THAT A SLOT SENDS has an ID of 16 bits and an allowed reason
pub slot_sound : (setup : Setup) (e : Event) → setup.bus < 256 → e.slot < 256 → AllSoundFrs (frs_of setup e)
unfolding frs_of frs_of_slot
slot_sound setup e b h =
    either_way AllSoundFrs (entry_of setup e.slot).sends_frs (frs_with (function_id setup.bus e.slot) (reason_after e.cause)) []
    (λ t. by e.cause) (λ t. tt)
  where
    by : (c : Cause) → AllSoundFrs (frs_with (function_id setup.bus e.slot) (reason_after c))
    by LinkUp = tt
    by (Flr end) = ((omega arith, any_reason 3 (omega arith)), tt)
    by D3hot = ((omega arith, any_reason 2 (omega arith)), tt)

module _ (setup : Setup) (bus : setup.bus < 256) (port : setup.port_id < 65536) where
  tells_keeps : (x : Scene) → SoundRoot x.root → SoundRoot (tells setup x).root
  unfolding tells
  tells_keeps x h = either_way (λ (y : Scene). SoundRoot y.root) (drs_due setup x) _ x (λ e. drs_keeps setup.port_id x.root port h) (λ e. h)

  ends-keep : (e : Event) (es : List Event) (x : Scene) → SoundRoot x.root → SoundRoot (moment_ends setup e es x).root
  unfolding moment_ends
  ends-keep e es x h = either_way (λ (y : Scene). SoundRoot y.root) (last_of_moment e es) _ x (λ b. tells_keeps x h) (λ b. h)

  happen_all_keeps : (es : List Event) (x : Scene) → ((e : Event) → Memᴰ e es → e.slot < 256) → SoundRoot x.root → SoundRoot (happen_all setup es x).root
  unfolding happen_all happens
  happen_all_keeps [] x l h = h
  happen_all_keeps (e ∷ es) x l h =
      happen_all_keeps es _ (λ v m. l v (Memᴰ.tail m))
      (ends-keep e es (happens setup e x) (frs_keeps (frs_of setup e) x.root (slot_sound setup e bus (l e (Memᴰ.head refl))) h))

  -- settling keeps the queue sound
  pub settle_ring : (x : Scene) → ((e : Event) → Memᴰ e (due x.root.dev.clock x.statuses) → e.slot < 256) → SoundRoot x.root → SoundRoot (settles setup x).root
  unfolding settles
  settle_ring x l h = happen_all_keeps (due x.root.dev.clock x.statuses) (tells setup x) l (tells_keeps x h)

  -- and each FRS that it sends has an allowed reason
  told-sound : (x : Scene) → AllSoundFrs (frs_told setup x)
  unfolding frs_told
  told-sound x = either_way AllSoundFrs (drs_due setup x) _ [] (λ e. drs-sound setup.port_id x.root.dev port) (λ e. tt)

  frames_sound : (es : List Event) (x : Scene) → ((e : Event) → Memᴰ e es → e.slot < 256) → AllSoundFrs (frames_of setup es x)
  unfolding frames_of frs_ending
  frames_sound [] x l = tt
  frames_sound (e ∷ es) x l =
      both_sound (frs_of setup e ++ frs_ending setup e es (happens setup e x)) _
      (both_sound (frs_of setup e) _ (slot_sound setup e bus (l e (Memᴰ.head refl)))
      (either_way AllSoundFrs (last_of_moment e es) _ [] (λ b. told-sound (happens setup e x)) (λ b. tt)))
      (frames_sound es _ (λ v m. l v (Memᴰ.tail m)))

  pub sent_sound : (x : Scene) → ((e : Event) → Memᴰ e (due x.root.dev.clock x.statuses) → e.slot < 256) → AllSoundFrs (frs_sent setup x)
  unfolding frs_sent
  sent_sound x l = both_sound (frs_told setup x) _ (told-sound x) (frames_sound (due x.root.dev.clock x.statuses) (tells setup x) l)
