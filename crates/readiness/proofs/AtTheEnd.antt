-- While every slot counts for DRS, telling the DRS at the end of each moment is telling it once, when all that is due has happened.
use Prim.Native.Nat.{ℕ, zero, suc}
use native.Mathlib.Omega.{arith}
use mathlib.Core.Bool.{Bool, false, ◌&&◌, cond, and-false}
use mathlib.Core.List.{List, [], ◌∷◌, ◌++◌, append-nil, append_assoc}
use mathlib.Core.Logic.{◌≢◌}
use mathlib.Core.Path.{◌≡◌, refl, sym, ap, ◌∙◌}
use lib.ListN.{get_or, set}
use lib.Seq.{get_or-set_other}
use Rattle.bits.proofs.Choices.{either_way}
use Rattle.times.specs.declared.Nanos.{Nanos}
use Rattle.frs_queue.specs.declared.Frs.{Frs}
use Rattle.readiness.specs.declared.Status.{Status}
use Rattle.readiness.specs.declared.Setup.{Setup}
use Rattle.readiness.specs.Status.{ready, is_ready, ready_phase, all_ready_from}
use Rattle.readiness.specs.Root.{frs_arrive, frs_of_drs}
use Rattle.readiness.specs.Events.{Event, due, frs_of}
use Rattle.readiness.specs.Settle.{Scene, happens, happen_all, last_of_moment, moment_ends, drs_due, tells, settles, frs_told, frs_ending, frames_of, frs_sent}
use Rattle.readiness.proofs.Order.{Each, each_map, Awaited, Once, due_from-sound, due_from_once}
use Rattle.readiness.proofs.Laws.{tells_quiet}

-- ---- all that is due, and then the DRS

-- slots become Ready one after the other, and no DRS is told
unfoldable pub all_happen : Setup → List Event → Scene → Scene
all_happen setup [] x = x
all_happen setup (e ∷ es) x = all_happen setup es (happens setup e x)

-- the DRS after all of them
unfoldable pub settles_at_end : Setup → Scene → Scene
settles_at_end setup x = tells setup (all_happen setup (due x.root.dev.clock x.statuses) x)

-- every FRS that this sends, in order
unfoldable pub slot_frames : Setup → List Event → List Frs
slot_frames setup [] = []
slot_frames setup (e ∷ es) = frs_of setup e ++ slot_frames setup es

unfoldable pub sent_at_end : Setup → Scene → List Frs
sent_at_end setup x =
    let events = due x.root.dev.clock x.statuses in
    slot_frames setup events ++ cond (drs_due setup (all_happen setup events x)) (frs_of_drs setup.port_id x.root.dev) []

-- ---- while an event is to come, no DRS is due

-- the slots of these events aren't Ready
abbrev Waiting : List Status → List Event → Type 0
Waiting l es = Each (λ e. is_ready (get_or l e.slot ready) ≡ false) es

due_waiting : (clock : Nanos) (l : List Status) → Waiting l (due clock l)
due_waiting clock l =
    each_map (Awaited 0 clock l) (λ e. is_ready (get_or l e.slot ready) ≡ false)
    (λ e d.
    let n : e.slot ≡ d.at = omega (arith, d.slot) in
    ap (λ (i : ℕ). is_ready (get_or l i ready)) n ∙ ap ready_phase d.pends)
    (due clock l) (due_from-sound 0 clock l)

others_wait : (l : List Status) (k : ℕ) (es : List Event) → Each (λ f. k ≢ f.slot) es → Waiting l es → Waiting (set l k ready) es
others_wait l k [] o w = tt
others_wait l k (f ∷ es) o w = (ap is_ready (get_or-set_other l k f.slot ready ready (λ q. o.0 (sym q))) ∙ w.0, others_wait l k es o.1 w.1)

-- Every slot counts: where one isn't Ready, not all are.
pub one_waits : (setup : Setup) (j : ℕ) (l : List Status) (k : ℕ) → is_ready (get_or l k ready) ≡ false → all_ready_from setup j l ≡ false
unfolding all_ready_from
one_waits setup j [] k e = e
one_waits setup j (s ∷ l) zero e = ap (λ (b : Bool). b && all_ready_from setup (suc j) l) e
one_waits setup j (s ∷ l) (suc k) e = ap (λ (b : Bool). is_ready s && b) (one_waits setup (suc j) l k e) ∙ and-false (is_ready s)

none_due : (setup : Setup) (e : Event) (es : List Event) (x : Scene) → Waiting x.statuses (e ∷ es) → drs_due setup x ≡ false
none_due setup e es x w = ap (λ (b : Bool). x.root.dev.owed && b) (one_waits setup 0 x.statuses e.slot w.0) ∙ and-false x.root.dev.owed

-- ---- the DRS is told after the last event

module _ (setup : Setup) where
  -- what is left to happen, once the first event has
  left_waiting : (e : Event) (es : List Event) (x : Scene) → Once (e ∷ es) → Waiting x.statuses (e ∷ es) → Waiting (happens setup e x).statuses es
  unfolding happens
  left_waiting e es x o w = others_wait x.statuses e.slot es o.0 w.1

  between : (e f : Event) (es : List Event) (x : Scene) → Waiting x.statuses (f ∷ es) → moment_ends setup e (f ∷ es) x ≡ x
  unfolding moment_ends
  between e f es x w = either_way (λ (y : Scene). y ≡ x) (last_of_moment e (f ∷ es)) (tells setup x) x (λ b. tells_quiet setup x (none_due setup f es x w)) (λ b. refl)

  last-tells : (e : Event) (es : List Event) (x : Scene) → Once (e ∷ es) → Waiting x.statuses (e ∷ es) → happen_all setup (e ∷ es) x ≡ tells setup (all_happen setup (e ∷ es) x)
  unfolding happen_all all_happen moment_ends
  last-tells e [] x o w = refl
  last-tells e (f ∷ es) x o w =
      let left = left_waiting e (f ∷ es) x o w in
      ap (happen_all setup (f ∷ es)) (between e f es (happens setup e x) left) ∙ last-tells f es (happens setup e x) o.1 left

  tells-last : (es : List Event) (x : Scene) → Once es → Waiting x.statuses es → happen_all setup es (tells setup x) ≡ tells setup (all_happen setup es x)
  unfolding happen_all all_happen
  tells-last [] x o w = refl
  tells-last (e ∷ es) x o w = ap (happen_all setup (e ∷ es)) (tells_quiet setup x (none_due setup e es x w)) ∙ last-tells e es x o w

  -- ---- and so is its FRS

  silent : (x : Scene) → drs_due setup x ≡ false → frs_told setup x ≡ []
  unfolding frs_told
  silent x d = ap (λ (b : Bool). cond b (frs_of_drs setup.port_id x.root.dev) []) d

  between_silent : (e f : Event) (es : List Event) (x : Scene) → Waiting x.statuses (f ∷ es) → frs_ending setup e (f ∷ es) x ≡ []
  unfolding frs_ending
  between_silent e f es x w = either_way (λ (m : List Frs). m ≡ []) (last_of_moment e (f ∷ es)) (frs_told setup x) [] (λ b. silent x (none_due setup f es x w)) (λ b. refl)

  last_sends : (e : Event) (es : List Event) (x : Scene) → Once (e ∷ es) → Waiting x.statuses (e ∷ es)
      → frames_of setup (e ∷ es) x ≡ slot_frames setup (e ∷ es) ++ frs_told setup (all_happen setup (e ∷ es) x)
  unfolding frames_of slot_frames all_happen frs_ending
  last_sends e [] x o w =
      append-nil (frs_of setup e ++ frs_told setup (happens setup e x))
      ∙ ap (λ (m : List Frs). m ++ frs_told setup (happens setup e x)) (sym (append-nil (frs_of setup e)))
  last_sends e (f ∷ es) x o w =
      let y = happens setup e x in
      let left = left_waiting e (f ∷ es) x o w in
      ap (λ (m : List Frs). (frs_of setup e ++ m) ++ frames_of setup (f ∷ es) (moment_ends setup e (f ∷ es) y)) (between_silent e f es y left)
      ∙ ap (λ (m : List Frs). m ++ frames_of setup (f ∷ es) (moment_ends setup e (f ∷ es) y)) (append-nil (frs_of setup e))
      ∙ ap (λ (z : Scene). frs_of setup e ++ frames_of setup (f ∷ es) z) (between e f es y left)
      ∙ ap (λ (m : List Frs). frs_of setup e ++ m) (last_sends f es y o.1 left)
      ∙ sym (append_assoc (frs_of setup e) (slot_frames setup (f ∷ es)) (frs_told setup (all_happen setup (f ∷ es) y)))

  sends_last : (es : List Event) (x : Scene) → Once es → Waiting x.statuses es
      → frs_told setup x ++ frames_of setup es (tells setup x) ≡ slot_frames setup es ++ frs_told setup (all_happen setup es x)
  unfolding frames_of slot_frames all_happen
  sends_last [] x o w = append-nil (frs_told setup x)
  sends_last (e ∷ es) x o w =
      let d = none_due setup e es x w in
      ap (λ (m : List Frs). m ++ frames_of setup (e ∷ es) (tells setup x)) (silent x d)
      ∙ ap (frames_of setup (e ∷ es)) (tells_quiet setup x d)
      ∙ last_sends e es x o w

  -- what the port would send is the same, whatever has happened
  same_own : (es : List Event) (x : Scene) → frs_of_drs setup.port_id (all_happen setup es x).root.dev ≡ frs_of_drs setup.port_id x.root.dev
  unfolding all_happen happens frs_arrive frs_of_drs
  same_own [] x = refl
  same_own (e ∷ es) x = same_own es (happens setup e x)

-- Settling moment by moment is: all that is due, and then the DRS.
pub settle_at_end : (setup : Setup) (x : Scene) → settles setup x ≡ settles_at_end setup x
unfolding settles settles_at_end
settle_at_end setup x =
    let clock = x.root.dev.clock in
    tells-last setup (due clock x.statuses) x (due_from_once 0 clock x.statuses) (due_waiting clock x.statuses)

-- And it sends: the FRS of the slots, in their order, and the port's own, if any, last.
pub sent_at_end_lem : (setup : Setup) (x : Scene) → frs_sent setup x ≡ sent_at_end setup x
unfolding frs_sent sent_at_end frs_told
sent_at_end_lem setup x =
    let clock = x.root.dev.clock in
    let es = due clock x.statuses in
    sends_last setup es x (due_from_once 0 clock x.statuses) (due_waiting clock x.statuses)
    ∙ ap (λ (m : List Frs). slot_frames setup es ++ cond (drs_due setup (all_happen setup es x)) m []) (same_own setup es x)
