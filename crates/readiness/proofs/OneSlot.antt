-- One slot alone: where nothing else is due, settling is that slot's own.
use Prim.Native.Nat.{ℕ, zero, suc, ◌<◌}
use native.Mathlib.Nat.{zero-add}
use mathlib.Core.Bool.{Bool, true, false, not, ◌&&◌, ◌||◌, false≢true}
use mathlib.Core.List.{List, [], ◌∷◌}
use mathlib.Core.Path.{◌≡◌, refl, sym, ap, ap₂, ◌∙◌}
use lib.Dec.{leb}
use lib.ListN.{length, get_or, set}
use lib.Seq.{set-set}
use Rattle.bits.proofs.Tests.{and_each, or_right}
use Rattle.bits.proofs.Choices.{either_way}
use Rattle.frs_queue.specs.declared.Frs.{Frs}
use Rattle.readiness.specs.declared.Phase.{Phase}
use Rattle.readiness.specs.declared.Phase.TheVariants.{Down, Pending, Ready}
use Rattle.readiness.specs.declared.Status.{Status}
use Rattle.readiness.specs.declared.Setup.{Setup}
use Rattle.readiness.specs.Status.{ready, is_ready, counts_for_drs, all_ready_from, all_ready, entry_of}
use Rattle.readiness.specs.Root.{Root, frs_arrive}
use Rattle.readiness.specs.Events.{Event, due_event, due, frs_of, frs_of_slot}
use Rattle.readiness.specs.Settle.{Scene, happens, happen_all, moment_ends, drs_due, tells, settles}
use Rattle.readiness.specs.inner.OneSlot.{SlotScene, slot_happens, slot_settles}
use Rattle.readiness.proofs.Order.{due-set}
use Rattle.readiness.proofs.Laws.{tells_quiet}

owed_after : (setup : Setup) (m : List Frs) (r : Root) (l : List Status) → (r.dev.owed && all_ready setup l) ≡ false → ((frs_arrive m r).dev.owed && all_ready setup l) ≡ false
unfolding frs_arrive
owed_after setup m r l d = d

-- with one slot other, all slots that count are Ready only if they are with that slot Ready
set-ready : (setup : Setup) (j : ℕ) (l : List Status) (k : ℕ) (s : Status) → is_ready (get_or l k ready) ≡ true → all_ready_from setup j (set l k s) ≡ true → all_ready_from setup j l ≡ true
unfolding all_ready_from
set-ready setup j [] k s r e = refl
set-ready setup j (v ∷ l) zero s r e =
    let n = not (counts_for_drs setup j) in
    and_each (n || is_ready s) (all_ready_from setup (suc j) l) (n || is_ready v) (all_ready_from setup (suc j) l) (or_right n (is_ready s) (is_ready v) (λ q. r)) (λ q. q) e
set-ready setup j (v ∷ l) (suc k) s r e =
    let b = not (counts_for_drs setup j) || is_ready v in
    and_each b (all_ready_from setup (suc j) (set l k s)) b (all_ready_from setup (suc j) l) (λ q. q) (set-ready setup (suc j) l k s r) e

module _ (setup : Setup) (l : List Status) (k : ℕ) (h : k < length l) (ready_k : is_ready (get_or l k ready) ≡ true) where
  -- slot k with the root port among the others
  abbrev put_back : SlotScene → Scene
  put_back y = record { statuses = set l k y.status; root = y.root }

  one_due : (y : SlotScene) → (y.root.dev.owed && all_ready setup l) ≡ false → drs_due setup (put_back y) ≡ false
  one_due y d = by (drs_due setup (put_back y)) refl
    where
      by : (b : Bool) → drs_due setup (put_back y) ≡ b → b ≡ false
      by false e = refl
      by true e =
          let o = y.root.dev.owed in
          absurd (false≢true (sym d ∙ and_each o (all_ready setup (set l k y.status)) o (all_ready setup l) (λ q. q) (set-ready setup 0 l k y.status ready_k) e))

  one_quiet : (y : SlotScene) → (y.root.dev.owed && all_ready setup l) ≡ false → tells setup (put_back y) ≡ put_back y
  one_quiet y d = tells_quiet setup (put_back y) (one_due y d)

  one_happens : (p : Phase) (r : Root) → (r.dev.owed && all_ready setup l) ≡ false
      → (let y : SlotScene = record { status = record { phase = p }; root = r } in
      happen_all setup (due_event r.dev.clock k p) (put_back y) ≡ put_back (slot_happens setup.bus (entry_of setup k) y (due_event r.dev.clock k p)))
  unfolding happen_all moment_ends happens frs_of
  one_happens Down r d = refl
  one_happens Ready r d = refl
  one_happens (Pending c t) r d =
      let y : SlotScene = record { status = record { phase = Pending c t }; root = r } in
      let v : Event = record { slot = k; cause = c; time = t } in
      let frames = frs_of_slot setup.bus (entry_of setup k) k c in
      let after : Root = frs_arrive frames r in
      either_way (λ (es : List Event). happen_all setup es (put_back y) ≡ put_back (slot_happens setup.bus (entry_of setup k) y es)) (leb t.0 r.dev.clock.0) (v ∷ []) []
      (λ b. ap (λ (m : List Status). tells setup (record { statuses = m; root = after })) (set-set l k (record { phase = Pending c t }) ready) ∙ one_quiet (record { status = ready; root = after }) (owed_after setup frames r l d))
      (λ b. refl)

-- Where nothing is due, no DRS is to be told and slot k is Ready, a new status of slot k concerns that slot alone: settling is that slot's own settling, put back.
pub settle_one : (setup : Setup) (l : List Status) (k : ℕ) (s : Status) (r : Root)
    → k < length l → is_ready (get_or l k ready) ≡ true → due r.dev.clock l ≡ [] → (r.dev.owed && all_ready setup l) ≡ false
    → (let y = slot_settles setup.bus (entry_of setup k) k (record { status = s; root = r }) in
    settles setup (record { statuses = set l k s; root = r }) ≡ record { statuses = set l k y.status; root = y.root })
unfolding settles slot_settles
settle_one setup l k s r h e n d =
    let y : SlotScene = record { status = s; root = r } in
    ap₂ (λ (es : List Event) (x : Scene). happen_all setup es x)
    (due-set 0 r.dev.clock l k s h n ∙ ap (λ (j : ℕ). due_event r.dev.clock j s.phase) (zero-add k))
    (one_quiet setup l k h e y d)
    ∙ one_happens setup l k h e s.phase r d
