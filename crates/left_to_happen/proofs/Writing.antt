-- What is left to happen after a configuration write.
use Prim.Native.Nat.{ℕ, zero, suc, ◌≤◌, ◌<◌}
use native.Mathlib.Omega.{arith}
use mathlib.Core.Bool.{Bool, true, false, not, true≢false}
use mathlib.Core.List.{List, [], ◌∷◌}
use mathlib.Core.Path.{◌≡◌, refl, sym, ap, ◌∙◌}
use lib.ListN.{length, get_or, set, take}
use borrow.Author.Tests.{le-ltb}
use Rattle.bits.proofs.Choices.{when_true, when_false}
use Rattle.times.specs.declared.Nanos.{Nanos}
use Rattle.frs_queue.specs.Queue.{no_tally}
use Rattle.registers.specs.declared.Kind.{Kind}
use Rattle.registers.specs.declared.Kind.TheVariants.{Endpoint}
use Rattle.registers.specs.Rows.{flr_capability_word}
use Rattle.registers.specs.Words.{write_word}
use Rattle.readiness.specs.declared.Setup.{Setup}
use Rattle.readiness.specs.declared.Slot.{Slot}
use Rattle.readiness.specs.declared.Status.{Status}
use Rattle.readiness.specs.declared.Dev.{Dev}
use Rattle.readiness.specs.Status.{ready, entry_of}
use Rattle.readiness.specs.inner.Phases.{statuses_in}
use Rattle.records.specs.declared.Request.{Request}
use Rattle.records.specs.declared.Record.TheVariants as variants
use Rattle.records.specs.declared.Route.{Route}
use Rattle.records.specs.State.{State, state, status_at, slot_kind, root_of}
use Rattle.records.specs.Requests.{word_at}
use Rattle.records.specs.Route.{route_of, is_access}
use Rattle.records.specs.Sound.{Sound, Fitting}
use Rattle.happenings.specs.declared.Note.{Note}
use Rattle.happenings.specs.declared.Note.TheVariants.{Plain, FlrStarted, NoFlr, EntersD3hot, WakesReset, WakesKept}
use Rattle.happenings.specs.Happenings.{settling, happenings}
use Rattle.happenings.specs.Writes.{note_of, write_note}
use Rattle.happenings.specs.inner.Started.{is_start, started_by}
use Rattle.happenings.proofs.Quiet.{write_happens, same_quiet}
use Rattle.left_to_happen.specs.declared.Left.TheVariants.{Nothing, Settling}
use Rattle.left_to_happen.specs.declared.LeftToHappen.{LeftToHappen}
use Rattle.left_to_happen.specs.Left.{left_happens}
use Rattle.left_to_happen.proofs.Laws.{left-nothing, left-settling, take-set}

-- a status that is there, whatever would stand for one that isn't
pub any_default : (i : ℕ) (l : List Status) (d e : Status) → i < length l → get_or l i d ≡ get_or l i e
any_default i [] d e h = absurd (omega arith)
any_default zero (s ∷ l) d e h = refl
any_default (suc i) (s ∷ l) d e h = any_default i l d e (omega arith)

-- a status among the first
pub take_at : (n i : ℕ) (l : List Status) → i < n → get_or (take n l) i ready ≡ get_or l i ready
take_at zero i l h = absurd (omega arith)
take_at (suc n) i [] h = refl
take_at (suc n) zero (s ∷ l) h = refl
take_at (suc n) (suc i) (s ∷ l) h = take_at n i l (omega arith)

pub capability_below : (kind : Kind) → flr_capability_word kind < 64
capability_below Endpoint = omega arith

-- a slot that isn't there can't be accessed
pub no_access : (slots : ℕ) (kind : Kind) (dev : Dev) (status : Status) (q : Request) → slots ≤ q.slot → is_access (route_of slots kind dev status false q) ≡ false
unfolding route_of
no_access slots kind dev status q h = ap is_access (when_true _ _ _ (ap not (le-ltb q.slot slots h)))

-- a write that starts nothing leaves the status
stays : (n : Note) (clock : Nanos) (entry : Slot) (status : Status) → is_start n ≡ false → started_by n clock entry status ≡ status
unfolding started_by is_start
stays Plain clock entry status e = refl
stays NoFlr clock entry status e = refl
stays EntersD3hot clock entry status e = refl
stays FlrStarted clock entry status e = absurd (true≢false e)
stays WakesReset clock entry status e = absurd (true≢false e)
stays WakesKept clock entry status e = absurd (true≢false e)

module _ (setup : Setup) (defaults : List ℕ) (dev : Dev) (statuses : List Status) (live cells : List ℕ) (q : Request) (value : ℕ) where
  abbrev s : State
  s = state dev (take setup.slots statuses) live cells

  abbrev of : Kind
  of = slot_kind setup q.slot

  abbrev route : Bool
  route = is_access (route_of setup.slots of dev (status_at (take setup.slots statuses) q.slot) false q)

  abbrev note : Note
  note =
      let old = word_at live q.slot q.word in
      note_of of q.word old (write_word of q.word old value q.enables) value q.enables (word_at defaults q.slot (flr_capability_word of))

  -- the route, as the code finds it
  pub route_by : (kind : Kind) (status : Status) (found : Route) (b : Bool) → kind ≡ of → status ≡ get_or statuses q.slot ready → found ≡ route_of setup.slots kind dev status false q → b ≡ is_access found
      → q.slot < setup.slots → route ≡ b
  route_by kind status found b k e r i below =
      (λ j. is_access (route_of setup.slots (sym k j) dev ((take_at setup.slots q.slot statuses below ∙ sym e) j) false q))
      ∙ ap is_access (sym r)
      ∙ sym i

  -- and the note
  pub note_by : (kind : Kind) (n : Note) (old capabilities word : ℕ) → kind ≡ of → old ≡ word_at live q.slot q.word → word ≡ flr_capability_word kind → capabilities ≡ word_at defaults q.slot word
      → n ≡ note_of kind q.word old (write_word kind q.word old value q.enables) value q.enables capabilities → n ≡ note
  note_by kind n old capabilities word k o w c p =
      p ∙ (λ j. note_of (k j) q.word (o j) (write_word (k j) q.word (o j) value q.enables) value q.enables ((c ∙ ap (word_at defaults q.slot) (w ∙ ap flr_capability_word k)) j))

  -- not done
  pub refused_note : route ≡ false → write_note setup defaults s q value ≡ Plain
  unfolding write_note
  refused_note e = when_false _ _ _ e

  pub refused-happens : route ≡ false → happenings setup defaults s (variants.Write q value) ≡ []
  refused-happens e = write_happens setup defaults s q value ∙ when_false _ _ _ e

  -- done
  pub done_note : route ≡ true → write_note setup defaults s q value ≡ note
  unfolding write_note
  done_note e = when_true _ _ _ e

  pub done-happens : (x : LeftToHappen) → route ≡ true → q.slot < setup.slots → (n : Note) → n ≡ note → (is_start n ≡ false → x.left ≡ Nothing)
      → (is_start n ≡ true → (x.left ≡ Settling) × (x.dev ≡ dev) × (statuses_in x.phases ≡ set statuses q.slot (started_by n dev.clock (entry_of setup q.slot) (get_or statuses q.slot ready))))
      → Sound setup s → Fitting setup defaults s → happenings setup defaults s (variants.Write q value) ≡ left_happens setup cells x
  done-happens x e below n p quiet starts sound fits = write_happens setup defaults s q value ∙ when_true _ _ _ e ∙ by (is_start n) refl
    where
      by : (b : Bool) → is_start n ≡ b
          → settling setup (record { statuses = set (take setup.slots statuses) q.slot (started_by note dev.clock (entry_of setup q.slot) (status_at (take setup.slots statuses) q.slot)); root = root_of s no_tally }) ≡ left_happens setup cells x
      by false k =
          ap (λ (t : Status). settling setup (record { statuses = set (take setup.slots statuses) q.slot t; root = root_of s no_tally }))
          (ap (λ (m : Note). started_by m dev.clock (entry_of setup q.slot) (status_at (take setup.slots statuses) q.slot)) (sym p) ∙ stays n dev.clock (entry_of setup q.slot) (status_at (take setup.slots statuses) q.slot) k)
          ∙ same_quiet setup defaults s sound fits q.slot
          ∙ sym (left-nothing setup cells x (quiet k))
      by true k =
          let h = starts k in
          let same : started_by n dev.clock (entry_of setup q.slot) (get_or statuses q.slot ready) ≡ started_by note dev.clock (entry_of setup q.slot) (status_at (take setup.slots statuses) q.slot)
          = λ j. started_by (p j) dev.clock (entry_of setup q.slot) (sym (take_at setup.slots q.slot statuses below) j) in
          sym (left-settling setup cells x dev _ h.0 h.1
          (ap (take setup.slots) h.2 ∙ take-set setup.slots q.slot statuses _ ∙ ap (set (take setup.slots statuses) q.slot) same))
