-- What a record does before slots become Ready, by what it leaves.
use mathlib.Core.Path.{◌≡◌, refl}
use mathlib.Core.Bool.{false≢true}
use mathlib.Core.List.{List}
use Prim.Native.Nat.{ℕ}
use Rattle.frs_queue.specs.Queue.{no_tally}
use Rattle.readiness.specs.declared.Status.{Status}
use Rattle.readiness.specs.declared.Dev.{Dev}
use Rattle.records.specs.State.{State, state}
use Rattle.records.specs.Answer.{Effect, refused, does}
use Rattle.records.specs.inner.Parts.{card_effect}
use Rattle.records.specs.declared.Record.{Record}
use Rattle.records.specs.declared.Record.TheVariants.{Advance, LinkUp, LinkDown, ColdReset}
use Rattle.records.specs.declared.Completion.{Completion}
use Rattle.records.specs.declared.Completion.TheVariants as completion
use Rattle.readiness.specs.declared.Setup.{Setup}
use Rattle.times.specs.declared.Nanos.{Nanos}
use Rattle.std.proofs.Common.{◌≢◌, Result, Ok, Err, OnErr, IsOk}

abbrev does_all : Dev → List Status → (live cells : List ℕ) → Effect State
does_all d l v cells = does (state d l v cells) no_tally 0

-- equal parts of the state are left alike
pub alike : (cells : List ℕ) {d e : Dev} {l m : List Status} {v w : List ℕ} → d ≡ e → l ≡ m → v ≡ w → does_all d l v cells ≡ does_all e m w cells
alike cells p q r = λ i. does_all (p i) (q i) (r i) cells

-- what holds of every result holds of an error
pub on_err : (P : Type 0) (r : Result Dev Completion) → P → OnErr r P
on_err P (Ok d) h = tt
on_err P (Err e) h = h

-- a result that is no error
pub none_err : (P : Type 0) (r : Result Dev Completion) → IsOk r → OnErr r P
none_err P (Ok d) h = tt
none_err P (Err e) h = absurd (false≢true h)

-- and two facts of an error
pub both_err : (P Q : Type 0) (r : Result Dev Completion) → OnErr r P → Q → OnErr r (P × Q)
both_err P Q (Ok d) h g = tt
both_err P Q (Err e) h g = (h, g)

-- a record that doesn't touch every slot is answered with 0 here
pub card_other : (setup : Setup) (defaults : List ℕ) (r : Record) (s : State)
    → ((by : Nanos) → r ≢ Advance by) → r ≢ LinkUp → r ≢ LinkDown → r ≢ ColdReset → card_effect setup defaults r s ≡ refused completion.Done 0
unfolding card_effect
card_other setup defaults (Advance by) s a u d c = absurd (a by refl)
card_other setup defaults LinkUp s a u d c = absurd (u refl)
card_other setup defaults LinkDown s a u d c = absurd (d refl)
card_other setup defaults ColdReset s a u d c = absurd (c refl)
card_other setup defaults _ s a u d c = refl
