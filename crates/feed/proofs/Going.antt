-- What holds at the head of feed's loop over a call's input, and that a record's turn keeps it.
use Prim.Native.Nat.{ℕ, ◌+◌, ◌-◌, ◌≤◌, ◌<◌}
use mathlib.Core.Path.{◌≡◌, sym, ◌∙◌}
use mathlib.Core.List.{List}
use native.Mathlib.Omega.{arith}
use lib.ListN.{length, drop, replicate}
use lib.Seq.{paste}
use Rattle.times.specs.declared.Nanos.{Nanos}
use Rattle.readiness.specs.declared.Setup.{Setup}
use Rattle.readiness.specs.declared.Dev.{Dev}
use Rattle.readiness.specs.inner.Phases.{statuses_in, moments_in}
use Rattle.readiness.specs.inner.Earliest.{ReadyFrom}
use Rattle.records.specs.declared.Record.{Record}
use Rattle.records.specs.declared.Reply.{Reply}
use Rattle.records.specs.State.{State, state}
use Rattle.records.specs.Answer.{answer_bytes}
use Rattle.execute.specs.inner.Lent.{state_in}
use Rattle.decode.specs.declared.Found.{Found}
use Rattle.decode.specs.inner.Gathering.{StandsNext}
use Rattle.feed.specs.inner.Turns.{TakesTurn, NotesTurn}
use Rattle.feed.proofs.Looping.{Head, Turning, turning, turned}
use Rattle.feed.proofs.Noting.{Notes, note_turn}

-- a call in the set-up k on `input` began in the state s₀ with the moments m₀ and so many numbers for statuses; `room` is the slice for answers as it was lent
module _ (k : Setup) (defaults input room : List ℕ) (s₀ : State) (m₀ : List ℕ) (numbers : ℕ) where
  pub record Going (earliest : Nanos) (answers : List ℕ) (dev : Dev) (phases live cells : List ℕ) (at w : ℕ) : Type 0 where
    pub head : Head k defaults (replicate 16 0) 0 input room s₀ answers dev (statuses_in phases) live cells at w
    pub from : ReadyFrom earliest (statuses_in phases)
    pub long : length phases ≡ numbers
    pub notes : Notes k defaults input (length room) s₀ m₀ (state dev (statuses_in phases) live cells) (moments_in phases) at w

module _ {k : Setup} {defaults input room : List ℕ} {s₀ : State} {m₀ : List ℕ} {numbers : ℕ} {earliest : Nanos} {answers : List ℕ} {dev : Dev} {phases live cells : List ℕ} {at w : ℕ}
    (v : Going k defaults input room s₀ m₀ numbers earliest answers dev phases live cells at w) (found : Found) (next : StandsNext (length answers - w) (drop at input) found) where
  pub turns : Turning v.head found.size
  turns = turning v.head found.size next.size next.some

  pub smaller : length input - (at + found.size) < length input - at
  smaller = let t = turns in omega (arith, t.some, t.there)

  pub space : w + 8 ≤ length answers
  space = let h = v.head in let t = turns in omega (arith, h.inv.w_in, h.inv.long, t.space)

  -- A RECORD'S TURN
  pub goes_on : (r : Record) → found.«record» ≡ r → (earliest' : Nanos) (answers' : List ℕ) (dev' : Dev) (phases' live' cells' : List ℕ) (a : Reply)
      → TakesTurn k defaults (state_in dev phases live cells) r (state_in dev' phases' live' cells') a
      → NotesTurn k defaults (state_in dev phases live cells) r (moments_in phases) (moments_in phases')
      → ReadyFrom earliest' (statuses_in phases')
      → length phases' ≡ length phases
      → answers' ≡ paste answers w (answer_bytes a) 8
      → Going k defaults input room s₀ m₀ numbers earliest' answers' dev' phases' live' cells' (at + found.size) (w + 8)
  goes_on r e earliest' answers' dev' phases' live' cells' a x n f l p =
      let d = sym e ∙ next.of_bytes in
      let kept = v.head.inv.good.kept in
      record {
        head = turned v.head found.size turns r d dev' (statuses_in phases') live' cells' a answers' x p;
        from = f;
        long = l ∙ v.long;
        notes = λ ws every joined few.
            note_turn _ _ _ _ _ _ _ _ _ _ _ (v.notes ws every joined few) found.size turns.got r d
            (state_in dev' phases' live' cells') (x kept.sound kept.fits).state (moments_in phases') (n kept.sound kept.fits);
      }
