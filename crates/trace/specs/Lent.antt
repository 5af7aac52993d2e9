-- A call of feed on what the caller lends: refusals, and every lent byte afterwards.
use Rattle.std.specs.Prelude.{ℕ, zero, suc, ◌≡◌, Bool, false, List, [], ◌++◌, length, drop}
use Rattle.trace.specs.Format.{when◌then◌else◌}
use Rattle.trace.specs.Bench.{Device, Bench}
use Rattle.trace.specs.Outcome.{Outcome, first}
use Rattle.trace.specs.Feed.{Fed, feed_open}

-- A bench as it is lent, with its set-up fixed. H is all that goes from call to call, as the code keeps it:
--   device   what the records do
--   set_up    0, or the number for which the set-up is refused (1 to 4)
--   sound    nothing that 5 lists
--   view     the bench that the lent memory stands for
--   keep     the lent memory after a call that ended at this bench
pub record Lent (S H : Type 0) : Type 0 where
  pub device : Device S
  pub set_up : H → ℕ
  pub sound : H → Bool
  pub view : H → Bench S
  pub keep : Bench S → H

-- what a call leaves: its number and counts, all that goes on to the next call, and the answers slice
pub record Left (H : Type 0) : Type 0 where
  pub number : ℕ
  pub consumed : ℕ
  pub written : ℕ
  pub held : H
  pub answers : List ℕ

abbrev pub outcome_in : {H : Type 0} → Left H → Outcome
outcome_in x = record { number = x.number; consumed = x.consumed; written = x.written }

-- nothing changes
abbrev pub unchanged : {H : Type 0} → H → List ℕ → ℕ → Left H
unchanged h answers n = record { number = n; consumed = 0; written = 0; held = h; answers = answers }

-- where a number was given, what it leads to, else the rest
abbrev pub unless : {A : Type 0} → ℕ → (ℕ → A) → A → A
unless zero f x = x
unless (suc n) f x = f (suc n)

module _ {S H : Type 0} (L : Lent S H) where
  -- 0, or the first of 1 to 5 that applies
  unfoldable pub refusal : H → ℕ
  refusal h = first (L.set_up h) (when L.sound h then 0 else 5)

  -- 0, or the number given before a byte is looked at: 31, if the trace is broken, comes after 1 to 5
  unfoldable pub refusal_or31 : H → ℕ
  refusal_or31 h = first (refusal h) (when (L.view h).broken then 31 else 0)

  -- the answers stand at the front of their slice; the bytes beyond them stay
  abbrev pub leaves : Fed S → List ℕ → Left H
  leaves f answers =
      record {
        number = f.number;
        consumed = f.consumed;
        written = length f.answers;
        held = L.keep f.bench;
        answers = f.answers ++ drop (length f.answers) answers;
      }

  -- FEED, on what is held from the call before, an input and a slice for answers
  unfoldable pub feeds : H → (input answers : List ℕ) → Left H
  feeds h input answers =
      unless (refusal_or31 h) (unchanged h answers) (leaves (feed_open L.device (L.view h) (length answers) input) answers)

  -- WHERE DEMAND 3 STARTS: a sound port, its set-up not refused, unbroken, with nothing carried
  pub record Start (h : H) : Type 0 where
    pub accepted : refusal h ≡ 0
    pub none_carried : (L.view h).carried ≡ []
    pub unbroken : (L.view h).broken ≡ false
