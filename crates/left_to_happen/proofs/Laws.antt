-- What is left to happen, by what is left, and what happens in an advance, in a link up and in a message.
use Prim.Native.Nat.{ℕ, zero, suc, ◌*◌, ◌≤◌}
use native.Mathlib.Omega.{arith}
use mathlib.Core.Bool.{Bool, true, false, cond}
use mathlib.Core.List.{List, [], ◌∷◌, ◌++◌}
use mathlib.Core.Path.{◌≡◌, refl, sym, ap, ◌∙◌}
use lib.Dec.{leb}
use lib.ListN.{length, set, take}
use lib.Seq.{take_at, length-take-le}
use Rattle.times.specs.declared.Nanos.{Nanos}
use Rattle.times.specs.Moments.{sum_of, clock_end}
use Rattle.std.specs.Prelude.{Option, Some, None}
use Rattle.messages.specs.declared.Message.{Message}
use Rattle.messages.specs.declared.Message.TheVariants.{Drs, Frs}
use Rattle.frs_queue.specs.Queue.{no_tally}
use Rattle.readiness.specs.declared.Setup.{Setup}
use Rattle.readiness.specs.declared.Status.{Status}
use Rattle.readiness.specs.declared.Dev.{Dev}
use Rattle.readiness.specs.Fields.{with_clock}
use Rattle.readiness.specs.Status.{after_link_up, started_by_link_up}
use Rattle.readiness.specs.Settle.{scene}
use Rattle.readiness.specs.inner.Phases.{statuses_in}
use Rattle.readiness.proofs.PhaseNumbers.{statuses_length, statuses_take}
use Rattle.records.specs.declared.Completion.TheVariants as completion
use Rattle.records.specs.declared.Record.TheVariants as variants
use Rattle.records.specs.State.{state}
use Rattle.records.specs.Answer.{refused, does}
use Rattle.records.specs.CardRecords.{advance_effect, link_up_effect}
use Rattle.records.specs.Run.{effect}
use Rattle.happenings.specs.Happenings.{frs_happen, drs_happens, settling, by_message, happenings_in, happenings}
use Rattle.left_to_happen.specs.declared.Left.TheVariants.{Nothing, Settling, Arriving}
use Rattle.left_to_happen.specs.declared.LeftToHappen.{LeftToHappen}
use Rattle.left_to_happen.specs.Left.{happens_of, left_happens}

module _ (setup : Setup) (cells : List ℕ) (x : LeftToHappen) where
  pub left-nothing : x.left ≡ Nothing → left_happens setup cells x ≡ []
  unfolding left_happens
  left-nothing e = ap (happens_of setup cells x.dev (take setup.slots (statuses_in x.phases))) e

  pub left-settling : (d : Dev) (l : List Status) → x.left ≡ Settling → x.dev ≡ d → take setup.slots (statuses_in x.phases) ≡ l
      → left_happens setup cells x ≡ settling setup (scene l cells (record { dev = d; tally = no_tally }))
  unfolding left_happens
  left-settling d l e p q =
      ap (happens_of setup cells x.dev (take setup.slots (statuses_in x.phases))) e
      ∙ (λ j. settling setup (scene (q j) cells (record { dev = p j; tally = no_tally })))

  pub left_arriving : (b : Bool) (m : Option Message) (d : Dev) (l : List Status) (live : List ℕ) → x.left ≡ cond b (Arriving m) Nothing → x.dev ≡ d → left_happens setup cells x ≡ cond b (by_message setup (state d l live cells) m) []
  unfolding left_happens
  left_arriving b m d l live e p =
      ap (happens_of setup cells x.dev (take setup.slots (statuses_in x.phases))) e
      ∙ by b m
    where
      messages : (m : Option Message) → by_message setup (state x.dev (take setup.slots (statuses_in x.phases)) [] cells) m ≡ by_message setup (state d l live cells) m
      messages None = refl
      messages (Some (Drs id)) = ap (λ (e : Dev). drs_happens false e.clock setup.port_id (record { dev = e; cells = cells; tally = no_tally })) p
      messages (Some (Frs id reason)) = ap (λ (e : Dev). frs_happen e.clock (record { id = id; reason = reason } ∷ []) (record { dev = e; cells = cells; tally = no_tally })) p

      by : (b : Bool) (m : Option Message) → happens_of setup cells x.dev (take setup.slots (statuses_in x.phases)) (cond b (Arriving m) Nothing) ≡ cond b (by_message setup (state d l live cells) m) []
      by true m = messages m
      by false m = refl

module _ (setup : Setup) (defaults : List ℕ) (dev : Dev) (l : List Status) (live cells : List ℕ) where
  -- an advance that is done, and one that isn't
  pub advance-done : (by : Nanos) → leb (sum_of dev.clock by).0 clock_end ≡ true
      → happenings setup defaults (state dev l live cells) (variants.Advance by) ≡ settling setup (scene l cells (record { dev = with_clock dev (sum_of dev.clock by); tally = no_tally }))
  unfolding happenings effect advance_effect
  advance-done by e =
      let t = sum_of dev.clock by in
      ap (λ (b : Bool). happenings_in setup [] (cond b (does (state (with_clock dev t) l live cells) no_tally 0) (refused completion.ClockEnd 0))) e

  pub advance_not : (by : Nanos) → leb (sum_of dev.clock by).0 clock_end ≡ false → happenings setup defaults (state dev l live cells) (variants.Advance by) ≡ []
  unfolding happenings effect advance_effect
  advance_not by e =
      let t = sum_of dev.clock by in
      ap (λ (b : Bool). happenings_in setup [] (cond b (does (state (with_clock dev t) l live cells) no_tally 0) (refused completion.ClockEnd 0))) e

  -- the same of a link up
  pub link_up_done : dev.link ≡ false → happenings setup defaults (state dev l live cells) variants.LinkUp
      ≡ settling setup (scene (started_by_link_up setup dev l) cells (record { dev = after_link_up dev; tally = no_tally }))
  unfolding happenings effect link_up_effect
  link_up_done e =
      ap (λ (b : Bool). happenings_in setup [] (cond b (refused completion.WrongState 0) (does (state (after_link_up dev) (started_by_link_up setup dev l) live cells) no_tally 0))) e

  pub link_up_not : dev.link ≡ true → happenings setup defaults (state dev l live cells) variants.LinkUp ≡ []
  unfolding happenings effect link_up_effect
  link_up_not e =
      ap (λ (b : Bool). happenings_in setup [] (cond b (refused completion.WrongState 0) (does (state (after_link_up dev) (started_by_link_up setup dev l) live cells) no_tally 0))) e

-- the first statuses of numbers of which the first are changed
pub first_statuses : (n : ℕ) (first rest : List ℕ) → length first ≡ 4 * n → take n (statuses_in (first ++ rest)) ≡ statuses_in first
first_statuses n first rest e = sym (statuses_take n (first ++ rest)) ∙ ap statuses_in (take_at first rest (4 * n) e)

pub first-length : (n k : ℕ) (l : List ℕ) → k ≡ 4 * n → 4 * n ≤ length l → length (statuses_in (take k l)) ≡ n
first-length n k l e h =
    ap (λ (j : ℕ). length (statuses_in (take j l))) e ∙ ap length (statuses_take n l) ∙ length-take-le n (statuses_in l) (omega (arith, statuses_length l))

-- a card's slots after link up
pub started_first : (setup : Setup) (dev : Dev) (phases first rest : List ℕ) (k : ℕ) (l : List Status) → k ≡ 4 * setup.slots → length first ≡ k → statuses_in phases ≡ l
    → statuses_in first ≡ started_by_link_up setup dev (statuses_in (take k phases)) → take setup.slots (statuses_in (first ++ rest)) ≡ started_by_link_up setup dev (take setup.slots l)
started_first setup dev phases first rest k l e m p q =
    first_statuses setup.slots first rest (m ∙ e)
    ∙ q
    ∙ ap (started_by_link_up setup dev) (ap (λ (j : ℕ). statuses_in (take j phases)) e ∙ statuses_take setup.slots phases ∙ ap (take setup.slots) p)

-- of the first statuses, one anew
pub take-set : (n i : ℕ) (l : List Status) (v : Status) → take n (set l i v) ≡ set (take n l) i v
take-set zero i l v = refl
take-set (suc n) i [] v = refl
take-set (suc n) zero (s ∷ l) v = refl
take-set (suc n) (suc i) (s ∷ l) v = ap (λ (m : List Status). s ∷ m) (take-set n i l v)
