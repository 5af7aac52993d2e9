-- A device that keeps something beside its state, and notes in it what each record does (for 02, Q-7). All that is said of replay on any device is said
-- of it too.
use Rattle.std.specs.Prelude.{ℕ, ◌≡◌, List, [], ◌∷◌}
use Rattle.trace.specs.Bench.{Device, Bench, cut, plain}
use Rattle.trace.specs.Lent.{Lent, Left}
use Rattle.trace.specs.Calls.{Came}
use Rattle.capture.specs.Lent.{Held, bench_in}
use Rattle.capture.specs.Calls.{trace_of}

-- something, and what is kept beside it
pub record Noting (A K : Type 0) : Type 0 where
  pub base : A
  pub kept : K

-- `note s r k`: what is kept after the record r, which runs in the state s, where k was kept before
module _ {S K : Type 0} (D : Device S) (note : S → List ℕ → K → K) where
  -- THE DEVICE that notes
  abbrev pub noting : Device (Noting S K)
  noting =
      record {
        run = λ x r. record { state = record { base = (D.run x.base r).state; kept = note x.base r x.kept }; answer = (D.run x.base r).answer };
        eight = λ x r. D.eight x.base r;
      }

  -- what is kept after the records rs, which run one after the other from the state s
  unfoldable pub kept_over : S → List (List ℕ) → K → K
  kept_over s [] k = k
  kept_over s (r ∷ rs) k = kept_over (D.run s r).state rs (note s r k)

module _ {S H K : Type 0} (L : Lent S H) (note : S → List ℕ → K → K) where
  abbrev pub noting_view : Noting H K → Bench (Noting S K)
  noting_view h = let p = L.view h.base in record { state = record { base = p.state; kept = h.kept }; carried = p.carried; broken = p.broken }

  abbrev pub noting_keep : Bench (Noting S K) → Noting H K
  noting_keep p = record { base = L.keep (record { state = p.state.base; carried = p.carried; broken = p.broken }); kept = p.state.kept }

  -- what is kept goes from call to call beside the lent memory, and no refusal looks at it
  abbrev pub noting_lent : Lent (Noting S K) (Noting H K)
  noting_lent = record { device = noting L.device note; set_up = λ h. L.set_up h.base; sound = λ h. L.sound h.base; view = noting_view; keep = noting_keep }

  -- what is held, and what a call leaves, without what is kept
  abbrev pub base_held : Held (Noting H K) → Held H
  base_held h = record { port = h.port.base; replay = h.replay }

  abbrev pub base_left : Left (Held (Noting H K)) → Left (Held H)
  base_left x = record { number = x.number; consumed = x.consumed; written = x.written; held = base_held x.held; answers = x.answers }

  -- WHAT IS KEPT after a list of calls is what the records of the trace leave that the calls stand for, one after the other; and the bench is as it is
  -- where nothing is kept
  pub record KeptAsFold (lent : Held (Noting H K)) (came : Came (Held (Noting H K))) : Type 0 where
    pub kept : came.held.port.kept ≡ kept_over L.device note (L.view lent.port.base).state (cut (trace_of noting_lent came)).wholes lent.port.kept
    pub state : (bench_in noting_lent came.held).state.base ≡ (plain L.device (L.view lent.port.base).state (trace_of noting_lent came)).state
    pub answers : came.answers ≡ (plain L.device (L.view lent.port.base).state (trace_of noting_lent came)).answers
