-- DEMAND 3, over any device:
--
--     For every list of feed calls (refused ones, any cuts, any room) from a sound, unbroken port with nothing carried:
--     joined answers, each call's number and counts, and the whole state are those of the plain bench on the joined
--     consumed bytes.
--
-- `lent` is the memory before the calls; `list` is the calls, each an input and a slice for answers; `came` is what they come
-- to (Calls.calls): the consumed bytes, joined; the answers, joined; each call's number and counts; each answers slice; and
-- the memory after the last one. Any bytes may be an input, cut anywhere; a slice may have any length.
use Rattle.std.specs.Prelude.{ℕ, suc, ◌<◌, ◌≡◌, ◌||◌, List, ◌++◌, length}
use Rattle.trace.specs.Bench.{plain}
use Rattle.trace.specs.Lent.{Lent, refusal, refusal_or31, Start}
use Rattle.trace.specs.Calls.{Call, Came, slices_of, gave, beyond, placed, all_refused, expected, bench_after}

module _ {State Memory : Type 0} (bench : Lent State Memory) where
  -- Joined answers, each call's number and counts, and the whole state are those of the plain bench on `trace`, started in
  -- the state that `lent` shows
  pub record IsPlainBench (lent : Memory) (trace : List ℕ) (list : List Call) (came : Came Memory) : Type 0 where
    pub answers : came.answers ≡ (plain bench.device (bench.view lent).state trace).answers
    pub outcomes : came.outcomes ≡ expected bench.device (refusal bench lent) (bench.view lent) list
    -- broken from the first call that gives 31 on
    pub state : bench.view came.held ≡ bench_after bench.device (bench.view lent).state trace ((bench.view lent).broken || gave 31 came.outcomes)

  -- THE DEMAND, and what holds of every other start
  pub record OneTrace (lent : Memory) (list : List Call) (came : Came Memory) : Type 0 where
    -- FROM A SOUND, UNBROKEN PORT WITH NOTHING CARRIED: the plain bench on the joined consumed bytes
    pub demand : Start bench lent → IsPlainBench lent came.bytes list came
    -- more than that, from any port that isn't refused: the bytes that it carries stand in front of the consumed ones
    pub carrying : refusal bench lent ≡ 0 → IsPlainBench lent ((bench.view lent).carried ++ came.bytes) list came
    -- from a port that is refused (1 to 5) or broken (31): each call gives that number, consumes and writes nothing, and nothing changes
    pub refused : (n : ℕ) → refusal_or31 bench lent ≡ suc n → came ≡ all_refused (suc n) lent list
    -- the joined answers stand at the front of the slices, as many in each as its call wrote; answer bytes beyond those written stay
    pub slices : came.slices ≡ placed came.answers came.outcomes (slices_of list)
    pub untouched : beyond came.outcomes came.slices ≡ beyond came.outcomes (slices_of list)
    -- every byte of the memory is known, once a call was not refused: it is `keep` of the bench that it shows, so that past the carried bytes there are zeros
    pub memory : refusal_or31 bench lent ≡ 0 → 0 < length list → came.held ≡ bench.keep (bench.view came.held)
    -- and it stays sound
    pub sound : refusal bench lent ≡ 0 → refusal bench came.held ≡ 0
