-- Q-5, over any device: every list of replay calls is one trace on the plain bench, the trace that the capture's consumed bytes stand for.
use Rattle.std.specs.Prelude.{ℕ, suc, ◌-◌, ◌<◌, ◌≡◌, true, false, List, length, drop}
use Rattle.trace.specs.Format.{Bytes}
use Rattle.trace.specs.Lent.{Lent}
use Rattle.trace.specs.Calls.{Call, Came, slices_of, BytesIn, gave, beyond, placed, all_refused, calls}
use Rattle.capture.specs.Capture.{place_of}
use Rattle.capture.specs.Lent.{Held, progress_in, replay_of, bench_in, place_in, matching, refusal_with, stops_first, replays, Fresh}
use Rattle.capture.specs.Calls.{replay_calls, trace_of, plain_on, expected, ended_by}
use Rattle.capture.specs.Ending.{EndsWith}
use Rattle.capture.specs.Cutting.{CutsAnywhere}

module _ {State Memory : Type 0} (bench : Lent State Memory) where
  -- THE CLAIM, of a list of replay calls from a fresh start, where `came` is what they come to
  pub record AsOneTrace (lent : Held Memory) (list : List Call) (came : Came (Held Memory)) : Type 0 where
    -- the joined answers are the plain bench's answers to the trace that the consumed bytes stand for
    pub answers : came.answers ≡ (plain_on bench lent came).answers
    -- after the list, and so after each call, the bench is the plain bench; broken is "some call gave 31"
    pub state : bench_in bench came.held
        ≡ record { state = (plain_on bench lent came).state; carried = (plain_on bench lent came).carried; broken = gave 31 came.outcomes }
    -- the replay stands where the consumed bytes leave off, and is ended by the first 32 or 33
    pub place : place_in bench came.held ≡ place_of came.bytes
    pub ended : came.held.replay.ended ≡ ended_by came.outcomes
    -- its state always matches, so nothing is refused
    pub matches : matching bench came.held ≡ true
    pub sound : refusal_with bench came.held ≡ 0
    -- every byte of the memory is known: it is that of the bench and of the replay that it shows
    pub memory : 0 < length list → came.held ≡ record { port = bench.keep (bench_in bench came.held); replay = replay_of (progress_in came.held.replay) }
    -- each call's number and counts follow from its input, its room, and what was consumed, answered and given before
    pub outcomes : came.outcomes ≡ expected list
    -- and a call's number says why it ended: whatever call comes next, if nothing stops it at once
    pub why : (c : Call) → Bytes c.input → stops_first bench came.held ≡ 0
        → (let x = replays bench came.held c.input c.answers in
        EndsWith (bench_in bench x.held).carried (progress_in x.held.replay) (length c.answers - x.written) (drop x.consumed c.input) x.number)
    -- no call gives 1 to 5, or any number below 30 but 0
    pub numbers : (n : ℕ) → 0 < n → n < 30 → gave n came.outcomes ≡ false
    -- the joined answers stand at the front of the slices, as many in each as its call wrote; answer bytes beyond those written stay
    pub slices : came.slices ≡ placed came.answers came.outcomes (slices_of list)
    pub untouched : beyond came.outcomes came.slices ≡ beyond came.outcomes (slices_of list)
    -- how the bytes are cut into calls doesn't matter
    pub cuts : CutsAnywhere bench came.held
    -- once ended, every later call gives that number and changes nothing; and so with a port that is broken
    pub finished : (n : ℕ) → came.held.replay.ended ≡ suc n → (more : List Call) → replay_calls bench came.held more ≡ all_refused (suc n) came.held more
    pub shut : came.held.replay.ended ≡ 0 → (bench_in bench came.held).broken ≡ true
        → (more : List Call) → replay_calls bench came.held more ≡ all_refused 31 came.held more
    -- FEEDING THAT TRACE gives the same: any feed calls from the same port that consume it give the same answers, and leave the same device and carried bytes
    pub as_fed : (feeds : List Call) → BytesIn feeds
        → (let fed = calls bench lent.port feeds in
        fed.bytes ≡ trace_of bench came
        → (fed.answers ≡ came.answers)
        × ((bench.view fed.held).state ≡ (bench_in bench came.held).state)
        × ((bench.view fed.held).carried ≡ (bench_in bench came.held).carried))

  -- REFUSED CALLS, from any memory, in the order of the numbers: nothing changes
  pub record Refusals (lent : Held Memory) (list : List Call) (came : Came (Held Memory)) : Type 0 where
    -- 1 to 4
    pub set_up : (n : ℕ) → bench.set_up lent.port ≡ suc n → came ≡ all_refused (suc n) lent list
    -- 5: the port is unsound, or the state of the replay doesn't match it
    pub unsound : bench.set_up lent.port ≡ 0 → bench.sound lent.port ≡ false → came ≡ all_refused 5 lent list
    pub unmatched : bench.set_up lent.port ≡ 0 → bench.sound lent.port ≡ true → matching bench lent ≡ false → came ≡ all_refused 5 lent list
    -- then an ended replay's number, then 31
    pub ended : refusal_with bench lent ≡ 0 → (n : ℕ) → lent.replay.ended ≡ suc n → came ≡ all_refused (suc n) lent list
    pub broken : refusal_with bench lent ≡ 0 → lent.replay.ended ≡ 0 → (bench_in bench lent).broken ≡ true → came ≡ all_refused 31 lent list

  -- BOTH, over every list of calls
  pub record OneReplay (lent : Held Memory) (list : List Call) (came : Came (Held Memory)) : Type 0 where
    pub claim : Fresh bench lent → AsOneTrace lent list came
    pub refusals : Refusals lent list came
