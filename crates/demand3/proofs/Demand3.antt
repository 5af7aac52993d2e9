-- DEMAND 3 AT THE BENCH, proved as specs/Demand3.antt states it.
use Prim.Native.Nat.{ℕ, suc}
use mathlib.Core.Path.{◌≡◌, refl, ap, sym, subst, ◌∙◌}
use mathlib.Core.Bool.{Bool, ◌||◌}
use mathlib.Core.List.{List, ◌++◌}
use native.Mathlib.Omega.{arith}
use Rattle.trace.specs.Bench.{Bench}
use Rattle.trace.specs.Lent.{Start, unchanged}
use Rattle.trace.specs.Calls.{Call, BytesIn, gave}
use Rattle.trace.specs.OneTrace.{OneTrace}
use Rattle.trace.proofs.Refusing.{stops_refused, feeds_stopped}
use Rattle.trace.proofs.Theorem.{one_trace as one_trace_on}
use Rattle.trace.proofs.Laws.{and_then, calls_append, called, called_none}
use Rattle.readiness.specs.declared.Setup.{Setup}
use Rattle.records.specs.State.{State}
use Rattle.demand3.specs.Held.{Held, state_of, bench_of}
use Rattle.demand3.specs.Feeding.{bench, refusal_of, feeds, calls, plain_bench}
use Rattle.demand3.specs.Compared.{Typed, Shows}
use Rattle.demand3.specs.Demand3.{Demand3}
use Rattle.demand3.proofs.Numbers.{set_up_facts}
use Rattle.demand3.proofs.StateKept.{bytes_take, Good, keeps}
use Rattle.demand3.proofs.Prepared.{set_up_number, set_up_start}
use Rattle.demand3.proofs.TwoRecords.{two_records}

-- a bench, part by part
pub shows : (h : Held) (p : Bench State) → bench_of h ≡ p → Shows h p
shows h p e =
    record {
      registers = ap (λ (b : Bench State). b.state.live) e;
      statuses = ap (λ (b : Bench State). b.state.statuses) e;
      cells = ap (λ (b : Bench State). b.state.cells) e;
      start = ap (λ (b : Bench State). b.state.port.queue.start) e;
      depth = ap (λ (b : Bench State). b.state.port.queue.depth) e;
      received = ap (λ (b : Bench State). b.state.port.queue.received) e;
      overflow = ap (λ (b : Bench State). b.state.port.queue.overflow) e;
      drs_received = ap (λ (b : Bench State). b.state.port.drs_received) e;
      visibility = ap (λ (b : Bench State). b.state.port.control.visibility) e;
      frs_interrupt = ap (λ (b : Bench State). b.state.port.control.frs_interrupt) e;
      signalling = ap (λ (b : Bench State). b.state.port.control.signalling) e;
      link = ap (λ (b : Bench State). b.state.port.link) e;
      owed = ap (λ (b : Bench State). b.state.port.owed) e;
      clock = ap (λ (b : Bench State). b.state.port.clock) e;
      carried = ap (λ (b : Bench State). b.carried) e;
      broken = ap (λ (b : Bench State). b.broken) e;
    }

module _ (setup : Setup) (defaults : List ℕ) (h : Held) (t : Typed setup h) where
  -- EVERY LIST OF CALLS IS ONE TRACE ON THE PLAIN BENCH
  pub one_trace : (cs : List Call) → BytesIn cs → OneTrace (bench setup defaults) h cs (calls setup defaults h cs)
  one_trace cs i =
      one_trace_on (bench setup defaults) h (Good setup defaults h t) (keeps setup defaults h t) cs (bytes_take h.port.carried_len h.port.carried t.carried) i

  -- and the whole state is the plain bench's, part by part
  parts : (cs : List Call) → BytesIn cs → Start (bench setup defaults) h
      → (let z = calls setup defaults h cs in Shows z.held (plain_bench setup defaults h z.bytes (gave 31 z.outcomes)))
  parts cs i s =
      let z = calls setup defaults h cs in
      shows z.held (plain_bench setup defaults h z.bytes (gave 31 z.outcomes))
      (((one_trace cs i).demand s).state ∙ ap (λ (b : Bool). plain_bench setup defaults h z.bytes (b || gave 31 z.outcomes)) s.unbroken)

-- DEMAND 3
pub demand_3 : Demand3
demand_3 setup defaults h t =
    record {
      lists = one_trace setup defaults h t;
      none = called_none (bench setup defaults) h;
      more = λ c cs. called (bench setup defaults) h c cs (feeds setup defaults h c.input c.answers) refl;
      parts = parts setup defaults h t;
      two_advances = λ e a b. two_records setup defaults (state_of h) (let f = (set_up_facts setup defaults h e).lengths in omega (arith, f.per_slot, f.most)) a b;
      from_set_up = λ e. set_up_start setup defaults h (sym (set_up_number setup defaults h) ∙ e);
    }

-- A LIST IN TWO PARTS: the second part starts from what the first left, so what is claimed after a list is claimed after each of its calls
pub two_parts : (setup : Setup) (defaults : List ℕ) (h : Held) (cs ds : List Call)
    → (let z = calls setup defaults h cs in calls setup defaults h (cs ++ ds) ≡ and_then z (calls setup defaults z.held ds))
two_parts setup defaults h cs ds = calls_append (bench setup defaults) h cs ds

-- A REFUSED CALL gives its number, consumes and writes nothing, and changes nothing
pub refused_call : (setup : Setup) (defaults : List ℕ) (h : Held) (n : ℕ) (input answers : List ℕ)
    → refusal_of setup defaults h ≡ suc n → feeds setup defaults h input answers ≡ unchanged h answers (suc n)
refused_call setup defaults h n input answers e = feeds_stopped (bench setup defaults) h input answers n (stops_refused (bench setup defaults) h n e)
