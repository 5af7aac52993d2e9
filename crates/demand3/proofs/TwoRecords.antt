-- Two records 01 on the plain bench are one by the sum, on bytes.
use Prim.Native.Nat.{ℕ, zero, suc, ◌+◌, ◌*◌, ◌/◌, ◌%◌, ◌^◌, ◌≤◌, ◌<◌}
use mathlib.Core.Path.{◌≡◌, refl, ap, sym, ◌∙◌}
use mathlib.Core.Bool.{Bool, true, false, ◌||◌}
use mathlib.Core.List.{List, [], ◌++◌}
use native.Mathlib.Omega.{arith}
use native.Mathlib.Nat.{div-div-eq-div-mul}
use lib.ListN.{length}
use Rattle.bits.proofs.Numbers.{four_bytes}
use Rattle.bits.specs.Bits.{bit, one}
use Rattle.bits.proofs.Bits.{bit_above}
use Rattle.frs_queue.specs.declared.Tally.{Tally}
use Rattle.readiness.specs.declared.Setup.{Setup}
use Rattle.trace.specs.Format.{longest, pad, size_of, known, body, whole}
use Rattle.trace.specs.Bench.{Device, cut_in, cut, runs, plain}
use Rattle.records.specs.declared.Record.{Record}
use Rattle.records.specs.declared.Record.TheVariants.{Advance}
use Rattle.records.specs.State.{State}
use Rattle.records.specs.Decode.{four, decode}
use Rattle.records.specs.Answer.{completion_number, interrupts, answer_bytes, Ran}
use Rattle.times.specs.Moments.{clock_end}
use Rattle.records.specs.Run.{run}
use Rattle.records.proofs.Laws.{TwoAreOne, two_advances_are_one}
use Rattle.records.proofs.Queued.{interrupt_bits}
use Rattle.records.specs.Device.{in_bytes, device}
use Rattle.demand3.specs.Compared.{advance_by, AddUp}

-- ---- a record 01 and its bytes
abbrev advance : ℕ → Record
advance n = Advance (record { 0 = n })

decoded : (n : ℕ) → n < 4294967296 → decode (pad longest (advance_by n)) ≡ advance n
unfolding decode four
decoded n h = ap advance (four_bytes n h)

module _ {S : Type 0} (D : Device S) (s : S) where
  plain_one : (n : ℕ) → plain D s (advance_by n) ≡ record { state = (D.run s (advance_by n)).state; carried = []; answers = (D.run s (advance_by n)).answer ++ [] }
  unfolding plain runs cut cut_in whole known body size_of
  plain_one n = refl

  plain_two : (a b : ℕ)
      → (let x = D.run s (advance_by a) in
      let y = D.run x.state (advance_by b) in
      plain D s (advance_by a ++ advance_by b) ≡ record { state = y.state; carried = []; answers = x.answer ++ (y.answer ++ []) })
  unfolding plain runs cut cut_in whole known body size_of
  plain_two a b = refl

-- ---- interrupts, bit by bit
interrupts_small : (t : Tally) → interrupts t < 2 ^ 3
interrupts_small t = by t.received t.overflow t.drs
  where
    small : (a : Bool) → one a ≤ 1
    small true = omega arith
    small false = omega arith

    by : (a b c : Bool) → one a + 2 * one b + 4 * one c < 2 ^ 3
    by a b c = omega (arith, small a, small b, small c)

module _ (x y w : Tally) (received : w.received ≡ (x.received || y.received)) (overflow : w.overflow ≡ (x.overflow || y.overflow)) (drs : w.drs ≡ (x.drs || y.drs)) where
  or_bits : (k : ℕ) → (bit (interrupts x) k || bit (interrupts y) k) ≡ bit (interrupts w) k
  or_bits zero = rw ((interrupt_bits x).0, (interrupt_bits y).0, (interrupt_bits w).0) (sym received)
  or_bits (suc zero) = rw ((interrupt_bits x).1, (interrupt_bits y).1, (interrupt_bits w).1) (sym overflow)
  or_bits (suc (suc zero)) = rw ((interrupt_bits x).2, (interrupt_bits y).2, (interrupt_bits w).2) (sym drs)
  or_bits (suc (suc (suc k))) =
      let n = suc (suc (suc k)) in
      rw (bit_above (interrupts x) 3 n (interrupts_small x) (omega arith), bit_above (interrupts y) 3 n (interrupts_small y) (omega arith), bit_above (interrupts w) 3 n (interrupts_small w) (omega arith))

-- ---- the records run
module _ (setup : Setup) (defaults : List ℕ) (s : State) where
  abbrev ran : State → ℕ → Ran State
  ran t n = run setup defaults t (advance n)

  adds_up : (x y w : Ran State) → TwoAreOne w x y
      → AddUp (record { state = y.after; carried = []; answers = (in_bytes x).answer ++ ((in_bytes y).answer ++ []) }) (record { state = w.after; carried = []; answers = (in_bytes w).answer ++ [] })
  unfolding in_bytes answer_bytes
  adds_up x y w t =
      record {
        state = sym t.state;
        carried = refl;
        queued = sym t.queued;
        dropped = sym t.dropped;
        interrupts = or_bits x.reply.tally y.reply.tally w.reply.tally t.received t.overflow t.drs;
        first = ap completion_number t.first_done;
        second = ap completion_number t.second_done;
        whole = ap completion_number t.whole-done;
      }

  -- TWO ADVANCES ARE ONE, on the plain bench and on bytes
  pub two_records : length s.statuses ≤ 32 → (a b : ℕ) → a + b < 4294967296 → s.port.clock.0 + a + b ≤ clock_end
      → AddUp (plain (device setup defaults) s (advance_by a ++ advance_by b)) (plain (device setup defaults) s (advance_by (a + b)))
  unfolding in_bytes
  two_records few a b small clock =
      let D = device setup defaults in
      rw (plain_two D s a b, plain_one D s (a + b), decoded a (omega arith), decoded b (omega arith), decoded (a + b) small)
      (adds_up (ran s a) (ran (ran s a).after b) (ran s (a + b)) (two_advances_are_one setup defaults s (record { 0 = a }) (record { 0 = b }) few clock))
