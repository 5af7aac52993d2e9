-- A call with bytes carried: the record that they begin, and then the entries; or no record.
use Rattle.times.specs.declared.Nanos.{Nanos}
use Rattle.std.specs.Prelude.{Option}
use Prim.Native.Nat.{ℕ, ◌+◌, ◌-◌, ◌≤◌, ◌<◌}
use mathlib.Core.Path.{◌≡◌, ap, sym, ◌∙◌}
use mathlib.Core.Bool.{true}
use mathlib.Core.List.{List, [], ◌++◌, append_assoc}
use native.Mathlib.Omega.{arith}
use lib.ListN.{length, take, drop, length-append, length-drop}
use lib.Seq.{drop-drop, length-take-le}
use lib.Dec.{eqb}
use Rattle.trace.specs.Format.{begun, pad, next}
use Rattle.trace.specs.Bench.{Device, Ran}
use Rattle.trace.specs.Lent.{Left}
use Rattle.trace.specs.inner.Gathered.{whole_size, end_number, end_count}
use Rattle.trace.proofs.Records.{carrying}
use Rattle.trace.proofs.Loop.{Got, by_gather, end_few}
use Rattle.readiness.specs.declared.Status.{Status}
use Rattle.readiness.specs.declared.Setup.{Setup}
use Rattle.readiness.specs.inner.Phases.{moments_with}
use Rattle.records.specs.declared.Port.{Port}
use Rattle.records.specs.State.{state}
use Rattle.capture.specs.declared.Replay.{Replay}
use Rattle.capture.specs.Replay.{Progress, Replayed, later, replay_open}
use Rattle.capture.specs.Lent.{progress_in, leaves}
use Rattle.capture.proofs.Steps.{carried_record, carried_end}
use Rattle.demand3.specs.Held.{held, carried_of}
use Rattle.replay_rules.specs.KeepingMoments.{noting_bench, HeldNoting, held_noting}
use Rattle.replay_state.specs.inner.Moves.{Tidy}
use Rattle.replay.specs.inner.Noted.{Noted, noting_device, noted_with}
use Rattle.replay.specs.inner.Calls.{comes_to, carried_on}
use Rattle.replay.proofs.Looping.{left_of}

module _ (k : Setup) (defaults : List ℕ) (s : Noted) (c input answers : List ℕ) (q : Progress) (b : begun c ≡ true) (some : 0 < length c) where
  abbrev D : Device Noted
  D = noting_device k defaults

  -- THE RECORD, and then the rest
  pub joined : (size : ℕ) (g : Got (c ++ input) size) → 8 ≤ length answers → (t : Noted) (a : List ℕ) → ◌≡◌ {A = Ran Noted} (record { state = t; answer = a }) (D.run s g.whole)
      → (after : List ℕ) → take 8 after ≡ a → drop 8 after ≡ drop 8 answers
      → (y : Left HeldNoting) → y ≡ comes_to k defaults t [] q (drop (size - length c) input) (drop 8 after)
      → ◌≡◌ {A = Left HeldNoting}
      (record { number = y.number; consumed = size - length c + y.consumed; written = 8 + y.written; held = y.held; answers = take 8 after ++ y.answers })
      (comes_to k defaults s c q input answers)
  joined size g room t a ran after ta da y e =
      let w = g.whole in
      let f = replay_open D (carrying t []) q (length answers - 8) (drop (size - length c) input) in
      let a8 : length a ≡ 8 = ap (λ (u : Ran Noted). length u.answer) ran ∙ D.eight s w in
      let one : replay_open D (carrying s c) q (length answers) input ≡ later (size - length c) a f =
      carried_record D s c q (length answers) input w g.is room b some
      ∙ (λ i. later (sym g.count i - length c) (sym ran i).answer (replay_open D (carrying (sym ran i).state []) q (length answers - 8) (drop (sym g.count i - length c) input))) in
      let n : length (drop 8 after) ≡ length answers - 8 = ap length da ∙ length-drop 8 answers in
      let z : y ≡ leaves (noting_bench k defaults) f (drop 8 answers) = e ∙ (λ i. leaves (noting_bench k defaults) (replay_open D (carrying t []) q (n i) (drop (size - length c) input)) (da i)) in
      let l : 8 + length f.answers ≡ length (a ++ f.answers) = omega (arith, length-append a f.answers, a8) in
      let x : a ++ (f.answers ++ drop (length f.answers) (drop 8 answers)) ≡ (a ++ f.answers) ++ drop (length (a ++ f.answers)) answers =
      sym (append_assoc a f.answers (drop (length f.answers) (drop 8 answers)))
      ∙ ap (λ (m : List ℕ). (a ++ f.answers) ++ m) (drop-drop (length f.answers) 8 answers ∙ ap (λ (m : ℕ). drop m answers) l) in
      ◌∙◌ {A = Left HeldNoting}
      (λ i. record { number = (z i).number; consumed = size - length c + (z i).consumed; written = 8 + (z i).written; held = (z i).held; answers = ta i ++ (z i).answers })
      (◌∙◌ {A = Left HeldNoting}
      (λ i. record { number = f.number; consumed = size - length c + f.consumed; written = l i; held = (leaves (noting_bench k defaults) f (drop 8 answers)).held; answers = x i })
      (ap (λ (h : Replayed Noted). leaves (noting_bench k defaults) h answers) (sym one)))

-- OR NO RECORD
pub no_record_yet : (k : Setup) (defaults : List ℕ) (kept : List (Option Nanos)) (port : Port) (statuses : List Status) (moments live cells input answers : List ℕ) (r : Replay) → Tidy r
    → begun (carried_of port) ≡ true → length (carried_of port) ≡ port.carried_len → 0 < port.carried_len
    → whole_size (length answers) (next (carried_of port ++ input)) ≡ 0
    → left_of kept (carried_on port r input) statuses moments live cells answers ≡ comes_to k defaults (noted_with kept (state port.dev statuses live cells) moments) (carried_of port) (progress_in r) input answers
no_record_yet k defaults kept port statuses moments live cells input answers r tidy b len some none =
    let c = carried_of port in
    let s = noted_with kept (state port.dev statuses live cells) moments in
    let l = c ++ input in
    let n = end_number (next l) in
    let m = end_count l (next l) in
    let long : m ≡ length (take m l) = sym (length-take-le m l (end_few l).1) in
    let e = carried_end (noting_device k defaults) s c (progress_in r) (length answers) input n m ((by_gather (noting_device k defaults) s (length answers) l).1 none) b (omega (arith, len)) in
    ◌∙◌ {A = Left HeldNoting}
    (λ i. record {
      number = n;
      consumed = m - sym len i;
      written = 0;
      held = held_noting (held (record { dev = port.dev; carried = pad 16 (take m l); carried_len = long i; broken = eqb n 31 }) statuses live cells) (moments_with kept moments) (tidy i);
      answers = answers;
    })
    (ap (λ (f : Replayed Noted). leaves (noting_bench k defaults) f answers) (sym e))
