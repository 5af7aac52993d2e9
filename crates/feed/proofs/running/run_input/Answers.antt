-- `feed::running::run_input` meets its contract.
use mathlib.Core.Path.{◌≡◌, refl, sym, ap, ◌∙◌, subst}
use mathlib.Core.List.{List}
use Prim.Native.Nat.{ℕ, ◌+◌, ◌-◌, ◌≤◌, ◌<◌}
use native.Mathlib.Omega.{arith}
use lib.ListN.{length, take, drop, replicate, length-drop}
use lib.Seq.{take-length, paste}
use borrow.Author.Rules.{rules}
use Rattle.bits.proofs.Bytes.{bytes_of}
use Rattle.times.specs.declared.Nanos.{Nanos}
use Rattle.readiness.specs.inner.Phases.{statuses_in}
use Rattle.readiness.specs.inner.Earliest.{ReadyFrom}
use Rattle.readiness.proofs.Bounds.{bound_quiet}
use Rattle.readiness.proofs.PhaseNumbers.{notes_none}
use Rattle.records.specs.declared.Reply.{Reply}
use Rattle.records.specs.declared.Port.{Port}
use Rattle.records.specs.Answer.{answer_bytes}
use Rattle.records.proofs.Readying.{readied_port, readied_read, readied-set, readied_clock}
use Rattle.trace.specs.Format.{next}
use Rattle.trace.specs.Lent.{Left}
use Rattle.trace.specs.inner.Gathered.{whole_size}
use Rattle.trace.proofs.Loop.{end_few}
use Rattle.demand3.specs.Held.{Held, held, opened}
use Rattle.feed.specs.declared.FedPort.{FedPort}
use Rattle.feed.specs.inner.Calls.{carries_on}
use Rattle.set_up.specs.Lent.{held_in}
use Rattle.feed.proofs.Accepting.{accepted}
use Rattle.feed.proofs.Looping.{starts, ended_all, length_trace}
use Rattle.feed.proofs.Direct.{at_slot, bound_zero}
use Rattle.feed.proofs.Noting.{note_starts, note_all}
use Rattle.feed.proofs.Going.{turns, goes_on, smaller}
use Rattle.feed.proofs.running.run_input.Goals as goal
use Rattle.feed.proofs.running.run_input.Goals.{in-Read, in-Write, in-Hardware, in-Port, in-Frs, in-Clock, in-Card}

pub loop-found-init : goal.loop-found-init
loop-found-init c =
    let a = c.args in
    let lent = held_in (opened a.start) a.phases.now a.live.now a.cells.now in
    let relies = accepted a.setup a.defaults.now lent c.requires.not_refused (search rules) (search rules) in
    record {
      head = starts _ _ _ _ _ _ _ a.start (statuses_in a.phases.now) a.live.now a.cells.now refl
          relies.fits.per_slot relies.short refl relies.good relies.begun tt (bytes_of a.input.now (λ i h. omega (arith, c.type_inv.input i)));
      from = subst (λ (m : Nanos). ReadyFrom m (statuses_in a.phases.now)) (sym c.nanos_of-earliest.ensures) (bound_zero (statuses_in a.phases.now));
      long = refl;
      notes = λ ws w j h. note_starts _ _ _ _ _ _ _ w j h;
    }

pub overflow_add-at : goal.overflow_add-at
overflow_add-at c =
    let t = turns c.loop-found.invariant c.in-Some.found c.in-Some.ensures in
    let small : length c.args.input.now < 9223372036854775808 = search rules in
    omega (arith, t.there, small)

pub loop-found-smaller : goal.loop-found-smaller
loop-found-smaller c = smaller c.loop-found.invariant c.in-Some.found c.in-Some.ensures

pub loop-found-preserved : goal.loop-found-preserved
loop-found-preserved c =
    let k = c.args.setup in
    let d = c.args.defaults.now in
    let l = c.loop-found in
    let v = l.invariant in
    let on = goes_on v c.in-Some.found c.in-Some.ensures in
    let answered : (a : Reply) → c.match-turn_of.reply ≡ a → c.put_answer.new.answers ≡ paste l.answers l.w (answer_bytes a) 8 = λ a q.
    c.put_answer.ensures ∙ ap (λ (b : List ℕ). paste l.answers l.w b 8) (c.answer_bytes.ensures ∙ ap answer_bytes q) in
    elim c.match-turn_of.branch [
      | in-Read w ↦
          let t = w.in-Read.ensures in
          rw (w.phases-is, w.live-is, w.cells-is, w.dev-is, w.earliest-is)
          (on _ t.0 _ _ _ _ _ _ _ (w.read_turn-reply.ensures d l.cells t.1)
          (λ sound fits. notes_none _ _ (readied_read _ _ _ sound fits _ (at_slot k _ t.1))) v.from refl (answered _ w.reply-is))
      | in-Write w ↦
          let t = w.in-Write.ensures in
          let x = w.write_turn-moved.ensures in
          rw (w.phases-is, w.live-is, w.cells-is, w.dev-is, w.earliest-is)
          (on _ t.0 _ _ _ _ _ _ _ (x.takes_turn t.1) (x.notes_turn t.1) (x.ready_from v.from) (ap length (sym w.phases-is) ∙ c.match-turn_of.auto.phases) (answered _ w.reply-is))
      | in-Hardware w ↦
          let t = w.in-Hardware.ensures in
          rw (w.phases-is, w.live-is, w.cells-is, w.dev-is, w.earliest-is)
          (on _ t.0 _ _ _ _ _ _ _ (w.hardware_turn-reply.ensures d l.dev l.cells t.1)
          (λ sound fits. notes_none _ _ (readied-set _ _ _ sound fits _ _ _ (at_slot k _ t.1))) v.from refl (answered _ w.reply-is))
      | in-Port w ↦
          let part = w.in-Port.ensures k refl in
          rw (w.phases-is, w.live-is, w.cells-is, w.dev-is, w.earliest-is)
          (on _ refl _ _ _ _ _ _ _ (w.port_turn-done.ensures k d (statuses_in l.phases) l.live refl part)
          (λ sound fits. notes_none _ _ (readied_port _ _ _ sound fits _ part)) v.from refl (answered _ w.reply-is))
      | in-Frs w ↦
          let t = w.in-Frs.ensures in
          rw (w.phases-is, w.live-is, w.cells-is, w.dev-is, w.earliest-is)
          (on _ t.0 _ _ _ _ _ _ _ (w.frs_turn-done.ensures k d (statuses_in l.phases) l.live t.1)
          (λ sound fits. notes_none _ _ (readied_port _ _ _ sound fits _ refl)) v.from refl (answered _ w.reply-is))
      | in-Clock w ↦
          let t = w.in-Clock.ensures in
          rw (w.phases-is, w.live-is, w.cells-is, w.dev-is, w.earliest-is)
          (on _ t.0 _ _ _ _ _ _ _ (w.clock_turn-done.ensures k d (statuses_in l.phases) l.live l.cells l.earliest v.from t.1)
          (λ sound fits. notes_none _ _ (readied_clock _ _ _ _ (bound_quiet l.earliest _ (statuses_in l.phases) v.from t.1))) v.from refl (answered _ w.reply-is))
      | in-Card w ↦
          let part = w.in-Card.ensures k refl in
          let x = w.card_turn-moved.ensures in
          rw (w.phases-is, w.live-is, w.cells-is, w.dev-is, w.earliest-is)
          (on _ refl _ _ _ _ _ _ _ (x.takes_turn part) (x.notes_turn part) x.ready_from (ap length (sym w.phases-is) ∙ c.match-turn_of.auto.phases) (answered _ w.reply-is))
    ]

-- what is left of the input
left : (input : List ℕ) (at : ℕ) → take (length input - at) (drop at input) ≡ drop at input
left input at = ap (λ (n : ℕ). take n (drop at input)) (sym (length-drop at input)) ∙ take-length (drop at input)

pub after_first-requires : goal.after_first-requires
after_first-requires c =
    let l = c.loop-found in
    let v = l.invariant.head in
    let bs = take (length c.args.input.now - l.at) (drop l.at c.args.input.now) in
    let carries : c.carry_on.result ≡ carries_on (opened l.dev) bs = c.carry_on.ensures ∙ ap (λ (p : Port). carries_on p bs) c.nothing_carried.ensures in
    let input_small : length c.args.input.now < 9223372036854775808 = search rules in
    let answers_small : length l.answers < 9223372036854775808 = search rules in (
      omega (arith, ap (λ (x : FedPort). x.consumed) carries, (end_few bs).0, input_small, length_trace v, v.inv.at_in),
      omega (arith, ap (λ (x : FedPort). x.written) carries, answers_small, v.inv.w_in, v.inv.long),
    )

pub returns : goal.returns
returns c =
    let a = c.args in
    let l = c.loop-found in
    let v = l.invariant in
    let lent = held_in (opened a.start) a.phases.now a.live.now a.cells.now in
    let bs = take (length a.input.now - l.at) (drop l.at a.input.now) in
    let carries : c.carry_on.result ≡ carries_on (opened l.dev) bs = c.carry_on.ensures ∙ ap (λ (p : Port). carries_on p bs) c.nothing_carried.ensures in
    let none : whole_size (length l.answers - l.w) (next (drop l.at a.input.now)) ≡ 0 = c.in_default.ensures in
    let room : whole_size (length a.answers.now - l.w) (next (drop l.at a.input.now)) ≡ 0 =
    ap (λ (n : ℕ). whole_size (n - l.w) (next (drop l.at a.input.now))) (sym v.head.inv.long) ∙ none in record {
      answers_after = rw c.after_first.ensures
          (◌∙◌ {A = Left Held}
          (ap (λ (x : FedPort). record { number = x.number; consumed = l.at + x.consumed; written = l.w + x.written; held = held x.port (statuses_in l.phases) l.live l.cells; answers = l.answers }) carries)
          (ended_all v.head refl none bs (left a.input.now l.at) lent refl refl c.requires.not_refused));
      notes_records = λ ws w j h. note_all _ _ _ _ _ _ _ _ _ _ _ (v.notes ws w j h) room;
    }
