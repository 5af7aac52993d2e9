-- `feed::running::run_joined` meets its contract: Carried has the two calls.
use Prim.Native.Nat.{ℕ, ◌+◌, ◌-◌, ◌≤◌}
use native.Mathlib.Omega.{arith}
use mathlib.Core.Path.{◌≡◌, sym, ap, ◌∙◌}
use mathlib.Core.List.{List, [], ◌++◌, append-nil}
use lib.ListN.{length, take, drop, replicate, length-append, length-drop}
use lib.Seq.{length-take-le, take-length, take_at, drop_at, drop-length}
use borrow.Author.Rules.{rules}
use Rattle.trace.specs.Format.{Bytes, longest}
use Rattle.trace.specs.Lent.{Left, refusal_or31}
use Rattle.bits.proofs.Bytes.{bytes_of}
use Rattle.readiness.specs.inner.Phases.{statuses_in}
use Rattle.demand3.specs.Held.{Held, held, opened, carried_of}
use Rattle.demand3.specs.Feeding.{bench, feeds}
use Rattle.set_up.specs.Lent.{held_in}
use Rattle.feed.specs.Left.{left_in_place}
use Rattle.feed.proofs.Accepting.{Accepted, accepted}
use Rattle.feed.proofs.Counts.{counts}
use Rattle.feed.proofs.NoRecord.{carried_bytes_lem}
use Rattle.feed.proofs.Carried.{Joins, first, room-first, bytes_first, few_first, there_first, carried_less, ran, eight_answers, between, between_accepted, opened_accepted, first_call, then_rest, no_rest}
use Rattle.feed.proofs.running.run_joined.Goals as goal

pub first_bytes-bytes-requires : goal.first_bytes-bytes-requires
first_bytes-bytes-requires c =
    let sixteen : length c.args.port.carried ≡ 16 = search rules in
    let carried : Bytes (carried_of c.args.port) = carried_bytes_lem c.args.port (λ i. search rules) in
    let relies : Accepted c.args.setup c.args.defaults.now (held_in c.args.port c.args.phases.now c.args.live.now c.args.cells.now) = accepted c.args.setup c.args.defaults.now _ c.requires.not_refused (search rules) (search rules) in
    let joins : (let a = c.args in Joins a.setup a.defaults.now a.port (statuses_in a.phases.now) a.live.now a.cells.now a.input.now a.answers.now a.size) =
    let s = c in
    let a = s.args in
    record {
      not_refused = s.requires.not_refused;
      accepted = relies;
      carried_bytes = carried;
      input_bytes = bytes_of a.input.now (λ i h. omega (arith, c.shared_slice_known-2-1.given i));
      long = length-take-le a.port.carried_len a.port.carried (omega (arith, (relies).short, sixteen));
      some = s.requires.completes.0;
      whole = s.requires.completes.1;
    } in
    let length_trace : (let a = c.args in length (carried_of a.port ++ a.input.now) ≡ a.port.carried_len + length a.input.now) = let a = c.args in omega (arith, length-append (carried_of a.port) a.input.now, (joins).long) in
    (omega arith, (omega (arith, (relies).short, sixteen), few_first (joins), omega (arith, there_first (joins), length_trace)))

pub overflow_sub-missing : goal.overflow_sub-missing
overflow_sub-missing c =
    let sixteen : length c.args.port.carried ≡ 16 = search rules in
    let carried : Bytes (carried_of c.args.port) = carried_bytes_lem c.args.port (λ i. search rules) in
    let relies : Accepted c.args.setup c.args.defaults.now (held_in c.args.port c.args.phases.now c.args.live.now c.args.cells.now) = accepted c.args.setup c.args.defaults.now _ c.requires.not_refused (search rules) (search rules) in
    let joins : (let a = c.args in Joins a.setup a.defaults.now a.port (statuses_in a.phases.now) a.live.now a.cells.now a.input.now a.answers.now a.size) =
    let s = c in
    let a = s.args in
    record {
      not_refused = s.requires.not_refused;
      accepted = relies;
      carried_bytes = carried;
      input_bytes = bytes_of a.input.now (λ i h. omega (arith, c.shared_slice_known-2-1.given i));
      long = length-take-le a.port.carried_len a.port.carried (omega (arith, (relies).short, sixteen));
      some = s.requires.completes.0;
      whole = s.requires.completes.1;
    } in
    carried_less (joins)

pub run_input-first-requires : goal.run_input-first-requires
run_input-first-requires c =
    let sixteen : length c.args.port.carried ≡ 16 = search rules in
    let carried : Bytes (carried_of c.args.port) = carried_bytes_lem c.args.port (λ i. search rules) in
    let relies : Accepted c.args.setup c.args.defaults.now (held_in c.args.port c.args.phases.now c.args.live.now c.args.cells.now) = accepted c.args.setup c.args.defaults.now _ c.requires.not_refused (search rules) (search rules) in
    let joins : (let a = c.args in Joins a.setup a.defaults.now a.port (statuses_in a.phases.now) a.live.now a.cells.now a.input.now a.answers.now a.size) =
    let s = c in
    let a = s.args in
    record {
      not_refused = s.requires.not_refused;
      accepted = relies;
      carried_bytes = carried;
      input_bytes = bytes_of a.input.now (λ i h. omega (arith, c.shared_slice_known-2-1.given i));
      long = length-take-le a.port.carried_len a.port.carried (omega (arith, (relies).short, sixteen));
      some = s.requires.completes.0;
      whole = s.requires.completes.1;
    } in
    record { not_refused = opened_accepted (joins) }

pub returns-then-input-missing : goal.returns-then-input-missing
returns-then-input-missing c =
    let sixteen : length c.args.port.carried ≡ 16 = search rules in
    let carried : Bytes (carried_of c.args.port) = carried_bytes_lem c.args.port (λ i. search rules) in
    let relies : Accepted c.args.setup c.args.defaults.now (held_in c.args.port c.args.phases.now c.args.live.now c.args.cells.now) = accepted c.args.setup c.args.defaults.now _ c.requires.not_refused (search rules) (search rules) in
    let joins : (let a = c.args in Joins a.setup a.defaults.now a.port (statuses_in a.phases.now) a.live.now a.cells.now a.input.now a.answers.now a.size) =
    let s = c in
    let a = s.args in
    record {
      not_refused = s.requires.not_refused;
      accepted = relies;
      carried_bytes = carried;
      input_bytes = bytes_of a.input.now (λ i h. omega (arith, c.shared_slice_known-2-1.given i));
      long = length-take-le a.port.carried_len a.port.carried (omega (arith, (relies).short, sixteen));
      some = s.requires.completes.0;
      whole = s.requires.completes.1;
    } in
    let given : Left Held = let x = c.run_input-first in left_in_place x.result x.new.phases x.new.live x.new.cells x.new.answers in
    let one : (let j = joins in ◌≡◌ {A = Left Held} (given) (record { number = 0; consumed = length (first j); written = 8; held = between j; answers = (ran j).answer })) =
    let b = c in
    let a = b.args in
    let j = joins in
    let room = take (8 - 0) a.answers.now in
    let t = take a.size (carried_of a.port ++ a.input.now) in
    let n : length t ≡ a.size - 0 = omega (arith, length-take-le a.size (carried_of a.port ++ a.input.now) (there_first j)) in
    c.run_input-first.ensures.answers_after
    ∙ ap (λ (l : List ℕ). feeds a.setup a.defaults.now (held_in (opened a.port.dev) a.phases.now a.live.now a.cells.now) l room)
    (ap (take (a.size - 0)) c.first_bytes-bytes.ensures ∙ take_at t (replicate (longest - length t) 0) (a.size - 0) n ∙ bytes_first j)
    ∙ first_call j room (length-take-le 8 a.answers.now (room-first j)) in
    let f = c in
    let a = f.args in
    ◌∙◌ {A = Left Held}
    (λ i. record { number = 0; consumed = a.size - a.port.carried_len; written = 8; held = (one i).held; answers = (one i).answers ++ drop 8 a.answers.now })
    (no_rest (joins) c.if-input-missing.true)

pub slice_bounds-run_input-count-3 : goal.slice_bounds-run_input-count-3
slice_bounds-run_input-count-3 c =
    let sixteen : length c.args.port.carried ≡ 16 = search rules in
    let carried : Bytes (carried_of c.args.port) = carried_bytes_lem c.args.port (λ i. search rules) in
    let relies : Accepted c.args.setup c.args.defaults.now (held_in c.args.port c.args.phases.now c.args.live.now c.args.cells.now) = accepted c.args.setup c.args.defaults.now _ c.requires.not_refused (search rules) (search rules) in
    let joins : (let a = c.args in Joins a.setup a.defaults.now a.port (statuses_in a.phases.now) a.live.now a.cells.now a.input.now a.answers.now a.size) =
    let s = c in
    let a = s.args in
    record {
      not_refused = s.requires.not_refused;
      accepted = relies;
      carried_bytes = carried;
      input_bytes = bytes_of a.input.now (λ i h. omega (arith, c.shared_slice_known-2-1.given i));
      long = length-take-le a.port.carried_len a.port.carried (omega (arith, (relies).short, sixteen));
      some = s.requires.completes.0;
      whole = s.requires.completes.1;
    } in
    let length_trace : (let a = c.args in length (carried_of a.port ++ a.input.now) ≡ a.port.carried_len + length a.input.now) = let a = c.args in omega (arith, length-append (carried_of a.port) a.input.now, (joins).long) in
    let b = c in omega (arith, there_first (joins), length_trace)

pub slice_bounds-run_input-count-4 : goal.slice_bounds-run_input-count-4
slice_bounds-run_input-count-4 c =
    let sixteen : length c.args.port.carried ≡ 16 = search rules in
    let carried : Bytes (carried_of c.args.port) = carried_bytes_lem c.args.port (λ i. search rules) in
    let relies : Accepted c.args.setup c.args.defaults.now (held_in c.args.port c.args.phases.now c.args.live.now c.args.cells.now) = accepted c.args.setup c.args.defaults.now _ c.requires.not_refused (search rules) (search rules) in
    let joins : (let a = c.args in Joins a.setup a.defaults.now a.port (statuses_in a.phases.now) a.live.now a.cells.now a.input.now a.answers.now a.size) =
    let s = c in
    let a = s.args in
    record {
      not_refused = s.requires.not_refused;
      accepted = relies;
      carried_bytes = carried;
      input_bytes = bytes_of a.input.now (λ i h. omega (arith, c.shared_slice_known-2-1.given i));
      long = length-take-le a.port.carried_len a.port.carried (omega (arith, (relies).short, sixteen));
      some = s.requires.completes.0;
      whole = s.requires.completes.1;
    } in
    let given : Left Held = let x = c.run_input-first in left_in_place x.result x.new.phases x.new.live x.new.cells x.new.answers in
    let one : (let j = joins in ◌≡◌ {A = Left Held} (given) (record { number = 0; consumed = length (first j); written = 8; held = between j; answers = (ran j).answer })) =
    let b = c in
    let a = b.args in
    let j = joins in
    let room = take (8 - 0) a.answers.now in
    let t = take a.size (carried_of a.port ++ a.input.now) in
    let n : length t ≡ a.size - 0 = omega (arith, length-take-le a.size (carried_of a.port ++ a.input.now) (there_first j)) in
    c.run_input-first.ensures.answers_after
    ∙ ap (λ (l : List ℕ). feeds a.setup a.defaults.now (held_in (opened a.port.dev) a.phases.now a.live.now a.cells.now) l room)
    (ap (take (a.size - 0)) c.first_bytes-bytes.ensures ∙ take_at t (replicate (longest - length t) 0) (a.size - 0) n ∙ bytes_first j)
    ∙ first_call j room (length-take-le 8 a.answers.now (room-first j)) in
    let eight : length c.run_input-first.new.answers ≡ 8 = ap (λ (l : Left Held). length l.answers) (one) ∙ eight_answers (joins) in
    let slice : List ℕ = c.run_input-first.new.answers ++ drop 8 c.args.answers.now in
    let length_slice : length (slice) ≡ length c.args.answers.now =
    let a = c.args in
    omega (arith, length-append c.run_input-first.new.answers (drop 8 a.answers.now), eight, length-drop 8 a.answers.now, room-first (joins)) in
    let room-left : 8 ≤ length (slice) = omega (arith, length_slice, room-first (joins)) in
    room-left

pub run_input-rest-requires : goal.run_input-rest-requires
run_input-rest-requires c =
    let sixteen : length c.args.port.carried ≡ 16 = search rules in
    let carried : Bytes (carried_of c.args.port) = carried_bytes_lem c.args.port (λ i. search rules) in
    let relies : Accepted c.args.setup c.args.defaults.now (held_in c.args.port c.args.phases.now c.args.live.now c.args.cells.now) = accepted c.args.setup c.args.defaults.now _ c.requires.not_refused (search rules) (search rules) in
    let joins : (let a = c.args in Joins a.setup a.defaults.now a.port (statuses_in a.phases.now) a.live.now a.cells.now a.input.now a.answers.now a.size) =
    let s = c in
    let a = s.args in
    record {
      not_refused = s.requires.not_refused;
      accepted = relies;
      carried_bytes = carried;
      input_bytes = bytes_of a.input.now (λ i h. omega (arith, c.shared_slice_known-2-1.given i));
      long = length-take-le a.port.carried_len a.port.carried (omega (arith, (relies).short, sixteen));
      some = s.requires.completes.0;
      whole = s.requires.completes.1;
    } in
    let given : Left Held = let x = c.run_input-first in left_in_place x.result x.new.phases x.new.live x.new.cells x.new.answers in
    let one : (let j = joins in ◌≡◌ {A = Left Held} (given) (record { number = 0; consumed = length (first j); written = 8; held = between j; answers = (ran j).answer })) =
    let b = c in
    let a = b.args in
    let j = joins in
    let room = take (8 - 0) a.answers.now in
    let t = take a.size (carried_of a.port ++ a.input.now) in
    let n : length t ≡ a.size - 0 = omega (arith, length-take-le a.size (carried_of a.port ++ a.input.now) (there_first j)) in
    c.run_input-first.ensures.answers_after
    ∙ ap (λ (l : List ℕ). feeds a.setup a.defaults.now (held_in (opened a.port.dev) a.phases.now a.live.now a.cells.now) l room)
    (ap (take (a.size - 0)) c.first_bytes-bytes.ensures ∙ take_at t (replicate (longest - length t) 0) (a.size - 0) n ∙ bytes_first j)
    ∙ first_call j room (length-take-le 8 a.answers.now (room-first j)) in
    let lent-between : (let x = c.run_input-first in held_in (opened x.result.port.dev) x.new.phases x.new.live x.new.cells ≡ between (joins)) = ap (λ (l : Left Held). held (opened l.held.port.dev) l.held.statuses l.held.live l.held.cells) (one) in
    let f = c in
    let a = f.args in
    record { not_refused = ap (refusal_or31 (bench a.setup a.defaults.now)) (lent-between) ∙ between_accepted (joins) }

pub after_first-requires : goal.after_first-requires
after_first-requires c =
    let sixteen : length c.args.port.carried ≡ 16 = search rules in
    let carried : Bytes (carried_of c.args.port) = carried_bytes_lem c.args.port (λ i. search rules) in
    let relies : Accepted c.args.setup c.args.defaults.now (held_in c.args.port c.args.phases.now c.args.live.now c.args.cells.now) = accepted c.args.setup c.args.defaults.now _ c.requires.not_refused (search rules) (search rules) in
    let joins : (let a = c.args in Joins a.setup a.defaults.now a.port (statuses_in a.phases.now) a.live.now a.cells.now a.input.now a.answers.now a.size) =
    let s = c in
    let a = s.args in
    record {
      not_refused = s.requires.not_refused;
      accepted = relies;
      carried_bytes = carried;
      input_bytes = bytes_of a.input.now (λ i h. omega (arith, c.shared_slice_known-2-1.given i));
      long = length-take-le a.port.carried_len a.port.carried (omega (arith, (relies).short, sixteen));
      some = s.requires.completes.0;
      whole = s.requires.completes.1;
    } in
    let length_trace : (let a = c.args in length (carried_of a.port ++ a.input.now) ≡ a.port.carried_len + length a.input.now) = let a = c.args in omega (arith, length-append (carried_of a.port) a.input.now, (joins).long) in
    let given : Left Held = let x = c.run_input-first in left_in_place x.result x.new.phases x.new.live x.new.cells x.new.answers in
    let one : (let j = joins in ◌≡◌ {A = Left Held} (given) (record { number = 0; consumed = length (first j); written = 8; held = between j; answers = (ran j).answer })) =
    let b = c in
    let a = b.args in
    let j = joins in
    let room = take (8 - 0) a.answers.now in
    let t = take a.size (carried_of a.port ++ a.input.now) in
    let n : length t ≡ a.size - 0 = omega (arith, length-take-le a.size (carried_of a.port ++ a.input.now) (there_first j)) in
    c.run_input-first.ensures.answers_after
    ∙ ap (λ (l : List ℕ). feeds a.setup a.defaults.now (held_in (opened a.port.dev) a.phases.now a.live.now a.cells.now) l room)
    (ap (take (a.size - 0)) c.first_bytes-bytes.ensures ∙ take_at t (replicate (longest - length t) 0) (a.size - 0) n ∙ bytes_first j)
    ∙ first_call j room (length-take-le 8 a.answers.now (room-first j)) in
    let lent-between : (let x = c.run_input-first in held_in (opened x.result.port.dev) x.new.phases x.new.live x.new.cells ≡ between (joins)) = ap (λ (l : Left Held). held (opened l.held.port.dev) l.held.statuses l.held.live l.held.cells) (one) in
    let eight : length c.run_input-first.new.answers ≡ 8 = ap (λ (l : Left Held). length l.answers) (one) ∙ eight_answers (joins) in
    let rest : Left Held = let x = c.run_input-rest in left_in_place x.result x.new.phases x.new.live x.new.cells x.new.answers in
    let two : (let j = joins in let a = c.args in rest ≡ feeds a.setup a.defaults.now (between j) (drop (a.size - a.port.carried_len) a.input.now) (drop 8 a.answers.now)) =
    let f = c in
    let a = f.args in
    let m = a.size - a.port.carried_len in
    let y = f.run_input-first.new.answers in
    let i : take (length a.input.now - m) (drop m a.input.now) ≡ drop m a.input.now =
    ap (λ (n : ℕ). take n (drop m a.input.now)) (sym (length-drop m a.input.now)) ∙ take-length (drop m a.input.now) in
    let d : drop 8 (y ++ drop 8 a.answers.now) ≡ drop 8 a.answers.now = drop_at y (drop 8 a.answers.now) 8 (eight) in
    let r : take (length (y ++ drop 8 a.answers.now) - 8) (drop 8 (y ++ drop 8 a.answers.now)) ≡ drop 8 a.answers.now =
    ap (λ (n : ℕ). take n (drop 8 (y ++ drop 8 a.answers.now))) (sym (length-drop 8 (y ++ drop 8 a.answers.now))) ∙ take-length (drop 8 (y ++ drop 8 a.answers.now)) ∙ d in
    c.run_input-rest.ensures.answers_after
    ∙ λ k. feeds a.setup a.defaults.now (lent-between k) (i k) (r k) in
    let g = c in
    let f = g in
    let a = f.args in
    let m = a.size - a.port.carried_len in
    let n = counts a.setup a.defaults.now (between (joins)) (drop m a.input.now) (drop 8 a.answers.now) in
    let memory = f.well_formed.1.1.1.1.1.1.1.1 in (
      omega (arith, ap (λ (l : Left Held). l.consumed) (two), n.consumed, length-drop m a.input.now, memory.0.1, there_first (joins), length_trace),
      omega (arith, ap (λ (l : Left Held). l.written) (two), n.written, length-drop 8 a.answers.now, memory.1.0.1),
    )

pub returns : goal.returns
returns c =
    let sixteen : length c.args.port.carried ≡ 16 = search rules in
    let carried : Bytes (carried_of c.args.port) = carried_bytes_lem c.args.port (λ i. search rules) in
    let relies : Accepted c.args.setup c.args.defaults.now (held_in c.args.port c.args.phases.now c.args.live.now c.args.cells.now) = accepted c.args.setup c.args.defaults.now _ c.requires.not_refused (search rules) (search rules) in
    let joins : (let a = c.args in Joins a.setup a.defaults.now a.port (statuses_in a.phases.now) a.live.now a.cells.now a.input.now a.answers.now a.size) =
    let s = c in
    let a = s.args in
    record {
      not_refused = s.requires.not_refused;
      accepted = relies;
      carried_bytes = carried;
      input_bytes = bytes_of a.input.now (λ i h. omega (arith, c.shared_slice_known-2-1.given i));
      long = length-take-le a.port.carried_len a.port.carried (omega (arith, (relies).short, sixteen));
      some = s.requires.completes.0;
      whole = s.requires.completes.1;
    } in
    let given : Left Held = let x = c.run_input-first in left_in_place x.result x.new.phases x.new.live x.new.cells x.new.answers in
    let one : (let j = joins in ◌≡◌ {A = Left Held} (given) (record { number = 0; consumed = length (first j); written = 8; held = between j; answers = (ran j).answer })) =
    let b = c in
    let a = b.args in
    let j = joins in
    let room = take (8 - 0) a.answers.now in
    let t = take a.size (carried_of a.port ++ a.input.now) in
    let n : length t ≡ a.size - 0 = omega (arith, length-take-le a.size (carried_of a.port ++ a.input.now) (there_first j)) in
    c.run_input-first.ensures.answers_after
    ∙ ap (λ (l : List ℕ). feeds a.setup a.defaults.now (held_in (opened a.port.dev) a.phases.now a.live.now a.cells.now) l room)
    (ap (take (a.size - 0)) c.first_bytes-bytes.ensures ∙ take_at t (replicate (longest - length t) 0) (a.size - 0) n ∙ bytes_first j)
    ∙ first_call j room (length-take-le 8 a.answers.now (room-first j)) in
    let lent-between : (let x = c.run_input-first in held_in (opened x.result.port.dev) x.new.phases x.new.live x.new.cells ≡ between (joins)) = ap (λ (l : Left Held). held (opened l.held.port.dev) l.held.statuses l.held.live l.held.cells) (one) in
    let eight : length c.run_input-first.new.answers ≡ 8 = ap (λ (l : Left Held). length l.answers) (one) ∙ eight_answers (joins) in
    let slice : List ℕ = c.run_input-first.new.answers ++ drop 8 c.args.answers.now in
    let rest : Left Held = let x = c.run_input-rest in left_in_place x.result x.new.phases x.new.live x.new.cells x.new.answers in
    let two : (let j = joins in let a = c.args in rest ≡ feeds a.setup a.defaults.now (between j) (drop (a.size - a.port.carried_len) a.input.now) (drop 8 a.answers.now)) =
    let f = c in
    let a = f.args in
    let m = a.size - a.port.carried_len in
    let y = f.run_input-first.new.answers in
    let i : take (length a.input.now - m) (drop m a.input.now) ≡ drop m a.input.now =
    ap (λ (n : ℕ). take n (drop m a.input.now)) (sym (length-drop m a.input.now)) ∙ take-length (drop m a.input.now) in
    let d : drop 8 (y ++ drop 8 a.answers.now) ≡ drop 8 a.answers.now = drop_at y (drop 8 a.answers.now) 8 (eight) in
    let r : take (length (y ++ drop 8 a.answers.now) - 8) (drop 8 (y ++ drop 8 a.answers.now)) ≡ drop 8 a.answers.now =
    ap (λ (n : ℕ). take n (drop 8 (y ++ drop 8 a.answers.now))) (sym (length-drop 8 (y ++ drop 8 a.answers.now))) ∙ take-length (drop 8 (y ++ drop 8 a.answers.now)) ∙ d in
    c.run_input-rest.ensures.answers_after
    ∙ λ k. feeds a.setup a.defaults.now (lent-between k) (i k) (r k) in
    let g = c in
    let f = g in
    let a = f.args in
    let j = joins in
    let y = f.run_input-first.new.answers in
    let l = drop 8 (slice) in
    let w = (rest).answers in
    let front : take 8 (slice) ≡ (ran j).answer = take_at y (drop 8 a.answers.now) 8 (eight) ∙ ap (λ (x : Left Held). x.answers) (one) in
    let none : drop (length (slice) - 8) l ≡ [] = ap (λ (n : ℕ). drop n l) (sym (length-drop 8 (slice))) ∙ drop-length l in
    let final : take 8 (slice) ++ (w ++ drop (length (slice) - 8) l) ≡ (ran j).answer ++ w = (λ i. front i ++ (w ++ none i)) ∙ ap (λ (x : List ℕ). (ran j).answer ++ x) (append-nil w) in
    rw c.after_first.ensures
    (◌∙◌ {A = Left Held}
    (λ i. record { number = (rest).number; consumed = a.size - a.port.carried_len + (rest).consumed; written = 8 + (rest).written; held = (rest).held; answers = final i })
    (then_rest j (rest) (two)))

pub slice_bounds-run_input-end : goal.slice_bounds-run_input-end
slice_bounds-run_input-end c =
    let sixteen : length c.args.port.carried ≡ 16 = search rules in
    let carried : Bytes (carried_of c.args.port) = carried_bytes_lem c.args.port (λ i. search rules) in
    let relies : Accepted c.args.setup c.args.defaults.now (held_in c.args.port c.args.phases.now c.args.live.now c.args.cells.now) = accepted c.args.setup c.args.defaults.now _ c.requires.not_refused (search rules) (search rules) in
    let joins : (let a = c.args in Joins a.setup a.defaults.now a.port (statuses_in a.phases.now) a.live.now a.cells.now a.input.now a.answers.now a.size) =
    let s = c in
    let a = s.args in
    record {
      not_refused = s.requires.not_refused;
      accepted = relies;
      carried_bytes = carried;
      input_bytes = bytes_of a.input.now (λ i h. omega (arith, c.shared_slice_known-2-1.given i));
      long = length-take-le a.port.carried_len a.port.carried (omega (arith, (relies).short, sixteen));
      some = s.requires.completes.0;
      whole = s.requires.completes.1;
    } in
    omega (arith, few_first (joins))

pub slice_bounds-run_input-start-3 : goal.slice_bounds-run_input-start-3
slice_bounds-run_input-start-3 c =
    let sixteen : length c.args.port.carried ≡ 16 = search rules in
    let carried : Bytes (carried_of c.args.port) = carried_bytes_lem c.args.port (λ i. search rules) in
    let relies : Accepted c.args.setup c.args.defaults.now (held_in c.args.port c.args.phases.now c.args.live.now c.args.cells.now) = accepted c.args.setup c.args.defaults.now _ c.requires.not_refused (search rules) (search rules) in
    let joins : (let a = c.args in Joins a.setup a.defaults.now a.port (statuses_in a.phases.now) a.live.now a.cells.now a.input.now a.answers.now a.size) =
    let s = c in
    let a = s.args in
    record {
      not_refused = s.requires.not_refused;
      accepted = relies;
      carried_bytes = carried;
      input_bytes = bytes_of a.input.now (λ i h. omega (arith, c.shared_slice_known-2-1.given i));
      long = length-take-le a.port.carried_len a.port.carried (omega (arith, (relies).short, sixteen));
      some = s.requires.completes.0;
      whole = s.requires.completes.1;
    } in
    let length_trace : (let a = c.args in length (carried_of a.port ++ a.input.now) ≡ a.port.carried_len + length a.input.now) = let a = c.args in omega (arith, length-append (carried_of a.port) a.input.now, (joins).long) in
    let b = c in omega (arith, there_first (joins), length_trace)
