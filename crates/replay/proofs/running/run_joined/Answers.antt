-- `replay::running::run_joined` meets its contract: feed's Carried has the record that runs first, and Joining what comes of it and the rest.
use Rattle.times.specs.declared.Nanos.{Nanos}
use Rattle.std.specs.Prelude.{Option}
use Prim.Native.Nat.{ℕ, ◌+◌, ◌-◌, ◌≤◌}
use native.Mathlib.Omega.{arith}
use mathlib.Core.Path.{◌≡◌, sym, ap, ◌∙◌, subst}
use mathlib.Core.List.{List, [], ◌∷◌, ◌++◌, append-nil}
use lib.ListN.{length, take, drop, replicate, length-append, length-drop}
use lib.Seq.{length-take-le, take-length, take_at, drop_at, drop-length}
use borrow.Author.Rules.{rules}
use Rattle.trace.specs.Format.{Bytes, longest, next, complete}
use Rattle.trace.proofs.Loop.{next_itself}
use Rattle.trace.specs.Bench.{Ran}
use Rattle.trace.specs.Lent.{Left, refusal_or31}
use Rattle.bits.proofs.Bytes.{bytes_of, bytes_take, bytes_append}
use Rattle.readiness.specs.inner.Phases.{statuses_in, moments_in}
use Rattle.readiness.proofs.PhaseNumbers.{moments_length}
use Rattle.records.specs.State.{State}
use Rattle.execute.specs.inner.Lent.{state_in}
use Rattle.demand3.specs.Held.{Held, held, opened, state_of, carried_of}
use Rattle.demand3.specs.Feeding.{bench, feeds}
use Rattle.set_up.specs.Lent.{held_in}
use Rattle.capture.specs.Lent.{progress_in}
use Rattle.feed.specs.Left as feed
use Rattle.feed.proofs.Accepting.{Accepted, accepted}
use Rattle.feed.proofs.NoRecord.{carried_bytes_lem}
use Rattle.feed.proofs.Carried.{Joins, got, first, room-first, bytes_first, few_first, there_first, carried_less, eight_answers, between, between_accepted, opened_accepted, first_call}
use Rattle.feed.proofs.Carried as carried
use Rattle.replay_rules.specs.KeepingMoments.{HeldNoting}
use Rattle.replay.specs.Left.{left_noting}
use Rattle.replay.specs.inner.Noted.{Noted, noting_device, noted_with, noted_in}
use Rattle.replay.proofs.Feeding.{one_noted}
use Rattle.replay.specs.inner.Calls.{comes_to}
use Rattle.replay.proofs.NextStep.{take_few}
use Rattle.replay.proofs.Joining.{joined}
use Rattle.replay.proofs.running.run_joined.Goals as goal

-- ---- the needs
pub overflow_sub-missing : goal.overflow_sub-missing
overflow_sub-missing c =
    let sixteen : length c.args.port.carried ≡ 16 = search rules in
    let carried_are : Bytes (carried_of c.args.port) = carried_bytes_lem c.args.port (λ i. search rules) in
    let relies : Accepted c.args.setup c.args.defaults.now (held_in c.args.port c.args.phases.now c.args.live.now c.args.cells.now) = accepted c.args.setup c.args.defaults.now _ c.requires.not_refused (search rules) (search rules) in
    let long : length (carried_of c.args.port) ≡ c.args.port.carried_len = length-take-le c.args.port.carried_len c.args.port.carried (omega (arith, (relies).short, sixteen)) in
    let joins : (let a = c.args in Joins a.setup a.defaults.now a.port (statuses_in a.phases.now) a.live.now a.cells.now a.input.now a.answers.now a.size) =
    let s = c in
    record {
      not_refused = s.requires.not_refused;
      accepted = relies;
      carried_bytes = carried_are;
      input_bytes = bytes_of s.args.input.now (λ i h. omega (arith, c.shared_slice_known-2-1.given i));
      long = long;
      some = s.requires.completes.0;
      whole = s.requires.completes.1;
    } in
    carried_less (joins)

pub first_bytes-bytes-requires : goal.first_bytes-bytes-requires
first_bytes-bytes-requires c =
    let sixteen : length c.args.port.carried ≡ 16 = search rules in
    let carried_are : Bytes (carried_of c.args.port) = carried_bytes_lem c.args.port (λ i. search rules) in
    let relies : Accepted c.args.setup c.args.defaults.now (held_in c.args.port c.args.phases.now c.args.live.now c.args.cells.now) = accepted c.args.setup c.args.defaults.now _ c.requires.not_refused (search rules) (search rules) in
    let long : length (carried_of c.args.port) ≡ c.args.port.carried_len = length-take-le c.args.port.carried_len c.args.port.carried (omega (arith, (relies).short, sixteen)) in
    let joins : (let a = c.args in Joins a.setup a.defaults.now a.port (statuses_in a.phases.now) a.live.now a.cells.now a.input.now a.answers.now a.size) =
    let s = c in
    record {
      not_refused = s.requires.not_refused;
      accepted = relies;
      carried_bytes = carried_are;
      input_bytes = bytes_of s.args.input.now (λ i h. omega (arith, c.shared_slice_known-2-1.given i));
      long = long;
      some = s.requires.completes.0;
      whole = s.requires.completes.1;
    } in
    let there : (let a = c.args in a.size ≤ a.port.carried_len + length a.input.now) =
    let a = c.args in
    omega (arith, there_first (joins), length-append (carried_of a.port) a.input.now, (joins).long) in
    let b = c in let s = c in (omega arith, (omega (arith, (relies).short, sixteen), few_first (joins), there))

pub slice_bounds-run_input-end : goal.slice_bounds-run_input-end
slice_bounds-run_input-end c =
    let sixteen : length c.args.port.carried ≡ 16 = search rules in
    let carried_are : Bytes (carried_of c.args.port) = carried_bytes_lem c.args.port (λ i. search rules) in
    let relies : Accepted c.args.setup c.args.defaults.now (held_in c.args.port c.args.phases.now c.args.live.now c.args.cells.now) = accepted c.args.setup c.args.defaults.now _ c.requires.not_refused (search rules) (search rules) in
    let long : length (carried_of c.args.port) ≡ c.args.port.carried_len = length-take-le c.args.port.carried_len c.args.port.carried (omega (arith, (relies).short, sixteen)) in
    let joins : (let a = c.args in Joins a.setup a.defaults.now a.port (statuses_in a.phases.now) a.live.now a.cells.now a.input.now a.answers.now a.size) =
    let s = c in
    record {
      not_refused = s.requires.not_refused;
      accepted = relies;
      carried_bytes = carried_are;
      input_bytes = bytes_of s.args.input.now (λ i h. omega (arith, c.shared_slice_known-2-1.given i));
      long = long;
      some = s.requires.completes.0;
      whole = s.requires.completes.1;
    } in
    omega (arith, few_first (joins))

pub slice_bounds-run_input-end-2 : goal.slice_bounds-run_input-end-2
slice_bounds-run_input-end-2 c =
    let sixteen : length c.args.port.carried ≡ 16 = search rules in
    let carried_are : Bytes (carried_of c.args.port) = carried_bytes_lem c.args.port (λ i. search rules) in
    let relies : Accepted c.args.setup c.args.defaults.now (held_in c.args.port c.args.phases.now c.args.live.now c.args.cells.now) = accepted c.args.setup c.args.defaults.now _ c.requires.not_refused (search rules) (search rules) in
    let long : length (carried_of c.args.port) ≡ c.args.port.carried_len = length-take-le c.args.port.carried_len c.args.port.carried (omega (arith, (relies).short, sixteen)) in
    let joins : (let a = c.args in Joins a.setup a.defaults.now a.port (statuses_in a.phases.now) a.live.now a.cells.now a.input.now a.answers.now a.size) =
    let s = c in
    record {
      not_refused = s.requires.not_refused;
      accepted = relies;
      carried_bytes = carried_are;
      input_bytes = bytes_of s.args.input.now (λ i h. omega (arith, c.shared_slice_known-2-1.given i));
      long = long;
      some = s.requires.completes.0;
      whole = s.requires.completes.1;
    } in
    omega (arith, room-first (joins))

pub run_input-first-requires : goal.run_input-first-requires
run_input-first-requires c =
    let sixteen : length c.args.port.carried ≡ 16 = search rules in
    let carried_are : Bytes (carried_of c.args.port) = carried_bytes_lem c.args.port (λ i. search rules) in
    let relies : Accepted c.args.setup c.args.defaults.now (held_in c.args.port c.args.phases.now c.args.live.now c.args.cells.now) = accepted c.args.setup c.args.defaults.now _ c.requires.not_refused (search rules) (search rules) in
    let long : length (carried_of c.args.port) ≡ c.args.port.carried_len = length-take-le c.args.port.carried_len c.args.port.carried (omega (arith, (relies).short, sixteen)) in
    let joins : (let a = c.args in Joins a.setup a.defaults.now a.port (statuses_in a.phases.now) a.live.now a.cells.now a.input.now a.answers.now a.size) =
    let s = c in
    record {
      not_refused = s.requires.not_refused;
      accepted = relies;
      carried_bytes = carried_are;
      input_bytes = bytes_of s.args.input.now (λ i h. omega (arith, c.shared_slice_known-2-1.given i));
      long = long;
      some = s.requires.completes.0;
      whole = s.requires.completes.1;
    } in
    record { not_refused = opened_accepted (joins) }

pub slice_bounds-run_entries-count : goal.slice_bounds-run_entries-count
slice_bounds-run_entries-count c =
    let sixteen : length c.args.port.carried ≡ 16 = search rules in
    let carried_are : Bytes (carried_of c.args.port) = carried_bytes_lem c.args.port (λ i. search rules) in
    let relies : Accepted c.args.setup c.args.defaults.now (held_in c.args.port c.args.phases.now c.args.live.now c.args.cells.now) = accepted c.args.setup c.args.defaults.now _ c.requires.not_refused (search rules) (search rules) in
    let long : length (carried_of c.args.port) ≡ c.args.port.carried_len = length-take-le c.args.port.carried_len c.args.port.carried (omega (arith, (relies).short, sixteen)) in
    let joins : (let a = c.args in Joins a.setup a.defaults.now a.port (statuses_in a.phases.now) a.live.now a.cells.now a.input.now a.answers.now a.size) =
    let s = c in
    record {
      not_refused = s.requires.not_refused;
      accepted = relies;
      carried_bytes = carried_are;
      input_bytes = bytes_of s.args.input.now (λ i h. omega (arith, c.shared_slice_known-2-1.given i));
      long = long;
      some = s.requires.completes.0;
      whole = s.requires.completes.1;
    } in
    let there : (let a = c.args in a.size ≤ a.port.carried_len + length a.input.now) =
    let a = c.args in
    omega (arith, there_first (joins), length-append (carried_of a.port) a.input.now, (joins).long) in
    let b = c in omega (arith, there)

pub slice_bounds-run_entries-start : goal.slice_bounds-run_entries-start
slice_bounds-run_entries-start c =
    let sixteen : length c.args.port.carried ≡ 16 = search rules in
    let carried_are : Bytes (carried_of c.args.port) = carried_bytes_lem c.args.port (λ i. search rules) in
    let relies : Accepted c.args.setup c.args.defaults.now (held_in c.args.port c.args.phases.now c.args.live.now c.args.cells.now) = accepted c.args.setup c.args.defaults.now _ c.requires.not_refused (search rules) (search rules) in
    let long : length (carried_of c.args.port) ≡ c.args.port.carried_len = length-take-le c.args.port.carried_len c.args.port.carried (omega (arith, (relies).short, sixteen)) in
    let joins : (let a = c.args in Joins a.setup a.defaults.now a.port (statuses_in a.phases.now) a.live.now a.cells.now a.input.now a.answers.now a.size) =
    let s = c in
    record {
      not_refused = s.requires.not_refused;
      accepted = relies;
      carried_bytes = carried_are;
      input_bytes = bytes_of s.args.input.now (λ i h. omega (arith, c.shared_slice_known-2-1.given i));
      long = long;
      some = s.requires.completes.0;
      whole = s.requires.completes.1;
    } in
    let there : (let a = c.args in a.size ≤ a.port.carried_len + length a.input.now) =
    let a = c.args in
    omega (arith, there_first (joins), length-append (carried_of a.port) a.input.now, (joins).long) in
    let b = c in omega (arith, there)

pub slice_bounds-run_entries-count-2 : goal.slice_bounds-run_entries-count-2
slice_bounds-run_entries-count-2 c =
    let sixteen : length c.args.port.carried ≡ 16 = search rules in
    let carried_are : Bytes (carried_of c.args.port) = carried_bytes_lem c.args.port (λ i. search rules) in
    let relies : Accepted c.args.setup c.args.defaults.now (held_in c.args.port c.args.phases.now c.args.live.now c.args.cells.now) = accepted c.args.setup c.args.defaults.now _ c.requires.not_refused (search rules) (search rules) in
    let long : length (carried_of c.args.port) ≡ c.args.port.carried_len = length-take-le c.args.port.carried_len c.args.port.carried (omega (arith, (relies).short, sixteen)) in
    let joins : (let a = c.args in Joins a.setup a.defaults.now a.port (statuses_in a.phases.now) a.live.now a.cells.now a.input.now a.answers.now a.size) =
    let s = c in
    record {
      not_refused = s.requires.not_refused;
      accepted = relies;
      carried_bytes = carried_are;
      input_bytes = bytes_of s.args.input.now (λ i h. omega (arith, c.shared_slice_known-2-1.given i));
      long = long;
      some = s.requires.completes.0;
      whole = s.requires.completes.1;
    } in
    let given : Left Held = let x = c.run_input-first in feed.left_in_place x.result x.new.phases x.new.live x.new.cells x.new.answers in
    let ran : Ran State = carried.ran (joins) in
    let bytes_are : take (c.args.size - 0) c.first_bytes-bytes.result ≡ first (joins) =
    let a = c.args in
    let j = joins in
    let t = take a.size (carried_of a.port ++ a.input.now) in
    let n : length t ≡ a.size - 0 = omega (arith, length-take-le a.size (carried_of a.port ++ a.input.now) (there_first j)) in
    ap (take (a.size - 0)) c.first_bytes-bytes.ensures ∙ take_at t (replicate (longest - length t) 0) (a.size - 0) n ∙ bytes_first j in
    let one : (let j = joins in ◌≡◌ {A = Left Held} (given) (record { number = 0; consumed = length (first j); written = 8; held = between j; answers = (ran).answer })) =
    let b = c in
    let a = c.args in
    let j = joins in
    let room = take (8 - 0) a.answers.now in
    c.run_input-first.ensures.answers_after
    ∙ ap (λ (l : List ℕ). feeds a.setup a.defaults.now (held_in (opened a.port.dev) a.phases.now a.live.now a.cells.now) l room)
    (bytes_are)
    ∙ first_call j room (length-take-le 8 a.answers.now (room-first j)) in
    let eight : length (given).answers ≡ 8 = ap (λ (l : Left Held). length l.answers) (one) ∙ eight_answers (joins) in
    let slice : List ℕ = (given).answers ++ drop 8 c.args.answers.now in
    let length_slice : length (slice) ≡ length c.args.answers.now =
    let a = c.args in
    omega (arith, length-append (given).answers (drop 8 a.answers.now), eight, length-drop 8 a.answers.now, room-first (joins)) in
    let room-left : 8 ≤ length (slice) = omega (arith, length_slice, room-first (joins)) in
    room-left

pub slice_bounds-run_entries-start-2 : goal.slice_bounds-run_entries-start-2
slice_bounds-run_entries-start-2 c =
    let sixteen : length c.args.port.carried ≡ 16 = search rules in
    let carried_are : Bytes (carried_of c.args.port) = carried_bytes_lem c.args.port (λ i. search rules) in
    let relies : Accepted c.args.setup c.args.defaults.now (held_in c.args.port c.args.phases.now c.args.live.now c.args.cells.now) = accepted c.args.setup c.args.defaults.now _ c.requires.not_refused (search rules) (search rules) in
    let long : length (carried_of c.args.port) ≡ c.args.port.carried_len = length-take-le c.args.port.carried_len c.args.port.carried (omega (arith, (relies).short, sixteen)) in
    let joins : (let a = c.args in Joins a.setup a.defaults.now a.port (statuses_in a.phases.now) a.live.now a.cells.now a.input.now a.answers.now a.size) =
    let s = c in
    record {
      not_refused = s.requires.not_refused;
      accepted = relies;
      carried_bytes = carried_are;
      input_bytes = bytes_of s.args.input.now (λ i h. omega (arith, c.shared_slice_known-2-1.given i));
      long = long;
      some = s.requires.completes.0;
      whole = s.requires.completes.1;
    } in
    let given : Left Held = let x = c.run_input-first in feed.left_in_place x.result x.new.phases x.new.live x.new.cells x.new.answers in
    let ran : Ran State = carried.ran (joins) in
    let bytes_are : take (c.args.size - 0) c.first_bytes-bytes.result ≡ first (joins) =
    let a = c.args in
    let j = joins in
    let t = take a.size (carried_of a.port ++ a.input.now) in
    let n : length t ≡ a.size - 0 = omega (arith, length-take-le a.size (carried_of a.port ++ a.input.now) (there_first j)) in
    ap (take (a.size - 0)) c.first_bytes-bytes.ensures ∙ take_at t (replicate (longest - length t) 0) (a.size - 0) n ∙ bytes_first j in
    let one : (let j = joins in ◌≡◌ {A = Left Held} (given) (record { number = 0; consumed = length (first j); written = 8; held = between j; answers = (ran).answer })) =
    let b = c in
    let a = c.args in
    let j = joins in
    let room = take (8 - 0) a.answers.now in
    c.run_input-first.ensures.answers_after
    ∙ ap (λ (l : List ℕ). feeds a.setup a.defaults.now (held_in (opened a.port.dev) a.phases.now a.live.now a.cells.now) l room)
    (bytes_are)
    ∙ first_call j room (length-take-le 8 a.answers.now (room-first j)) in
    let eight : length (given).answers ≡ 8 = ap (λ (l : Left Held). length l.answers) (one) ∙ eight_answers (joins) in
    let slice : List ℕ = (given).answers ++ drop 8 c.args.answers.now in
    let length_slice : length (slice) ≡ length c.args.answers.now =
    let a = c.args in
    omega (arith, length-append (given).answers (drop 8 a.answers.now), eight, length-drop 8 a.answers.now, room-first (joins)) in
    let room-left : 8 ≤ length (slice) = omega (arith, length_slice, room-first (joins)) in
    room-left

pub run_entries-rest-requires : goal.run_entries-rest-requires
run_entries-rest-requires c =
    let sixteen : length c.args.port.carried ≡ 16 = search rules in
    let carried_are : Bytes (carried_of c.args.port) = carried_bytes_lem c.args.port (λ i. search rules) in
    let relies : Accepted c.args.setup c.args.defaults.now (held_in c.args.port c.args.phases.now c.args.live.now c.args.cells.now) = accepted c.args.setup c.args.defaults.now _ c.requires.not_refused (search rules) (search rules) in
    let long : length (carried_of c.args.port) ≡ c.args.port.carried_len = length-take-le c.args.port.carried_len c.args.port.carried (omega (arith, (relies).short, sixteen)) in
    let joins : (let a = c.args in Joins a.setup a.defaults.now a.port (statuses_in a.phases.now) a.live.now a.cells.now a.input.now a.answers.now a.size) =
    let s = c in
    record {
      not_refused = s.requires.not_refused;
      accepted = relies;
      carried_bytes = carried_are;
      input_bytes = bytes_of s.args.input.now (λ i h. omega (arith, c.shared_slice_known-2-1.given i));
      long = long;
      some = s.requires.completes.0;
      whole = s.requires.completes.1;
    } in
    let given : Left Held = let x = c.run_input-first in feed.left_in_place x.result x.new.phases x.new.live x.new.cells x.new.answers in
    let ran : Ran State = carried.ran (joins) in
    let bytes_are : take (c.args.size - 0) c.first_bytes-bytes.result ≡ first (joins) =
    let a = c.args in
    let j = joins in
    let t = take a.size (carried_of a.port ++ a.input.now) in
    let n : length t ≡ a.size - 0 = omega (arith, length-take-le a.size (carried_of a.port ++ a.input.now) (there_first j)) in
    ap (take (a.size - 0)) c.first_bytes-bytes.ensures ∙ take_at t (replicate (longest - length t) 0) (a.size - 0) n ∙ bytes_first j in
    let one : (let j = joins in ◌≡◌ {A = Left Held} (given) (record { number = 0; consumed = length (first j); written = 8; held = between j; answers = (ran).answer })) =
    let b = c in
    let a = c.args in
    let j = joins in
    let room = take (8 - 0) a.answers.now in
    c.run_input-first.ensures.answers_after
    ∙ ap (λ (l : List ℕ). feeds a.setup a.defaults.now (held_in (opened a.port.dev) a.phases.now a.live.now a.cells.now) l room)
    (bytes_are)
    ∙ first_call j room (length-take-le 8 a.answers.now (room-first j)) in
    let not_refused_lem : (let a = c.args in let x = c.run_input-first in refusal_or31 (bench a.setup a.defaults.now) (held_in (opened x.result.port.dev) x.new.phases x.new.live x.new.cells) ≡ 0) =
    let a = c.args in
    ap (λ (l : Left Held). refusal_or31 (bench a.setup a.defaults.now) (held (opened l.held.port.dev) l.held.statuses l.held.live l.held.cells)) (one)
    ∙ between_accepted (joins) in
    let t = c in record { not_refused = not_refused_lem; between = t.requires.between }

pub after_record-requires : goal.after_record-requires
after_record-requires c =
    let sixteen : length c.args.port.carried ≡ 16 = search rules in
    let carried_are : Bytes (carried_of c.args.port) = carried_bytes_lem c.args.port (λ i. search rules) in
    let relies : Accepted c.args.setup c.args.defaults.now (held_in c.args.port c.args.phases.now c.args.live.now c.args.cells.now) = accepted c.args.setup c.args.defaults.now _ c.requires.not_refused (search rules) (search rules) in
    let long : length (carried_of c.args.port) ≡ c.args.port.carried_len = length-take-le c.args.port.carried_len c.args.port.carried (omega (arith, (relies).short, sixteen)) in
    let joins : (let a = c.args in Joins a.setup a.defaults.now a.port (statuses_in a.phases.now) a.live.now a.cells.now a.input.now a.answers.now a.size) =
    let s = c in
    record {
      not_refused = s.requires.not_refused;
      accepted = relies;
      carried_bytes = carried_are;
      input_bytes = bytes_of s.args.input.now (λ i h. omega (arith, c.shared_slice_known-2-1.given i));
      long = long;
      some = s.requires.completes.0;
      whole = s.requires.completes.1;
    } in
    let there : (let a = c.args in a.size ≤ a.port.carried_len + length a.input.now) =
    let a = c.args in
    omega (arith, there_first (joins), length-append (carried_of a.port) a.input.now, (joins).long) in
    let given : Left Held = let x = c.run_input-first in feed.left_in_place x.result x.new.phases x.new.live x.new.cells x.new.answers in
    let ran : Ran State = carried.ran (joins) in
    let bytes_are : take (c.args.size - 0) c.first_bytes-bytes.result ≡ first (joins) =
    let a = c.args in
    let j = joins in
    let t = take a.size (carried_of a.port ++ a.input.now) in
    let n : length t ≡ a.size - 0 = omega (arith, length-take-le a.size (carried_of a.port ++ a.input.now) (there_first j)) in
    ap (take (a.size - 0)) c.first_bytes-bytes.ensures ∙ take_at t (replicate (longest - length t) 0) (a.size - 0) n ∙ bytes_first j in
    let one : (let j = joins in ◌≡◌ {A = Left Held} (given) (record { number = 0; consumed = length (first j); written = 8; held = between j; answers = (ran).answer })) =
    let b = c in
    let a = c.args in
    let j = joins in
    let room = take (8 - 0) a.answers.now in
    c.run_input-first.ensures.answers_after
    ∙ ap (λ (l : List ℕ). feeds a.setup a.defaults.now (held_in (opened a.port.dev) a.phases.now a.live.now a.cells.now) l room)
    (bytes_are)
    ∙ first_call j room (length-take-le 8 a.answers.now (room-first j)) in
    let eight : length (given).answers ≡ 8 = ap (λ (l : Left Held). length l.answers) (one) ∙ eight_answers (joins) in
    let slice : List ℕ = (given).answers ++ drop 8 c.args.answers.now in
    let length_slice : length (slice) ≡ length c.args.answers.now =
    let a = c.args in
    omega (arith, length-append (given).answers (drop 8 a.answers.now), eight, length-drop 8 a.answers.now, room-first (joins)) in
    let room-left : 8 ≤ length (slice) = omega (arith, length_slice, room-first (joins)) in
    let g = c in
    let f = g in
    let s = f in
    let a = s.args in
    let m = a.size - a.port.carried_len in
    let e = g.run_entries-rest.ensures.consumed_in_bounds in
    let memory = s.well_formed.1.1.1.1.1.1.1.1.1 in (
      omega (arith, e.0, take_few (length a.input.now - m) (drop m a.input.now), there, memory.0.1),
      omega (arith, e.1, take_few (length (slice) - 8) (drop 8 (slice)), length_slice, room-left, memory.1.0.1),
    )

pub returns : goal.returns
returns c =
    let sixteen : length c.args.port.carried ≡ 16 = search rules in
    let carried_are : Bytes (carried_of c.args.port) = carried_bytes_lem c.args.port (λ i. search rules) in
    let relies : Accepted c.args.setup c.args.defaults.now (held_in c.args.port c.args.phases.now c.args.live.now c.args.cells.now) = accepted c.args.setup c.args.defaults.now _ c.requires.not_refused (search rules) (search rules) in
    let long : length (carried_of c.args.port) ≡ c.args.port.carried_len = length-take-le c.args.port.carried_len c.args.port.carried (omega (arith, (relies).short, sixteen)) in
    let joins : (let a = c.args in Joins a.setup a.defaults.now a.port (statuses_in a.phases.now) a.live.now a.cells.now a.input.now a.answers.now a.size) =
    let s = c in
    record {
      not_refused = s.requires.not_refused;
      accepted = relies;
      carried_bytes = carried_are;
      input_bytes = bytes_of s.args.input.now (λ i h. omega (arith, c.shared_slice_known-2-1.given i));
      long = long;
      some = s.requires.completes.0;
      whole = s.requires.completes.1;
    } in
    let given : Left Held = let x = c.run_input-first in feed.left_in_place x.result x.new.phases x.new.live x.new.cells x.new.answers in
    let ran : Ran State = carried.ran (joins) in
    let bytes_are : take (c.args.size - 0) c.first_bytes-bytes.result ≡ first (joins) =
    let a = c.args in
    let j = joins in
    let t = take a.size (carried_of a.port ++ a.input.now) in
    let n : length t ≡ a.size - 0 = omega (arith, length-take-le a.size (carried_of a.port ++ a.input.now) (there_first j)) in
    ap (take (a.size - 0)) c.first_bytes-bytes.ensures ∙ take_at t (replicate (longest - length t) 0) (a.size - 0) n ∙ bytes_first j in
    let one : (let j = joins in ◌≡◌ {A = Left Held} (given) (record { number = 0; consumed = length (first j); written = 8; held = between j; answers = (ran).answer })) =
    let b = c in
    let a = c.args in
    let j = joins in
    let room = take (8 - 0) a.answers.now in
    c.run_input-first.ensures.answers_after
    ∙ ap (λ (l : List ℕ). feeds a.setup a.defaults.now (held_in (opened a.port.dev) a.phases.now a.live.now a.cells.now) l room)
    (bytes_are)
    ∙ first_call j room (length-take-le 8 a.answers.now (room-first j)) in
    let after : State = let x = c.run_input-first in state_in x.result.port.dev x.new.phases x.new.live x.new.cells in
    let after_is : ◌≡◌ {A = Ran State} (record { state = after; answer = (given).answers }) (ran) = λ i. record { state = state_of (one i).held; answer = (one i).answers } in
    let moments_then : List ℕ = moments_in c.run_input-first.new.phases in
    let noted_is : (kept : List (Option Nanos)) → let a = c.args in ◌≡◌ {A = Ran Noted} (record { state = noted_with kept (after) (moments_then); answer = (given).answers }) ((noting_device a.setup a.defaults.now).run (noted_in kept a.port.dev a.phases.now a.live.now a.cells.now) (first (joins))) = λ kept.
    let s = c in
    let a = s.args in
    let j = joins in
    let whole : next (first j) ≡ complete (first j) = next_itself (carried_of a.port ++ a.input.now) (first j) (got j).0.is in
    let room : length (take (8 - 0) a.answers.now) ≡ 8 = length-take-le 8 a.answers.now (room-first j) in
    one_noted a.setup a.defaults.now (state_in a.port.dev a.phases.now a.live.now a.cells.now) (first j) whole
    (subst Bytes (bytes_first j) (bytes_take a.size (carried_of a.port ++ a.input.now) (bytes_append (carried_of a.port) a.input.now j.carried_bytes j.input_bytes)))
    (relies).good (moments_in a.phases.now) (moments_length a.phases.now) (after) (moments_then) (given).answers (after_is)
    (c.run_input-first.ensures.notes_records (first j ∷ []) (whole, tt) (bytes_are ∙ sym (append-nil (first j))) (omega (arith, room))) kept in
    let eight : length (given).answers ≡ 8 = ap (λ (l : Left Held). length l.answers) (one) ∙ eight_answers (joins) in
    let slice : List ℕ = (given).answers ++ drop 8 c.args.answers.now in
    let front_is : take 8 (slice) ≡ (given).answers = take_at (given).answers (drop 8 c.args.answers.now) 8 (eight) in
    let back_is : drop 8 (slice) ≡ drop 8 c.args.answers.now = drop_at (given).answers (drop 8 c.args.answers.now) 8 (eight) in
    let rest : List (Option Nanos) → Left HeldNoting = λ kept.
    let x = c.run_entries-rest in
    left_noting kept x.result x.new.phases x.new.live x.new.cells x.new.answers in
    let answers_then : List ℕ = c.run_entries-rest.new.answers in
    let rest_is : (kept : List (Option Nanos)) → let t = c in let a = t.args in rest kept ≡ comes_to a.setup a.defaults.now (noted_with kept (after) (moments_then)) [] (progress_in a.begun) (drop (a.size - length (carried_of a.port)) a.input.now) (drop 8 (slice)) = λ kept.
    let t = c in
    let a = t.args in
    let m = a.size - a.port.carried_len in
    let i : take (length a.input.now - m) (drop m a.input.now) ≡ drop m a.input.now =
    ap (λ (n : ℕ). take n (drop m a.input.now)) (sym (length-drop m a.input.now)) ∙ take-length (drop m a.input.now) in
    let j : drop m a.input.now ≡ drop (a.size - length (carried_of a.port)) a.input.now = ap (λ (n : ℕ). drop (a.size - n) a.input.now) (sym (long)) in
    let r : take (length (slice) - 8) (drop 8 (slice)) ≡ drop 8 (slice) =
    ap (λ (n : ℕ). take n (drop 8 (slice))) (sym (length-drop 8 (slice))) ∙ take-length (drop 8 (slice)) in
    ◌∙◌ {A = Left HeldNoting} (c.run_entries-rest.ensures.answers_after kept)
    (λ k. comes_to a.setup a.defaults.now (noted_with kept (after) (moments_then)) [] (progress_in a.begun) ((i ∙ j) k) (r k)) in
    let g = c in
    let f = g in
    let s = f in
    let a = s.args in
    let j = joins in
    let l = drop 8 (slice) in
    let w = answers_then in
    let none : drop (length (slice) - 8) l ≡ [] = ap (λ (n : ℕ). drop n l) (sym (length-drop 8 (slice))) ∙ drop-length l in
    let final : take 8 (slice) ++ (w ++ drop (length (slice) - 8) l) ≡ take 8 (slice) ++ w = (λ i. take 8 (slice) ++ (w ++ none i)) ∙ ap (λ (x : List ℕ). take 8 (slice) ++ x) (append-nil w) in
    λ kept. rw c.after_record.ensures
    (◌∙◌ {A = Left HeldNoting}
    (λ i. let x = rest kept in record { number = x.number; consumed = a.size - sym (long) i + x.consumed; written = 8 + x.written; held = x.held; answers = final i })
    (joined a.setup a.defaults.now (noted_in kept a.port.dev a.phases.now a.live.now a.cells.now) (carried_of a.port) a.input.now a.answers.now (progress_in a.begun) (relies).begun (omega (arith, long, s.requires.carried_len_nonzero))
    a.size (got j).0 (got j).1 (noted_with kept (after) (moments_then)) (given).answers (noted_is kept) (slice) (front_is) (back_is) (rest kept) (rest_is kept)))
