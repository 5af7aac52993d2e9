-- `library_code::run_and_show` meets its contract.
use Prim.Native.Nat.{ℕ, ◌≤◌}
use mathlib.Core.List.{List, ◌++◌}
use mathlib.Core.Path.{◌≡◌, ap, sym, ◌∙◌}
use native.Mathlib.Omega.{arith}
use lib.Seq.{sets}
use lib.ListN.{length, take, drop, length-take}
use borrow.Author.Rules.{rules}
use Rattle.bits.specs.Widths.{at_most}
use Rattle.readiness.specs.declared.Status.{Status}
use Rattle.trace.specs.Lent.{Left}
use Rattle.demand3.specs.Held.{Held, lent_of}
use Rattle.feed.specs.Left.{left}
use Rattle.trace_in_pieces.specs.Pieces.{blank_held}
use Rattle.library_run.specs.Run.{shown, image_of, showing, ran_on}
use Rattle.library_run.proofs.Laws.{lengths}
use Rattle.library_code.specs.declared.Way.{Way}
use Rattle.library_code.specs.Ways.{captured, piece_of}
use Rattle.library_code.proofs.Showing.{sets-front, lent-front}
use Rattle.library_code.proofs.run_and_show.Goals as goal
use Rattle.library_code.proofs.run_and_show.Goals.{in-Capture, in-Trace}

pub returns : goal.returns
unfolding showing
returns c =
    let a = c.args in
    let x = c.match-way in
    let n = a.setup.slots in
    let k = at_most n 32 in
    -- what a capture leaves, and what a trace does
    let gives : Way → Left Held =
    λ way. ran_on (captured way) (piece_of way) a.setup a.defaults.now (blank_held a.setup a.live.now a.cells.now) a.input.now a.answers.now in
    -- what is left where the two ways meet
    let leaves : left n x.fed x.live x.cells x.answers ≡ gives a.way =
    elim x.branch [
      | in-Capture w ↦ (λ t. left n (w.fed-is t) (w.live-is t) (w.cells-is t) (w.answers-is t)) ∙ w.replay_over-fed.ensures ∙ ap gives (sym w.in-Capture.is)
      | in-Trace w ↦ (λ t. left n (w.fed-is t) (w.live-is t) (w.cells-is t) (w.answers-is t)) ∙ w.run_over-fed.ensures ∙ ap gives (sym w.in-Trace.is)
    ] in
    let live : length x.live ≡ length a.live.now = search rules in
    let cells : length x.cells ≡ length a.cells.now = search rules in
    let image = a.image.now in
    let put = c.put_image in
    let shows : List Status → List ℕ = λ l. image_of x.fed.consumed x.fed.written x.fed.port l x.live x.cells in
    let lent : length x.fed.statuses ≡ 32 = put.ensures.statuses_len.0 in
    let all : length (take k x.fed.statuses) ≡ k = omega (arith, length-take k x.fed.statuses) in
    let size = (lengths x.fed.consumed x.fed.written x.fed.port (take k x.fed.statuses) x.live x.cells k put.ensures.statuses_len.1 all (live ∙ c.requires.0)).whole in
    let fits : length (shows (take k x.fed.statuses)) ≤ length image = omega (arith, size, c.requires.1) in
    let e : put.new.image ≡ shows (take k (lent_of n x.fed.statuses)) ++ drop (length (shows (take k (lent_of n x.fed.statuses)))) image =
    put.ensures.image_after
    ∙ ap (λ (i : ℕ). sets image 0 (shows (take i x.fed.statuses))) c.min.ensures
    ∙ sets-front (shows (take k x.fed.statuses)) image fits
    ∙ ap (λ (l : List Status). shows l ++ drop (length (shows l)) image) (sym (lent-front n k x.fed.statuses (omega arith) (omega arith)))
    in
    (λ t. shown (c.from.ensures t) x.answers (e t)) ∙ ap (λ (y : Left Held). showing k y image) leaves
