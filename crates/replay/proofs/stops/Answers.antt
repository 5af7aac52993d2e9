-- `replay::stops` meets its contract.
use Prim.Native.Nat.{ℕ}
use mathlib.Core.Path.{◌≡◌, refl, sym, ◌∙◌}
use mathlib.Core.Bool.{true}
use mathlib.Core.List.{List}
use mathlib.Core.Logic.{⊎_elim}
use lib.ListN.{length}
use lib.Dec.{eqb}
use borrow.Author.Rules.{rules}
use borrow.Author.Tests.{eqb-true, eqb-false, not-true, not-false}
use Rattle.trace.specs.Lent.{refusal}
use Rattle.capture.specs.Lent.{matching}
use Rattle.set_up.specs.Lent.{held_in}
use Rattle.demand3.specs.Feeding.{bench}
use Rattle.replay_rules.specs.Replaying.{HeldWith, held_with}
use Rattle.replay.proofs.Stopping.{refused, not_refused_lem, unmatched, ended, not_ended, refusal_few}
use Rattle.replay.proofs.stops.Goals as goal

pub returns-then-no-ne31 : goal.returns-then-no-ne31
returns-then-no-ne31 c =
    let held : (live : List ℕ) → HeldWith = λ live. let a = c.args in held_with (held_in a.port a.phases.now live a.cells.now) a.state in
    let s = c in
    let n = c.refusal-no.result in
    λ live l.
    refused (bench s.args.setup s.args.defaults.now) (held live) n (c.refusal-no.ensures live l) c.if-no-ne0.true
    c.if-no-ne31.true

pub returns-then-not-matches : goal.returns-then-not-matches
returns-then-not-matches c =
    let held : (live : List ℕ) → HeldWith = λ live. let a = c.args in held_with (held_in a.port a.phases.now live a.cells.now) a.state in
    let open_port : (live : List ℕ) → (let s = c in length live ≡ s.args.words → refusal (bench s.args.setup s.args.defaults.now) (held live).port ≡ 0) = λ live l.
    let s = c in
    let h = held live in
    let n = c.refusal-no.result in
    not_refused_lem (bench s.args.setup s.args.defaults.now) h n (c.refusal-no.ensures live l) (refusal_few s.args.setup s.args.defaults.now h.port)
    (⊎_elim (λ w. λ _. w.1) (λ w. λ z. absurd (z w)) c.else-no-ne0.either) in
    let s = c in
    λ live l.
    unmatched (bench s.args.setup s.args.defaults.now) (held live) (open_port live l)
    (sym c.matches.ensures ∙ c.if-not-matches.true)

pub returns-then-state-ne0 : goal.returns-then-state-ne0
returns-then-state-ne0 c =
    let held : (live : List ℕ) → HeldWith = λ live. let a = c.args in held_with (held_in a.port a.phases.now live a.cells.now) a.state in
    let open_port : (live : List ℕ) → (let s = c in length live ≡ s.args.words → refusal (bench s.args.setup s.args.defaults.now) (held live).port ≡ 0) = λ live l.
    let s = c in
    let h = held live in
    let n = c.refusal-no.result in
    not_refused_lem (bench s.args.setup s.args.defaults.now) h n (c.refusal-no.ensures live l) (refusal_few s.args.setup s.args.defaults.now h.port)
    (⊎_elim (λ w. λ _. w.1) (λ w. λ z. absurd (z w)) c.else-no-ne0.either) in
    let matched : (live : List ℕ) → (let s = c in matching (bench s.args.setup s.args.defaults.now) (held live) ≡ true) = λ live. sym c.matches.ensures ∙ c.if-not-matches.false in
    let s = c in
    λ live l.
    ended (bench s.args.setup s.args.defaults.now) (held live) (open_port live l) (matched live)
    s.args.state.ended refl c.if-state-ne0.true

pub returns : goal.returns
returns c =
    let held : (live : List ℕ) → HeldWith = λ live. let a = c.args in held_with (held_in a.port a.phases.now live a.cells.now) a.state in
    let open_port : (live : List ℕ) → (let s = c in length live ≡ s.args.words → refusal (bench s.args.setup s.args.defaults.now) (held live).port ≡ 0) = λ live l.
    let s = c in
    let h = held live in
    let n = c.refusal-no.result in
    not_refused_lem (bench s.args.setup s.args.defaults.now) h n (c.refusal-no.ensures live l) (refusal_few s.args.setup s.args.defaults.now h.port)
    (⊎_elim (λ w. λ _. w.1) (λ w. λ z. absurd (z w)) c.else-no-ne0.either) in
    let matched : (live : List ℕ) → (let s = c in matching (bench s.args.setup s.args.defaults.now) (held live) ≡ true) = λ live. sym c.matches.ensures ∙ c.if-not-matches.false in
    let s = c in
    let no = c.refusal-no in
    λ live l.
    not_ended (bench s.args.setup s.args.defaults.now) (held live) (open_port live l) (matched live)
    no.result (no.ensures live l) c.if-state-ne0.false
