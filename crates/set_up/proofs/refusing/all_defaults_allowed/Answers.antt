-- `set_up::refusing::all_defaults_allowed` meets its contract: the defaults of the first i slots are allowed.
use Prim.Native.Nat.{ℕ}
use native.Mathlib.Omega.{arith}
use mathlib.Core.Path.{◌≡◌, sym, ap, ◌∙◌}
use Rattle.bits.specs.Every.{every}
use Rattle.bits.proofs.Every.{every_none, every_more, every_not}
use Rattle.registers.specs.declared.Kind.{Kind}
use Rattle.registers.specs.Rows.{checked_words}
use Rattle.demand3.specs.Refusals.{words_allowed, all_defaults_allowed}
use Rattle.set_up.proofs.refusing.all_defaults_allowed.Invariants.{slot_allowed}
use Rattle.set_up.proofs.refusing.all_defaults_allowed.Goals as goal

pub loop-i-init : goal.loop-i-init
loop-i-init c = every_none _

pub words_allowed-requires : goal.words_allowed-requires
words_allowed-requires c = (omega arith, omega arith)

pub returns-then-not-words_allowed : goal.returns-then-not-words_allowed
unfolding all_defaults_allowed
returns-then-not-words_allowed c =
    let tested : (let l = c in slot_allowed l.args.setup l.args.defaults.now l.loop-i.i ≡ c.words_allowed.result) =
    let l = c in
    let d = l.args.defaults.now in
    sym (c.words_allowed.ensures ∙ ap (λ (k : Kind). words_allowed k d l.loop-i.i (checked_words k)) c.kind_of_entry.ensures) in
    let l = c in
    let a = l.args in
    sym (every_not a.setup.slots (slot_allowed a.setup a.defaults.now) l.loop-i.i (omega arith) (tested ∙ c.if-not-words_allowed.true))

pub loop-i-preserved : goal.loop-i-preserved
loop-i-preserved c =
    let tested : (let l = c in slot_allowed l.args.setup l.args.defaults.now l.loop-i.i ≡ c.words_allowed.result) =
    let l = c in
    let d = l.args.defaults.now in
    sym (c.words_allowed.ensures ∙ ap (λ (k : Kind). words_allowed k d l.loop-i.i (checked_words k)) c.kind_of_entry.ensures) in
    let l = c in
    every_more l.loop-i.i _ l.loop-i.invariant (tested ∙ c.if-not-words_allowed.false)

pub returns : goal.returns
unfolding all_defaults_allowed
returns c =
    let l = c in
    let a = l.args in
    let e : l.loop-i.i ≡ a.setup.slots = omega arith in
    sym (ap (λ (n : ℕ). every n (slot_allowed a.setup a.defaults.now)) (sym e) ∙ l.loop-i.invariant)
