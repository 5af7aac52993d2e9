-- `set_up::refusing::check_call` meets its contract: the tests in their order.
use Prim.Native.Nat.{ℕ, ◌/◌}
use mathlib.Core.Path.{◌≡◌, refl, sym, ap, ◌∙◌}
use mathlib.Core.Bool.{true}
use mathlib.Core.List.{List}
use lib.ListN.{length}
use borrow.Author.Rules.{rules}
use Rattle.readiness.proofs.PhaseNumbers.{statuses_length}
use Rattle.records.specs.Sound.{sound}
use Rattle.demand3.specs.Held.{Held, state_of}
use Rattle.demand3.specs.Refusals.{set_up_refusal, sound_carried}
use Rattle.demand3.specs.GivenForNo.{Fits}
use Rattle.demand3.proofs.Refusals.{refusal_held, fits_of, set_up_fits}
use Rattle.set_up.specs.Lent.{held_in}
use Rattle.set_up.specs.Refused.{number_in}
use Rattle.std.proofs.lemmas.Result.{err_from_is_err_and}
use Rattle.set_up.proofs.Stopping.{some_number, stops_set_up, stops_carried, stops_state, stops_31, stops_none}
use Rattle.set_up.proofs.refusing.check_call.Goals as goal

pub returns-in_err-set_up_refusal : goal.returns-in_err-set_up_refusal
returns-in_err-set_up_refusal c words e =
    let lent : List ℕ → Held = λ words. held_in c.args.port c.args.phases.now words c.args.cells.now in
    let number_is : (words : List ℕ) → let s = c in length words ≡ s.args.live → number_in c.set_up_refusal.result ≡ set_up_refusal s.args.setup s.args.defaults.now (lent words) = λ words e.
    let s = c in
    c.set_up_refusal.ensures ∙ refusal_held s.args.setup s.args.defaults.now (lent words) _ _ _ (statuses_length s.args.phases.now) e (search rules) in
    let s = c in
    let p = err_from_is_err_and c.from_residual.result c.from_residual.ensures.1 in
    rw (p.1, p.2) (stops_set_up s.args.setup s.args.defaults.now (lent words) _ (ap number_in (sym c.in_err-set_up_refusal.was) ∙ number_is words e) (some_number _))

pub returns-then-not-sound_carried : goal.returns-then-not-sound_carried
returns-then-not-sound_carried c words e =
    let lent : List ℕ → Held = λ words. held_in c.args.port c.args.phases.now words c.args.cells.now in
    let number_is : (words : List ℕ) → let s = c in length words ≡ s.args.live → number_in c.set_up_refusal.result ≡ set_up_refusal s.args.setup s.args.defaults.now (lent words) = λ words e.
    let s = c in
    c.set_up_refusal.ensures ∙ refusal_held s.args.setup s.args.defaults.now (lent words) _ _ _ (statuses_length s.args.phases.now) e (search rules) in
    let not_set_up : (words : List ℕ) → let s = c in length words ≡ s.args.live → set_up_refusal s.args.setup s.args.defaults.now (lent words) ≡ 0 = λ words e. sym (number_is words e) ∙ ap number_in c.in_ok-set_up_refusal.was in
    let s = c in
    stops_carried s.args.setup s.args.defaults.now (lent words) (not_set_up words e) (sym c.sound_carried.ensures ∙ c.if-not-sound_carried.true)

pub is_sound-requires : goal.is_sound-requires
is_sound-requires c =
    let fits : (let a = c.args in Fits a.setup.slots (length a.phases.now / 4) a.live (length a.defaults.now)) = fits_of _ _ _ _ (set_up_fits _ _ _ _ _ (sym c.set_up_refusal.ensures ∙ ap number_in c.in_ok-set_up_refusal.was)).lengths in
    statuses_length c.args.phases.now ∙ (fits).per_slot

pub returns-then-not-is_sound : goal.returns-then-not-is_sound
returns-then-not-is_sound c words e =
    let lent : List ℕ → Held = λ words. held_in c.args.port c.args.phases.now words c.args.cells.now in
    let number_is : (words : List ℕ) → let s = c in length words ≡ s.args.live → number_in c.set_up_refusal.result ≡ set_up_refusal s.args.setup s.args.defaults.now (lent words) = λ words e.
    let s = c in
    c.set_up_refusal.ensures ∙ refusal_held s.args.setup s.args.defaults.now (lent words) _ _ _ (statuses_length s.args.phases.now) e (search rules) in
    let not_set_up : (words : List ℕ) → let s = c in length words ≡ s.args.live → set_up_refusal s.args.setup s.args.defaults.now (lent words) ≡ 0 = λ words e. sym (number_is words e) ∙ ap number_in c.in_ok-set_up_refusal.was in
    let carried : sound_carried c.args.port ≡ true = sym c.sound_carried.ensures ∙ c.if-not-sound_carried.false in
    let state_is : (words : List ℕ) → let s = c in c.is_sound.result ≡ sound s.args.setup (state_of (lent words)) = λ words. c.is_sound.ensures c.args.setup words refl in
    let s = c in
    stops_state s.args.setup s.args.defaults.now (lent words) (not_set_up words e) (carried) (sym (state_is words) ∙ c.if-not-is_sound.true)

pub returns-then-port : goal.returns-then-port
returns-then-port c words e =
    let lent : List ℕ → Held = λ words. held_in c.args.port c.args.phases.now words c.args.cells.now in
    let number_is : (words : List ℕ) → let s = c in length words ≡ s.args.live → number_in c.set_up_refusal.result ≡ set_up_refusal s.args.setup s.args.defaults.now (lent words) = λ words e.
    let s = c in
    c.set_up_refusal.ensures ∙ refusal_held s.args.setup s.args.defaults.now (lent words) _ _ _ (statuses_length s.args.phases.now) e (search rules) in
    let not_set_up : (words : List ℕ) → let s = c in length words ≡ s.args.live → set_up_refusal s.args.setup s.args.defaults.now (lent words) ≡ 0 = λ words e. sym (number_is words e) ∙ ap number_in c.in_ok-set_up_refusal.was in
    let carried : sound_carried c.args.port ≡ true = sym c.sound_carried.ensures ∙ c.if-not-sound_carried.false in
    let state_is : (words : List ℕ) → let s = c in c.is_sound.result ≡ sound s.args.setup (state_of (lent words)) = λ words. c.is_sound.ensures c.args.setup words refl in
    let sound_is : (words : List ℕ) → let s = c in sound s.args.setup (state_of (lent words)) ≡ true = λ words. sym (state_is words) ∙ c.if-not-is_sound.false in
    let s = c in
    stops_31 s.args.setup s.args.defaults.now (lent words) (not_set_up words e) (carried) (sound_is words) c.if-port.true

pub returns : goal.returns
returns c words e =
    let lent : List ℕ → Held = λ words. held_in c.args.port c.args.phases.now words c.args.cells.now in
    let number_is : (words : List ℕ) → let s = c in length words ≡ s.args.live → number_in c.set_up_refusal.result ≡ set_up_refusal s.args.setup s.args.defaults.now (lent words) = λ words e.
    let s = c in
    c.set_up_refusal.ensures ∙ refusal_held s.args.setup s.args.defaults.now (lent words) _ _ _ (statuses_length s.args.phases.now) e (search rules) in
    let not_set_up : (words : List ℕ) → let s = c in length words ≡ s.args.live → set_up_refusal s.args.setup s.args.defaults.now (lent words) ≡ 0 = λ words e. sym (number_is words e) ∙ ap number_in c.in_ok-set_up_refusal.was in
    let carried : sound_carried c.args.port ≡ true = sym c.sound_carried.ensures ∙ c.if-not-sound_carried.false in
    let state_is : (words : List ℕ) → let s = c in c.is_sound.result ≡ sound s.args.setup (state_of (lent words)) = λ words. c.is_sound.ensures c.args.setup words refl in
    let sound_is : (words : List ℕ) → let s = c in sound s.args.setup (state_of (lent words)) ≡ true = λ words. sym (state_is words) ∙ c.if-not-is_sound.false in
    let s = c in
    stops_none s.args.setup s.args.defaults.now (lent words) (not_set_up words e) (carried) (sound_is words) c.if-port.false
