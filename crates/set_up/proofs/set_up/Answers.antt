-- `set_up::set_up` meets its contract.
use native.Mathlib.Omega.{arith}
use mathlib.Core.Path.{◌≡◌, sym, ap, ◌∙◌}
use lib.ListN.{length}
use borrow.Author.Rules.{rules}
use Rattle.readiness.specs.declared.Dev.{Dev}
use Rattle.readiness.specs.Status.{stopped_by_reset}
use Rattle.demand3.specs.Held.{Held, held, lent_of}
use Rattle.demand3.specs.Refusals.{set_up_refusal}
use Rattle.demand3.specs.SettingUp.{Prepared}
use Rattle.set_up.proofs.Lent.{length-lent}
use Rattle.demand3.specs.GivenForNo.{Fits}
use Rattle.demand3.proofs.Refusals.{refusal_held, fits_of, set_up_fits}
use Rattle.demand3.proofs.SettingUp.{set_up_no, set_up_yes}
use Rattle.set_up.proofs.SettingUp.{fresh-left}
use Rattle.set_up.proofs.Stopping.{some_number}
use Rattle.set_up.specs.Refused.{number_in}
use Rattle.set_up.proofs.set_up.Goals as goal

pub returns-in-Err : goal.returns-in-Err
returns-in-Err c =
    let lent : Held = held c.args.port (lent_of c.args.lent c.args.statuses) c.args.live.now c.args.cells.now in
    let number_is : (let s = c in number_in c.set_up_refusal.result ≡ set_up_refusal s.args.setup s.args.defaults.now (lent)) =
    let s = c in
    c.set_up_refusal.ensures ∙ refusal_held s.args.setup s.args.defaults.now (lent) _ _ _ (length-lent _ s.args.statuses) (search rules) (search rules) in
    let s = c in
    set_up_no s.args.setup s.args.defaults.now (lent) _ (c.number.ensures ∙ ap number_in (sym c.in-Err.is) ∙ number_is) (λ z. some_number _ (sym c.number.ensures ∙ z))

pub returns-in-Ok : goal.returns-in-Ok
returns-in-Ok c =
    let lent : Held = held c.args.port (lent_of c.args.lent c.args.statuses) c.args.live.now c.args.cells.now in
    let number_is : (let s = c in number_in c.set_up_refusal.result ≡ set_up_refusal s.args.setup s.args.defaults.now (lent)) =
    let s = c in
    c.set_up_refusal.ensures ∙ refusal_held s.args.setup s.args.defaults.now (lent) _ _ _ (length-lent _ s.args.statuses) (search rules) (search rules) in
    let fits : (let a = c.args in Fits a.setup.slots a.lent (length a.live.now) (length a.defaults.now)) = fits_of _ _ _ _ (set_up_fits _ _ _ _ _ (sym c.set_up_refusal.ensures ∙ ap number_in c.in-Ok.is)).lengths in
    let r = c in
    let s = r in
    let f = fits in
    let a : length s.args.statuses ≡ 32 = search rules in
    let p = c.blank_port.ensures in
    let t = c.reset_statuses.ensures ∙ ap (λ (d : Dev). stopped_by_reset s.args.setup d s.args.statuses) c.blank_dev.ensures in
    let l = c.cold_reset.ensures in
    let k = c.clear_cells.ensures in
    ◌∙◌ {A = Prepared} (λ i. record { number = 0; held = held (p i) (lent_of s.args.lent (t i)) (l i) (k i) })
    (fresh-left s.args.setup s.args.defaults.now s.args.port s.args.lent s.args.statuses s.args.live.now s.args.cells.now (omega (arith, f.most, f.per_slot)) (omega (arith, f.words, f.default_words))
    ∙ sym (set_up_yes s.args.setup s.args.defaults.now (lent) (sym (number_is) ∙ ap number_in r.in-Ok.is)))
