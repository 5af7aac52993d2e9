-- `seen::layout::line_of` meets its contract.
use mathlib.Core.Path.{◌≡◌, sym, ap, ◌∙◌}
use mathlib.Core.Bool.{Bool, true, false, ◌&&◌, cond}
use lib.Dec.{eqb}
use lib.ListN.{length}
use Rattle.std.specs.Prelude.{Ok, Err}
use Rattle.times.specs.declared.ClaimedTime.{ClaimedTime}
use Rattle.sheet_grammar.specs.Layout.{claim}
use Rattle.seen_grammar.specs.declared.SeenLine.{SeenLine}
use Rattle.seen_grammar.proofs.Lines.{line_by, line_by_lem}
use Rattle.seen.proofs.layout.line_of.Goals as goal

pub returns-then-all_fit : goal.returns-then-all_fit
unfolding line_by
returns-then-all_fit c =
    let s = c.args.s.now in
    let slot = c.number_up_to-slot.result in
    let time = c.number_up_to-time.result in
    let u = c.unit_at-u.result in
    let said : SeenLine = record { slot = slot.number; time = claim time.number u.unit } in
    let test : (slot.fits && time.fits && u.fits && eqb u.next (length s)) ≡ true = sym c.all_fit.ensures ∙ c.if-all_fit.true in
    ap (λ (t : ClaimedTime). Ok (record { slot = slot.number; time = t })) c.claimed.ensures
    ∙ sym (ap (λ (b : Bool). cond b (Ok said) (Err (record { so_far = said }))) test)
    ∙ sym (line_by_lem s (sym c.number_up_to-slot.ensures) (sym c.number_up_to-time.ensures) (sym c.unit_at-u.ensures))

pub returns-else-all_fit : goal.returns-else-all_fit
unfolding line_by
returns-else-all_fit c =
    let s = c.args.s.now in
    let slot = c.number_up_to-slot.result in
    let time = c.number_up_to-time.result in
    let u = c.unit_at-u.result in
    let said : SeenLine = record { slot = slot.number; time = claim time.number u.unit } in
    let test : (slot.fits && time.fits && u.fits && eqb u.next (length s)) ≡ false = sym c.all_fit.ensures ∙ c.if-all_fit.false in
    ap (λ (t : ClaimedTime). Err (record { so_far = record { slot = slot.number; time = t } })) c.claimed.ensures
    ∙ sym (ap (λ (b : Bool). cond b (Ok said) (Err (record { so_far = said }))) test)
    ∙ sym (line_by_lem s (sym c.number_up_to-slot.ensures) (sym c.number_up_to-time.ensures) (sym c.unit_at-u.ensures))
