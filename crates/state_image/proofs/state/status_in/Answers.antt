-- `state_image::state::status_in` meets its contract.
use Prim.Native.Nat.{◌+◌}
use mathlib.Core.Path.{◌≡◌, sym, ◌∙◌}
use Rattle.state_layout.proofs.Steps.{status_at_lem}
use Rattle.bits.specs.Bytes.{byte_at}
use Rattle.state_layout.specs.Reading.{time_at, cause_in, phase_in}
use Rattle.state_image.proofs.state.status_in.Goals as goal

pub returns : goal.returns
returns c = let a = c.args in
    let at = a.at in
    let l = a.bytes.now in
    let ready : c.nanos_of-ready.result ≡ time_at (at + 2) l = c.nanos_of-ready.ensures ∙ (λ t. record { 0 = c.eight_at.ensures t }) in
    let end : c.nanos_of-end.result ≡ time_at (at + 10) l = c.nanos_of-end.ensures ∙ (λ t. record { 0 = c.eight_at-2.ensures t }) in
    let cause : c.cause_of-cause.result ≡ cause_in (byte_at l (at + 1)) (time_at (at + 10) l) = c.cause_of-cause.ensures ∙ (λ t. cause_in (c.byte_at.ensures t) (end t)) in
    let phase : c.phase_of-phase.result ≡ phase_in (byte_at l at) (cause_in (byte_at l (at + 1)) (time_at (at + 10) l)) (time_at (at + 2) l) = c.phase_of-phase.ensures ∙ (λ t. phase_in (c.byte_at-2.ensures t) (cause t) (ready t)) in
    (λ t. record { phase = phase t }) ∙ sym (status_at_lem at l)
