-- `replay_image::moments::moments_in` meets its contract: the first slots are read.
use Prim.Native.Nat.{◌+◌, ◌<◌}
use mathlib.Core.Path.{sym, ◌∙◌, subst}
use native.Mathlib.Omega.{arith}
use Rattle.replay_image.proofs.MomentStores.{ReadTo, none_read, none_more, one_more, all_read}
use Rattle.replay_image.proofs.moments.moments_in.Goals as goal
use Rattle.replay_image.proofs.moments.moments_in.Goals.{in-Some, in_default}

pub loop-slot-init : goal.loop-slot-init
loop-slot-init c = none_read _ _ c.no_moments-m.ensures

pub loop-slot-preserved : goal.loop-slot-preserved
loop-slot-preserved c =
    let l = c.loop-slot in
    let bytes = c.args.bytes.now in
    let low : l.slot < 32 = omega arith in
    elim c.match-moment_at.branch [
      | in-Some w ↦
          subst (ReadTo (l.slot + 1) bytes) (sym (w.m-is ∙ w.note.ensures)) (one_more bytes l.m l.slot low l.invariant w.in-Some.time (sym c.moment_at.ensures ∙ w.in-Some.is))
      | in_default w ↦
          subst (ReadTo (l.slot + 1) bytes) (sym w.m-is) (none_more bytes l.m l.slot low l.invariant (sym c.moment_at.ensures ∙ w.in_default.is))
    ]

pub returns : goal.returns
returns c = let l = c.loop-slot in all_read c.args.bytes.now l.m l.slot (omega arith) l.invariant
