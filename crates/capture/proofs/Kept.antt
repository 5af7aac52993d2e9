-- The memory of a replay keeps its state as it is.
use mathlib.Core.Path.{◌≡◌, refl}
use mathlib.Core.Bool.{true}
use lib.ListN.{length}
use borrow.Author.Tests.{le-leb}
use Rattle.std.specs.Prelude.{None, Some, is_some}
use Rattle.trace.specs.Format.{when◌then◌else◌}
use Rattle.trace.proofs.Lists.{take-pad}
use Rattle.capture.specs.Advances.{Earlier}
use Rattle.capture.specs.Replay.{Progress}
use Rattle.capture.specs.Lent.{progress_in, stamp_fits, stamp_or0, replay_of}
use Rattle.capture.specs.inner.Keeps.{Fits}

same_earlier : (e : Earlier) → (when is_some e then Some (stamp_or0 e) else None) ≡ e
same_earlier None = refl
same_earlier (Some e) = refl

pub read_kept : (r : Progress) → progress_in (replay_of r) ≡ r
read_kept r = λ i. record { earlier = same_earlier r.earlier i; stamp = take-pad 4 r.stamp i; answered = r.answered; ended = r.ended }

pub stamp_kept : (r : Progress) → Fits r → stamp_fits (replay_of r) ≡ true
stamp_kept r f = le-leb (length r.stamp) 4 f.stamp
