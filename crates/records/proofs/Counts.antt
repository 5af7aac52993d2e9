-- COUNTS AND EDGES, proved as specs/Counts.antt states them.
use mathlib.Core.Path.{refl}
use Rattle.trace.specs.Format.{longest, pad}
use Rattle.records.specs.Decode.{decode}
use Rattle.records.specs.Answer.{answer_bytes}
use Rattle.records.specs.Device.{in_bytes}
use Rattle.records.specs.Counts.{EveryCountAndEdge, EveryRecordOnBytes}
use Rattle.records.proofs.Laws.{refused-unchanged}
use Rattle.records.proofs.Queued.{counts}
use Rattle.records.proofs.Edges.{edges, at_most_33}

pub counts_and_edges : EveryCountAndEdge
counts_and_edges setup defaults s =
    record {
      counts = λ few fits r. counts setup defaults s r few fits;
      edges = λ few sound fits. edges setup defaults s sound fits few;
      at_most33 = λ few sound fits. at_most_33 setup defaults s sound fits few;
    }

pub on_bytes : EveryRecordOnBytes
unfolding in_bytes answer_bytes
on_bytes setup defaults s bytes =
    record { answer = λ i. refl; after = refl; unchanged = λ n. (refused-unchanged setup defaults s (decode (pad longest bytes)) n).state }
