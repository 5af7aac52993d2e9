-- `decode::gathering::size_of` meets its contract.
use native.Mathlib.Omega.{arith}
use Rattle.decode.proofs.Fields.{no_size}
use Rattle.decode.proofs.gathering.size_of.Goals as goal

pub returns-in_default : goal.returns-in_default
returns-in_default c = no_size c.args.kind (λ e. omega arith) (λ e. omega arith) (λ e. omega arith) (λ e. omega arith) (λ e. omega arith) (λ e. omega arith) (λ e. omega arith) (λ e. omega arith) (λ e. omega arith) (λ e. omega arith) (λ e. omega arith) (λ e. omega arith) (λ e. omega arith)
