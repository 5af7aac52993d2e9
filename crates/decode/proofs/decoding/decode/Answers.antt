-- `decode::decoding::decode` meets its contract.
use borrow.Author.Rules.{rules}
use native.Mathlib.Omega.{arith}
use mathlib.Core.Path.{◌≡◌}
use lib.ListN.{length, get_or}
use Rattle.trace.proofs.Gathering.{size-within}
use Rattle.decode.proofs.decoding.decode.Goals as goal

pub decode_at-requires : goal.decode_at-requires
decode_at-requires c = let n : length c.args.bytes ≡ 17 = search rules in (omega (arith, n), omega (arith, n, size-within (get_or c.args.bytes 0 0)))
