-- What the types hold of a port: its carried array is of bytes.
use Prim.Native.Nat.{ℕ}
use mathlib.Core.List.{List, [], ◌∷◌}
use mir.Val.{Val}
use denote.Shadow.{shadow}
use denote.Laws.{Is}
use denote.Array.{Array, each}
use denote.Struct.Field.{u8-field}
use denote.Struct.Laws as LL
use Rattle.trace.specs.Format.{Bytes}
use Rattle.records.specs.declared.Port.{Port}
use Rattle.records.specs.contracts.Port as P
use Rattle.records.proofs.Port.TheLaws as P'

each_byte : (xs : List ℕ) (us : List Val) → shadow (each u8-field.row.Denot u8-field.row.own_val xs us) → Bytes xs
each_byte [] us s = tt
each_byte (x ∷ xs) [] s = absurd s
each_byte (x ∷ xs) (u ∷ us) s = (s.0.1, each_byte xs us s.1)

bytes_of_array : (n : ℕ) (xs : List ℕ) (vs : List Val) → Is (Array u8-field.row n) xs vs → Bytes xs
bytes_of_array n xs vs is = each_byte xs is.0 is.1.1

pub carried_bytes_lem : (p : Port) (vs : List Val) → Is P.the_row p vs → Bytes p.carried
carried_bytes_lem p vs is = bytes_of_array 16 ((P.the_type).to p).1.0 _ (LL.owed P.the_type P'.the_laws p vs is).1.0
