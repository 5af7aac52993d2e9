-- What the cut of a trace and the end of a call mean, exactly.
use Rattle.std.specs.Prelude.{ℕ, ◌-◌, ◌<◌, ◌≡◌, true, false, List, [], ◌∷◌, ◌++◌, length, drop}
use Rattle.trace.specs.Format.{known, complete, next, begun}
use Rattle.trace.specs.Bench.{Device, Bench, Cut, cut}
use Rattle.trace.specs.Feed.{feed_open}

-- ---- A trace and its records
abbrev pub joined_up : List (List ℕ) → List ℕ
joined_up [] = []
joined_up (r ∷ rs) = r ++ joined_up rs

abbrev pub AllWhole : List (List ℕ) → Type 0
AllWhole [] = Unit {0}
AllWhole (r ∷ rs) = (next r ≡ complete r) × AllWhole rs

-- a cut: no byte is lost or moved, each piece is one whole record, and what is left begins with no whole record
pub record IsCut (bs : List ℕ) (c : Cut) : Type 0 where
  pub joined : joined_up c.wholes ++ c.left ≡ bs
  pub wholes : AllWhole c.wholes
  pub left : (r : List ℕ) → next c.left ≡ complete r → ⊥

-- THE CUT is one, and there is no other
pub record CutExactly : Type 0 where
  pub is : (bs : List ℕ) → IsCut bs (cut bs)
  pub only : (bs : List ℕ) (c : Cut) → IsCut bs c → c ≡ cut bs

-- ---- The end of a call
-- where an accepted call that is not broken ends, with c carried, `room` answer bytes left and `rest` not consumed
pub data EndsWith (c : List ℕ) (room : ℕ) (rest : List ℕ) (number : ℕ) : Type 0 where
  -- 0: everything is consumed
  all_consumed : number ≡ 0 → rest ≡ [] → EndsWith c room rest number
  -- 30: the next byte is a record's last, and fewer than 8 answer bytes are left
  no_room : (b : ℕ) (more : List ℕ) → number ≡ 30 → rest ≡ b ∷ more → next (c ++ b ∷ []) ≡ complete (c ++ b ∷ []) → room < 8 → EndsWith c room rest number
  -- 31: the next byte is a kind that there is not
  no_kind : (b : ℕ) (more : List ℕ) → number ≡ 31 → rest ≡ b ∷ more → c ≡ [] → known b ≡ false → EndsWith c room rest number

-- A CALL GOES ON AS LONG AS IT CAN: from a bench that carries the start of a record, or nothing, it ends for one of these three reasons, and its number says which
abbrev pub EndsExactly : {S : Type 0} → Device S → Type 0
EndsExactly {S} D =
    (p : Bench S) (room : ℕ) (input : List ℕ) → begun p.carried ≡ true
    → (let f = feed_open D p room input in EndsWith f.bench.carried (room - length f.answers) (drop f.consumed input) f.number)
