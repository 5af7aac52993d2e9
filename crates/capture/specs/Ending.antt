-- Why a call ends: its number says for which of six reasons.
use Rattle.std.specs.Prelude.{ℕ, ◌≤◌, ◌<◌, ◌≡◌, true, false, List, [], ◌∷◌, ◌++◌, length, eqb}
use Rattle.trace.specs.Format.{known, next, complete}
use Rattle.capture.specs.Advances.{stamp_in, back, due}
use Rattle.capture.specs.Replay.{Progress}

-- the kind byte is next
pub record KindNext (c : List ℕ) (r : Progress) : Type 0 where
  pub between : c ≡ []
  pub stamped : length r.stamp ≡ 4

-- what lies before a kind byte is checked, and is in order
pub record InOrder (c : List ℕ) (r : Progress) (b : ℕ) : Type 0 where
  pub next : KindNext c r
  pub forward : back r.earlier (stamp_in r.stamp) ≡ false
  pub no_advance : eqb b 1 ≡ false

-- A call ends, with `room` answer bytes and the bytes `rest` left, for one of these reasons
pub data EndsWith (c : List ℕ) (r : Progress) (room : ℕ) (rest : List ℕ) (n : ℕ) : Type 0 where
  -- 0: everything is consumed
  all_consumed : n ≡ 0 → rest ≡ [] → EndsWith c r room rest n
  -- 30: an advance is due and not yet answered, and fewer than 8 answer bytes are left
  advance-waits : (b : ℕ) (more : List ℕ) → n ≡ 30 → rest ≡ b ∷ more → InOrder c r b → r.answered < length (due r.earlier r.stamp) → room < 8 → EndsWith c r room rest n
  -- 30: a record's last byte is next, no advance is left to answer, and fewer than 8 answer bytes are left
  record_waits : (b : ℕ) (more : List ℕ) → n ≡ 30 → rest ≡ b ∷ more → next (c ++ b ∷ []) ≡ complete (c ++ b ∷ [])
      → (c ≡ [] → InOrder c r b × (length (due r.earlier r.stamp) ≤ r.answered)) → room < 8 → EndsWith c r room rest n
  -- 31: there is no such kind, and no advance is left to answer
  no_kind : (b : ℕ) (more : List ℕ) → n ≡ 31 → rest ≡ b ∷ more → InOrder c r b → length (due r.earlier r.stamp) ≤ r.answered → known b ≡ false → EndsWith c r room rest n
  -- 32: the recorder went back
  went_back : (b : ℕ) (more : List ℕ) → n ≡ 32 → rest ≡ b ∷ more → KindNext c r → back r.earlier (stamp_in r.stamp) ≡ true → EndsWith c r room rest n
  -- 33: kind 01, where it did not
  kind_01 : (b : ℕ) (more : List ℕ) → n ≡ 33 → rest ≡ b ∷ more → KindNext c r → back r.earlier (stamp_in r.stamp) ≡ false → b ≡ 1 → EndsWith c r room rest n
