-- What a device and its lent memory must fulfil for demand 3.
use Rattle.std.specs.Prelude.{ℕ, ◌≡◌, true, List}
use Rattle.trace.specs.Format.{Bytes, begun, next, complete}
use Rattle.trace.specs.Bench.{Device, Bench}
use Rattle.trace.specs.Lent.{Lent, refusal}

-- a whole record, of bytes, keeps the state good, for any notion of good
abbrev pub RunKeeps : {S : Type 0} → Device S → (S → Type 0) → Type 0
RunKeeps {S} D Good = (s : S) (r : List ℕ) → next r ≡ complete r → Bytes r → Good s → Good (D.run s r).state

module _ {S H : Type 0} (L : Lent S H) where
  -- where the calls start on h
  pub record Keeps (h : H) (Good : S → Type 0) : Type 0 where
    -- what is not refused starts in a good state, and carries at most the start of one record
    pub good : refusal L h ≡ 0 → Good (L.view h).state
    pub carries : refusal L h ≡ 0 → begun (L.view h).carried ≡ true
    -- each record keeps the state good
    pub run : RunKeeps L.device Good
    -- a bench in a good state is kept as it is, and is not refused
    pub kept : (p : Bench S) → Good p.state → begun p.carried ≡ true → L.view (L.keep p) ≡ p
    pub accepted : (p : Bench S) → Good p.state → begun p.carried ≡ true → refusal L (L.keep p) ≡ 0
