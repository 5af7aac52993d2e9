-- What the code of set-up gives.
use Rattle.std.specs.Prelude.{ℕ, List}
use Rattle.demand3.specs.Held.{held, lent_of}
use Rattle.demand3.specs.SettingUp.{Prepared}
use Rattle.set_up.specs.declared.SetUp.{SetUp}

-- what the code gives, with the n statuses that are lent
abbrev pub prepared : ℕ → SetUp → (live cells : List ℕ) → Prepared
prepared n r live cells = record { number = r.number; held = held r.port (lent_of n r.statuses) live cells }
