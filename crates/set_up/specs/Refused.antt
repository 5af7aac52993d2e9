-- Why a call is refused, as a number.
use Rattle.std.specs.Prelude.{ℕ, Result, Ok, Err}
use Rattle.set_up.specs.declared.Refusal.{Refusal}
use Rattle.set_up.specs.declared.Refusal.TheVariants.{Lengths, Queue, Codes, Defaults, Unsound, Broken}

abbrev pub number_of : Refusal → ℕ
number_of Lengths = 1
number_of Queue = 2
number_of Codes = 3
number_of Defaults = 4
number_of Unsound = 5
number_of Broken = 31

-- 0 where nothing is refused
abbrev pub number_in : Result (Unit {0}) Refusal → ℕ
number_in (Ok u) = 0
number_in (Err why) = number_of why
