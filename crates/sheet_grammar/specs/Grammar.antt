-- The grammar of a sheet (02, Q-1), for those who write one:
--
--   sheet   lines; none is fine
--   line    slot SP reset SP dlup SP flr SP d3hot SP unit 0Ah
--   slot, reset, dlup, flr, d3hot   a decimal number of 1 to 10 digits; zeros may stand in front
--   unit    ns, us or ms, of all four times of the line
--   SP      one space, 20h
use Rattle.std.specs.Prelude.{ℕ, ◌+◌, ◌*◌, ◌≤◌, ◌≡◌, true, false, List, [], ◌∷◌, ◌++◌, length}
use Rattle.bits.specs.Text.{chars}
use Rattle.times.specs.declared.Unit.{Unit}
use Rattle.times.specs.declared.Unit.TheVariants.{Ns, Us, Ms}
use Rattle.sheet_grammar.specs.declared.SheetLine.{SheetLine}
use Rattle.sheet_grammar.specs.Layout.{is_digit, digit_value, space, line_end, claim, most_digits}

-- digits, after others that are the number `before`, and the number that they are together
pub data Decimal : (before : ℕ) → List ℕ → ℕ → Type 0 where
  done : {n : ℕ} → Decimal n [] n
  digit : {before n b : ℕ} {s : List ℕ} → is_digit b ≡ true → Decimal (before * 10 + digit_value b) s n → Decimal before (b ∷ s) n

-- 1 to so many digits
pub record NumberUpTo (limit : ℕ) (s : List ℕ) (n : ℕ) : Type 0 where
  pub digits : Decimal 0 s n
  pub some : 1 ≤ length s
  pub most : length s ≤ limit

-- 1 to 10 digits
abbrev pub Number : List ℕ → ℕ → Type 0
Number s n = NumberUpTo most_digits s n

-- small letters
pub data UnitName : List ℕ → Unit → Type 0 where
  ns : UnitName (chars "ns") Ns
  us : UnitName (chars "us") Us
  ms : UnitName (chars "ms") Ms

-- a line and what it says: each time is claimed in the unit at the end
pub data Line : List ℕ → SheetLine → Type 0 where
  line : {slot reset dl_up flr d3hot unit : List ℕ} {n r l f d : ℕ} {u : Unit}
      → Number slot n → Number reset r → Number dl_up l → Number flr f → Number d3hot d → UnitName unit u
      → Line (slot ++ (space ∷ reset ++ (space ∷ dl_up ++ (space ∷ flr ++ (space ∷ d3hot ++ (space ∷ unit ++ (line_end ∷ [])))))))
      (record { slot = n; reset = claim r u; dl_up = claim l u; flr = claim f u; d3hot = claim d u })

-- a sheet and its lines
pub data Sheet : List ℕ → List SheetLine → Type 0 where
  none : Sheet [] []
  more : {first rest : List ℕ} {l : SheetLine} {ls : List SheetLine} → Line first l → Sheet rest ls → Sheet (first ++ rest) (l ∷ ls)
