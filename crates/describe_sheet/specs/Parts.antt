-- Parts that several lines have.
use Rattle.std.specs.Prelude.{ℕ, ◌-◌, Bool, true, false, cond, List, [], ◌++◌, eqb}
use Rattle.bits.specs.Text.{chars}
use Rattle.times.specs.declared.Code.{Code}
use Rattle.times.specs.declared.Unit.{Unit}
use Rattle.times.specs.declared.Unit.TheVariants.{Ns, Us, Ms}
use Rattle.times.specs.declared.ClaimedTime.{ClaimedTime}
use Rattle.times.specs.Codes.{nanos_of}
use Rattle.times.specs.Claims.{claimed_nanos}
use Rattle.text_line.specs.Text.{hex_of, named}
use Rattle.describe_times.specs.Times.{nanos_text}

-- the four times of a slot, counted from 0
unfoldable pub time_name : (which : ℕ) → List ℕ
time_name which =
    cond (eqb which 0) (chars "Reset") (cond (eqb which 1) (chars "DL Up") (cond (eqb which 2) (chars "FLR") (chars "D3hot to D0")))

-- a slot and the name of a time
unfoldable pub slot_time_text : (slot which : ℕ) → List ℕ
slot_time_text slot which = named (chars "slot ") slot ++ chars " " ++ time_name which ++ chars ": "

-- a code in three hex digits, after its name
unfoldable pub code_text : List ℕ → Code → List ℕ
code_text name code = name ++ hex_of 3 code.0

unfoldable pub is_ns : Unit → Bool
is_ns Ns = true
is_ns Us = false
is_ns Ms = false

-- nanoseconds, where the unit is another
unfoldable pub not_ns_text : Unit → ℕ → List ℕ
not_ns_text u n = cond (is_ns u) [] (chars " = " ++ nanos_text n)

-- a claim's nanoseconds, where its unit is another
unfoldable pub same_in_nanos_text : ClaimedTime → List ℕ
same_in_nanos_text c = not_ns_text c.unit (claimed_nanos c).0

-- by how much a time is above a claim; 0 ns where it is below, which the time of a code that is given for the claim never is
unfoldable pub rounded_text : (claim time : ℕ) → List ℕ
rounded_text claim time = cond (eqb time claim) (chars ", exact") (chars ", rounded up by " ++ nanos_text (time - claim))

-- by how much a code's time is above a claim
unfoldable pub rounding_text : ClaimedTime → Code → List ℕ
rounding_text c code = rounded_text (claimed_nanos c).0 (nanos_of code).0
