-- Why a file of seen times is refused, in words.
use Rattle.std.specs.Prelude.{ℕ, List, [], ◌++◌}
use Rattle.bits.specs.Text.{chars}
use Rattle.text_line.specs.Text.{named}
use Rattle.seen_grammar.specs.declared.SeenRefusal.{SeenRefusal}
use Rattle.seen_grammar.specs.declared.SeenRefusal.TheVariants.{NoRefusal, Layout, NoSlot, NamedBefore, TooLong}

unfoldable pub reason_text : SeenRefusal → List ℕ
reason_text NoRefusal = []
reason_text Layout = chars ": expected a slot (1 to 10 digits), a time (1 to 16 digits) and ns, us or ms, one space between, and the end of the line (0Ah)"
reason_text NoSlot = chars ": the card has no such slot"
reason_text NamedBefore = chars ": the slot was named before"
reason_text TooLong = chars ": the time is above 2,000,000,000,000,000 ns"

-- the line that refuses a file, counted from 1, and the reason
unfoldable pub file_text : (count : ℕ) → SeenRefusal → List ℕ
file_text count why = named (chars "line ") count ++ reason_text why
