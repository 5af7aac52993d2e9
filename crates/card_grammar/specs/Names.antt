-- The words of the grammar, as bytes.
use Rattle.std.specs.Prelude.{ℕ, List}
use Rattle.bits.specs.Text.{chars}

abbrev pub name_slots : List ℕ
name_slots = chars "slots"

abbrev pub name_queue : List ℕ
name_queue = chars "queue"

abbrev pub name_bus : List ℕ
name_bus = chars "bus"

abbrev pub name_port : List ℕ
name_port = chars "port"

abbrev pub name_slot : List ℕ
name_slot = chars "slot"

abbrev pub name_word : List ℕ
name_word = chars "word"

abbrev pub name_reset : List ℕ
name_reset = chars "reset"

abbrev pub name_dl_up : List ℕ
name_dl_up = chars "dlup"

abbrev pub name_flr : List ℕ
name_flr = chars "flr"

abbrev pub name_d3hot : List ℕ
name_d3hot = chars "d3hot"

abbrev pub name_frs : List ℕ
name_frs = chars "frs"

abbrev pub name_yes : List ℕ
name_yes = chars "yes"

abbrev pub name_no : List ℕ
name_no = chars "no"
