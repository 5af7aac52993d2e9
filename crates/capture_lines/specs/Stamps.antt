-- Stamps, differences and advances in words, each number with its unit.
use Rattle.std.specs.Prelude.{ℕ, cond, List, ◌++◌, eqb, ltb, length, get_or}
use Rattle.bits.specs.Text.{chars}
use Rattle.times.specs.declared.Nanos.{Nanos}
use Rattle.ticks.specs.declared.Stamp.{Stamp}
use Rattle.ticks.specs.declared.Ticks.{Ticks}
use Rattle.ticks.specs.Ticks.{in_nanos}
use Rattle.capture.specs.Advances.{advances}
use Rattle.text_line.specs.Text.{decimal_of, named, text_if, column_of}

-- a number in a column of ten
unfoldable pub ten_of : ℕ → List ℕ
ten_of n = text_if (ltb n 1000000000) (chars " ") ++ text_if (ltb n 100000000) (chars " ") ++ column_of n

-- ---- Stamps and differences
unfoldable pub stamp_column : Stamp → List ℕ
stamp_column s = ten_of s.0 ++ chars " ticks"

unfoldable pub stamp_text : Stamp → List ℕ
stamp_text s = named (chars "stamp ") s.0 ++ chars " ticks"

unfoldable pub clock_column : Nanos → List ℕ
clock_column t = ten_of t.0 ++ chars " ns"

-- a difference in ticks, and its time
unfoldable pub difference_text : Ticks → List ℕ
difference_text d = ten_of d.0 ++ chars " ticks = " ++ ten_of (in_nanos d).0 ++ chars " ns"

-- the same within a sentence
unfoldable pub span_text : Ticks → List ℕ
span_text d = decimal_of d.0 ++ named (chars " ticks (") (in_nanos d).0 ++ chars " ns)"

-- ---- Advances
-- how many advances a difference stands for
unfoldable pub advance_count : Ticks → ℕ
advance_count d = length (advances (in_nanos d))

-- the one at an index; 0 ns where there are no more
unfoldable pub advance_at : Ticks → ℕ → Nanos
advance_at d k = get_or (advances (in_nanos d)) k (record { 0 = 0 })

-- which one it is, where there are two
unfoldable pub part_text : (count k : ℕ) → List ℕ
part_text count k = text_if (ltb 1 count) (cond (eqb k 0) (chars "first part of ") (chars "rest of "))

-- an advance of a difference: its time, and the ticks that it comes from
unfoldable pub advance_text : Ticks → (k : ℕ) → List ℕ
advance_text d k =
    named (chars "advance ") (advance_at d k).0
    ++ chars " ns ("
    ++ part_text (advance_count d) k
    ++ decimal_of d.0
    ++ chars " ticks)"
