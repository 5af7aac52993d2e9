-- The totals of a list in words, or why there are none.
use Rattle.std.specs.Prelude.{ℕ, cond, List, [], ◌++◌, eqb, ℤ}
use Rattle.bits.specs.Text.{chars}
use Rattle.text_line.specs.Text.{grouped_of}
use Rattle.lateness.specs.declared.Report.{Report}
use Rattle.describe_lateness.specs.Signed.{difference_text}

unfoldable pub counts_text : Report → List ℕ
counts_text r = chars "early " ++ grouped_of r.early ++ chars ", on time " ++ grouped_of r.on_time ++ chars ", late " ++ grouped_of r.late

unfoldable pub range_text : (least greatest sum : ℤ) → List ℕ
range_text least greatest sum = chars "least " ++ difference_text least ++ chars ", greatest " ++ difference_text greatest ++ chars ", sum " ++ difference_text sum

-- 34 and 35, and nothing for a list that isn't refused
unfoldable pub refusal_text : (number : ℕ) → List ℕ
refusal_text number =
    cond (eqb number 34) (chars "34 (a difference outside +/-10^15 ns): no totals")
    (cond (eqb number 35) (chars "35 (more than 9,000 differences): no totals") [])
