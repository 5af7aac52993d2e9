-- `text_line::text::Page::put_grouped` goes down by a group.
use Rattle.text_line.proofs.text.Page.+put_grouped.Given as goal

abbrev pub decreases-put_grouped : goal.decreases-put_grouped
decreases-put_grouped l = l.n
