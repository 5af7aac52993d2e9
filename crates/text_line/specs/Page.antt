-- Text put on a page: into its line at its index, as far as there is room.
use Rattle.std.specs.Prelude.{ℕ, List, take}
use Rattle.std.specs.Borrow.{MutBor}
use Rattle.text_line.specs.declared.text.Page.{Page}
use Rattle.text_line.specs.Line.{Lined, lined, puts}

-- the page over a line that is lent, whose next text goes to an index
abbrev pub page_over : MutBor (List ℕ) → ℕ → Page
page_over line at = record { line = line; at = at }

-- the line of a page, and the index at which the next text goes
abbrev pub lined_on : Page → Lined
lined_on page = lined page.at page.line.now

-- the same loan with another line and another index
abbrev pub with_lined : Page → Lined → Page
with_lined page x = record page { line = record page.line { now = x.line }; at = x.at }

-- a text, character by character: the page is over the same loan
unfoldable pub put : List ℕ → Page → Page
put text page = with_lined page (puts text (lined_on page))

-- the page from its front: what stands on it
abbrev pub written : Page → List ℕ
written page = take page.at page.line.now
