-- How a table ends.
use Rattle.std.specs.Prelude.{Bool, not, eqb}
use Rattle.lateness.specs.declared.Report.{Report}

-- whether there are no totals: 34 or 35
unfoldable pub is_refused : Report → Bool
is_refused r = not (eqb r.number 0)
