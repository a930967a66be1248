-- `search::has_written`: by the rows, for a cell above 1,023.
use mathlib.Core.Path.{◌∙◌}
use Rattle.spec.proofs.Rows.{rows_start}
use Rattle.search.proofs.has_written.Goals as goal

pub returns-else-cell-lt1024 : goal.returns-else-cell-lt1024
returns-else-cell-lt1024 c = c.wrote_from.ensures ∙ rw (← rows_start 24 c.args.used c.args.rows.now)
