-- `rows::short_cell_at`: the number in bytes 4 and 5 of the row.
use mathlib.Core.Path.{◌∙◌}
use lib.Dec.{lit≤}
use Rattle.spec.specs.Rows.{cell_of}
use Rattle.spec.proofs.Rows.{field}
use Rattle.rows.proofs.short_cell_at.Goals as goal

pub returns : goal.returns
unfolding cell_of
returns c =
    let a = c.args in
    c.u16_at.ensures ∙ field 4 2 24 a.i a.rows.now (lit≤ tt)
