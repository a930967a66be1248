-- `search::count_cells`: the cells counted, and marked, are those of the rows that it has come by, from the last to the first.
use Prim.Native.Nat.{◌≤◌, ◌<◌, ◌-◌, ◌+◌}
use mathlib.Core.Path.{◌≡◌}
use Rattle.spec.specs.Rows.{row_at, rows_from, tag_of}
use Rattle.spec.specs.Share.{cells_of}
use Rattle.search.specs.Inner.{WrittenMarks}
use Rattle.search.proofs.count_cells.Given as goal

abbrev pub invariant-loop-i : goal.invariant-loop-i
invariant-loop-i l =
    (l.n + l.i ≤ l.used) × (0 < l.i → tag_of (row_at 24 (l.i - 1) l.rows) ≡ l.tag) × (l.n ≡ cells_of l.tag (rows_from 24 l.used l.i l.rows))
    × WrittenMarks l.marks (rows_from 24 l.used l.i l.rows) l.tag

abbrev pub decreases-loop-i : goal.decreases-loop-i
decreases-loop-i l = l.i
