-- `looks::look_before`: the best of the rows seen is numbered number or above, so that no row counts whose tag is not committed from there on.
use Prim.Native.Nat.{◌-◌, ◌≤◌, ◌<◌}
use mathlib.Core.Path.{◌≡◌}
use Rattle.spec.specs.Rows.{row_at, rows_in, cell_of}
use Rattle.spec.specs.Look.{least_looked}
use Rattle.looks.specs.Inner.{Seen}
use Rattle.looks.proofs.Recent.{NumberedFrom}
use Rattle.looks.proofs.look_before.Given as goal

abbrev pub invariant-loop-i : goal.invariant-loop-i
invariant-loop-i l =
    (l.i ≤ l.used) × (0 < l.i → cell_of (row_at 24 (l.i - 1) l.rows) ≡ l.cell) × NumberedFrom l.last.number l.best
    × Seen (least_looked l.entry l.snapshot) l.tag l.cell l.snapshot l.used l.rows (rows_in 8 l.entries l.commits) l.i l.best

abbrev pub decreases-loop-i : goal.decreases-loop-i
decreases-loop-i l = l.i
