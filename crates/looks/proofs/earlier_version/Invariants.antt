-- `looks::earlier_version`: no row seen so far counts, so that no row does whose tag is not committed from least up to the snapshot.
use Prim.Native.Nat.{◌-◌, ◌≤◌, ◌<◌}
use mathlib.Core.Path.{◌≡◌}
use Rattle.spec.specs.Rows.{row_at, rows_in, cell_of}
use Rattle.std.specs.Prelude.{None}
use Rattle.looks.specs.Inner.{Seen}
use Rattle.looks.proofs.earlier_version.Given as goal

abbrev pub invariant-loop-i : goal.invariant-loop-i
invariant-loop-i l =
    (l.i ≤ l.used) × (0 < l.i → cell_of (row_at 24 (l.i - 1) l.rows) ≡ l.cell)
    × Seen l.least l.tag l.cell l.snapshot l.used l.rows (rows_in 8 l.entries l.commits) l.i None

abbrev pub decreases-loop-i : goal.decreases-loop-i
decreases-loop-i l = l.i
