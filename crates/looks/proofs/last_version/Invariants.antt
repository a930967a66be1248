-- `looks::last_version`: no row from row until on counts.
use Prim.Native.Nat.{◌≤◌}
use Rattle.spec.specs.Rows.{rows_in}
use Rattle.std.specs.Prelude.{None}
use Rattle.spec.specs.Look.{least_looked}
use Rattle.looks.specs.Inner.{Seen}
use Rattle.looks.proofs.last_version.Given as goal

abbrev pub invariant-loop-turn : goal.invariant-loop-turn
invariant-loop-turn l =
    (l.until ≤ l.used)
    × Seen (least_looked l.entry l.snapshot) l.tag l.cell l.snapshot l.used l.rows (rows_in 8 l.entries l.commits) l.until None
