-- `looks::own_version`: row at is the first own one of the rows from row i on, whatever stands behind row k.
use Prim.Native.Nat.{◌-◌, ◌≤◌, ◌<◌}
use mathlib.Core.Path.{◌≡◌}
use Rattle.spec.specs.Rows.{row_at, tag_of}
use Rattle.looks.proofs.Sight.{FirstOwn}
use Rattle.looks.proofs.own_version.Given as goal

abbrev pub invariant-loop-i : goal.invariant-loop-i
invariant-loop-i l = (l.i ≤ l.k) × (0 < l.i → tag_of (row_at 24 (l.i - 1) l.rows) ≡ l.tag) × FirstOwn l.tag l.cell l.k l.rows l.i l.at

abbrev pub decreases-loop-i : goal.decreases-loop-i
decreases-loop-i l = l.i
