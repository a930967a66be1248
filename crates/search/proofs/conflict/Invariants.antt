-- `search::conflict`: the smallest of all rows is the lesser of the smallest so far and that of the rest; rows of cells that the transaction cannot
-- have written are passed over; nothing where no commit is above the snapshot.
use Prim.Native.Nat.{◌-◌}
use mathlib.Core.Path.{◌≡◌}
use Rattle.spec.specs.Rows.{rows_in}
use Rattle.spec.specs.Share.{conflict}
use Rattle.search.proofs.Clashes.{clash_rest}
use Rattle.search.proofs.conflict.Given as goal

abbrev pub invariant-loop-i : goal.invariant-loop-i
invariant-loop-i l =
    conflict l.tag l.snapshot (rows_in 24 l.used l.rows) (rows_in 8 l.entries l.commits)
    ≡ clash_rest l.tag l.snapshot l.used l.rows (rows_in 8 l.entries l.commits) l.best l.i

abbrev pub decreases-loop-i : goal.decreases-loop-i
decreases-loop-i l = l.used - l.i
