-- Whether the rows from `from` on have a write of the cell is whether those from i on have one: the walk passes over rows of other places only.
use Prim.Native.Nat.{◌-◌}
use mathlib.Core.Path.{◌≡◌}
use Rattle.spec.specs.Rows.{rows_from}
use Rattle.spec.specs.Share.{wrote}
use Rattle.orderly.specs.Inner.{PairWalk}
use Rattle.orderly.proofs.own_chained.Given as goal

abbrev pub invariant-loop-i : goal.invariant-loop-i
invariant-loop-i l =
    PairWalk l.used l.rows l.nexts l.tag l.cell l.i
    × (wrote (rows_from 24 l.used l.from l.rows) l.tag l.cell ≡ wrote (rows_from 24 l.used l.i l.rows) l.tag l.cell)

abbrev pub decreases-loop-i : goal.decreases-loop-i
decreases-loop-i l = l.used - l.i
