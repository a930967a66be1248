-- `search::own_row`: what is asked of all rows is what is asked of the rest, with the rows counted so far.
use Prim.Native.Nat.{◌≤◌, ◌<◌, ◌-◌}
use mathlib.Core.Path.{◌≡◌}
use Rattle.spec.specs.Rows.{row_at, rows_in, tag_of, has_tag}
use Rattle.spec.specs.Look.{is_own, find}
use Rattle.spec.specs.Share.{count}
use Rattle.search.specs.Inner.{row_or_count}
use Rattle.search.proofs.Rest.{own_rest}
use Rattle.search.proofs.own_row.Given as goal

abbrev pub invariant-loop-i : goal.invariant-loop-i
invariant-loop-i l =
    (l.i ≤ l.used) × (l.i < l.used → tag_of (row_at 24 l.i l.rows) ≡ l.tag) × (l.n ≤ l.i)
    × (row_or_count (find (is_own l.tag l.cell) 0 (rows_in 24 l.used l.rows)) (count (has_tag l.tag) (rows_in 24 l.used l.rows))
    ≡ own_rest l.tag l.cell l.used l.rows l.n l.i)

abbrev pub decreases-loop-i : goal.decreases-loop-i
decreases-loop-i l = l.used - l.i
