-- The numbers below i are right, and any row later among all is one that is noted or one among the rows from i on.
use Prim.Native.Nat.{ℕ, ◌<◌}
use mathlib.Core.Path.{◌≡◌}
use lib.ListN.{length, get_or}
use Rattle.spec.specs.Rows.{row_at, rows_in, tag_of}
use Rattle.spec.specs.Look.{commit_of}
use Rattle.trimming.specs.Inner.{number_or}
use Rattle.trimming.proofs.Newest.{Wanted}
use Rattle.trimming.proofs.note_rows.Given as goal

abbrev pub invariant-loop-i : goal.invariant-loop-i
invariant-loop-i l =
    (length l.newest ≡ 1024) × (length l.numbers ≡ 1024) × (l.commit ≡ commit_of l.last (rows_in 8 l.entries l.commits))
    × ((k : ℕ) → k < l.i → get_or l.numbers k 0 ≡ number_or (commit_of (tag_of (row_at 24 k l.rows)) (rows_in 8 l.entries l.commits)))
    × Wanted (rows_in 8 l.entries l.commits) l.low l.used l.rows l.newest l.i
