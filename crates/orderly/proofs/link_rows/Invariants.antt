-- The rows from i on are linked by their committed rows, and `at` is the committed row of the tag `last`.
use Prim.Native.Nat.{◌≤◌}
use mathlib.Core.Path.{◌≡◌}
use Rattle.spec.specs.Rows.{rows_in}
use Rattle.orderly.specs.Inner.{entry_of, row_entry, entry_places, Linked}
use Rattle.orderly.proofs.link_rows.Given as goal

abbrev pub invariant-loop-k : goal.invariant-loop-k
invariant-loop-k l =
    (l.k ≤ l.used) × Linked entry_places (row_entry l.entries l.commits l.rows) l.used l.k l.firsts l.follows
    × (l.at ≡ entry_of l.last (rows_in 8 l.entries l.commits))
