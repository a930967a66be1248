-- The rows from i on are orderly and linked, and `above` is the number of row i.
use Prim.Native.Nat.{ℕ, ◌≤◌, ◌<◌}
use mathlib.Core.Path.{◌≡◌}
use mathlib.Core.Bool.{true}
use lib.Dec.{ltb}
use Rattle.spec.specs.Rows.{rows_from}
use Rattle.orderly.specs.Inner.{tag_place, Linked}
use Rattle.spec.specs.Orderly.{under, orderly_commits}
use Rattle.orderly.proofs.commits_orderly.Given as goal

abbrev pub invariant-loop-k : goal.invariant-loop-k
invariant-loop-k l =
    (l.k ≤ l.entries) × Linked 4096 (tag_place l.commits) l.entries l.k l.heads l.nexts
    × (orderly_commits (rows_from 8 l.entries l.k l.commits) ≡ true)
    × ((v : ℕ) → v < 4294967296 → under v (rows_from 8 l.entries l.k l.commits) ≡ ltb v l.above)
