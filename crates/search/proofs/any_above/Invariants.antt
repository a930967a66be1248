-- `search::any_above`: what is looked for in all committed rows was found or is looked for in the rest.
use mathlib.Core.Path.{◌≡◌}
use mathlib.Core.Bool.{◌||◌}
use lib.Dec.{ltb}
use Rattle.spec.specs.Rows.{rows_in, rows_from, commit_number}
use Rattle.spec.specs.Share.{any}
use Rattle.search.proofs.any_above.Given as goal

abbrev pub invariant-loop-i : goal.invariant-loop-i
invariant-loop-i l =
    any (λ c. ltb l.s (commit_number c)) (rows_in 8 l.entries l.commits)
    ≡ (l.found || any (λ c. ltb l.s (commit_number c)) (rows_from 8 l.entries l.i l.commits))
