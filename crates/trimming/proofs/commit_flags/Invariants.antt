-- The flags below i are right.
use Prim.Native.Nat.{ℕ, ◌<◌}
use mathlib.Core.Path.{◌≡◌}
use lib.ListN.{length, get_or}
use Rattle.std.specs.Prelude.{if◌then◌else◌}
use Rattle.spec.specs.Rows.{row_at, rows_in}
use Rattle.spec.specs.Trim.{in_use}
use Rattle.trimming.proofs.commit_flags.Given as goal

abbrev pub invariant-loop-i : goal.invariant-loop-i
invariant-loop-i l =
    (length l.flags ≡ 1024) × ((k : ℕ) → k < l.i → get_or l.flags k 0 ≡ (if in_use (rows_in 24 l.left l.rows) (row_at 8 k l.commits) then 1 else 0))
