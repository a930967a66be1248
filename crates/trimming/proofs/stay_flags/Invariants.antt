-- The flags below i are right.
use Prim.Native.Nat.{ℕ, ◌<◌}
use mathlib.Core.Path.{◌≡◌}
use lib.ListN.{length, get_or}
use Rattle.std.specs.Prelude.{if◌then◌else◌}
use Rattle.spec.specs.Rows.{row_at, rows_in}
use Rattle.spec.specs.Trim.{stays}
use Rattle.trimming.proofs.stay_flags.Given as goal

abbrev pub invariant-loop-i : goal.invariant-loop-i
invariant-loop-i l =
    (length l.flags ≡ 1024) × ((k : ℕ) → k < l.i → get_or l.flags k 0 ≡ (if stays l.low (rows_in 24 l.used l.rows) (rows_in 8 l.entries l.commits)
    (row_at 24 k l.rows) then 1 else 0))
