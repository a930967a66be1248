-- The laws by which what a Trim leaves is found: how many rows stay at most, and low.
-- Assumes nothing.
use Rattle.std.specs.Prelude.{None, Some}
use Rattle.std.specs.Option.{unwrap_or}
use Prim.Native.Nat.{ℕ, ◌≤◌}
use mathlib.Core.Path.{◌≡◌, refl}
use mathlib.Core.List.{List}
use Rattle.spec.specs.Set.{clients}
use lib.ListN.{length}
use Rattle.spec.specs.Rows.{Row}
use Rattle.spec.proofs.Rows.{filter_fewer}
use Rattle.spec.specs.Trim.{stays, in_use, trimmed_rows, trimmed_commits}
use Rattle.spec.specs.Numbers.{Number, smallest}
use Rattle.spec.specs.Image.{Image}
use Rattle.spec.specs.Calls.{readers, or_number, low}
use Rattle.record.proofs.Leaves.{left_by_calls}

-- a trim leaves no more rows than there were
pub rows_fewer : (l : ℕ) (ds cs : List Row) → length (trimmed_rows l ds cs) ≤ length ds
unfolding trimmed_rows
rows_fewer l ds cs = filter_fewer (stays l ds cs) ds

pub commits_fewer : (ds cs : List Row) → length (trimmed_commits ds cs) ≤ length cs
unfolding trimmed_commits
commits_fewer ds cs = filter_fewer (in_use ds) cs

-- low, by the smallest snapshot of open transactions, if there is one
pub low_is : (i : Image) → low i ≡ unwrap_or (smallest (readers i clients)) i.counters.last
unfolding low
low_is i = go (smallest (readers i clients))
  where
    go : (s : Number) → or_number s i.counters.last ≡ unwrap_or s i.counters.last
    go (Some n) = refl
    go None = refl

pub ruleset trimmed = (left_by_calls, rows_fewer, commits_fewer, low_is)
