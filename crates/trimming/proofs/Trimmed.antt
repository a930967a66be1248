-- A trim: two removals, the second by what the first left.
-- Assumes nothing.
use Prim.Native.Nat.{ℕ, ◌*◌, ◌≤◌}
use mathlib.Core.Path.{◌≡◌, refl}
use mathlib.Core.Bool.{Bool}
use mathlib.Core.List.{List, []}
use lib.ListN.{length}
use Rattle.spec.specs.Rows.{Row, rows_in, filter}
use Rattle.spec.proofs.Rows.{rows_wide, filter_wide}
use Rattle.spec.proofs.Laid.{rows_laid}
use Rattle.spec.specs.Look.{commit_of}
use Rattle.removal.specs.Inner.{kept_from, Flags, Left}
use Rattle.removal.proofs.Moving.{kept_where, filter_all, left_all}
use Rattle.spec.specs.Trim.{overtaken, stays, in_use, trimmed_rows, trimmed_commits}
use Rattle.trimming.specs.Inner.{Trimmed}

pub trim_leaves : (low n m : ℕ) (s c flags marks s' c' : List ℕ) (n' m' : ℕ)
    → 24 * n ≤ length s
    → Flags (stays low (rows_in 24 n s) (rows_in 8 m c)) 24 n s flags
    → Left 24 n (kept_from flags 0 (rows_in 24 n s)) s s' n'
    → Flags (in_use (rows_in 24 n' s')) 8 m c marks
    → Left 8 m (kept_from marks 0 (rows_in 8 m c)) c c' m'
    → Trimmed low n m s c s' c' n' m'
unfolding trimmed_rows trimmed_commits
trim_leaves low n m s c flags marks s' c' n' m' l f first g second =
    let p : Row → Bool = stays low (rows_in 24 n s) (rows_in 8 m c) in
    let left : List Row = filter p (rows_in 24 n s) in
    let one : Left 24 n left s s' n' = rw (kept_where p flags 24 n s f) at first in
    let rows : rows_in 24 n' s' ≡ left = rw (one.rows, one.bytes) (rows_laid 24 n left s (filter_wide 24 p (rows_in 24 n s) (rows_wide 24 n s l))) in
    let two : Left 8 m (filter (in_use (rows_in 24 n' s')) (rows_in 8 m c)) c c' m' = rw (kept_where (in_use (rows_in 24 n' s')) marks 8 m c g)
    at second in
    record { data_rows = one; commit_rows = rw rows at two }

-- no row is committed
pub untrimmed : (low n : ℕ) (s c : List ℕ) → Trimmed low n 0 s c s c n 0
unfolding trimmed_rows trimmed_commits filter stays overtaken commit_of rows_in
untrimmed low n s c =
    record {
      data_rows = left_all 24 n s _ (filter_all (stays low (rows_in 24 n s) []) 24 n s (λ k h. refl));
      commit_rows = left_all 8 0 c [] refl;
    }
