-- A trim: two removals by flags that were both set before.
-- Assumes nothing.
use Prim.Native.Nat.{ℕ}
use mathlib.Core.List.{List}
use Rattle.spec.specs.Rows.{rows_in}
use Rattle.removal.specs.Inner.{kept_from, Flags, Left}
use Rattle.removal.proofs.Moving.{kept_where}
use Rattle.spec.specs.Trim.{stays, in_use, trimmed_rows, trimmed_commits}
use Rattle.trimming.specs.Inner.{Trimmed}

pub trimmed_kept : (low n m : ℕ) (s c flags uses s' c' : List ℕ) (n' m' : ℕ)
    → Flags (stays low (rows_in 24 n s) (rows_in 8 m c)) 24 n s flags
    → Flags (in_use (trimmed_rows low (rows_in 24 n s) (rows_in 8 m c))) 8 m c uses
    → Left 24 n (kept_from flags 0 (rows_in 24 n s)) s s' n'
    → Left 8 m (kept_from uses 0 (rows_in 8 m c)) c c' m'
    → Trimmed low n m s c s' c' n' m'
unfolding trimmed_rows trimmed_commits
trimmed_kept low n m s c flags uses s' c' n' m' f g first second =
    record {
      data_rows = rw (kept_where (stays low (rows_in 24 n s) (rows_in 8 m c)) flags 24 n s f) at first;
      commit_rows = rw (kept_where (in_use (trimmed_rows low (rows_in 24 n s) (rows_in 8 m c))) uses 8 m c g) at second;
    }
